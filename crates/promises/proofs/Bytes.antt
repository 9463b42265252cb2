-- Records and maps as bytes: a record handed over and back is the same, and a map written into a buffer is what is read off it.
use Prim.Native.Nat.{ℕ, suc, ◌+◌, ◌-◌, ◌*◌, ◌≤◌}
use mathlib.Core.Bool.{true}
use mathlib.Core.List.{List, [], ◌∷◌, ◌++◌, map, append_assoc}
use mathlib.Core.Path.{◌≡◌, refl, sym, ◌∙◌, ap}
use native.Mathlib.Omega.{arith}
use lib.Dec.{eqb}
use lib.ListN.{length, get_or, drop, replicate, length-append, length-drop, length-replicate}
use lib.Seq.{get_or_at, get_or-append-add, drop-append_seam}
use borrow.Author.Tests.{eqb-true, eq-eqb}
use Rattle.basics.specs.Lists.{member}
use Rattle.basics.proofs.Tests.{case, and_intro, never}
use Rattle.basics.proofs.Laws.{member-nil, member-head, member-tail, member-cases, get_or-zeros}
use Rattle.packed.specs.Graph.{Graph}
use Rattle.settings.specs.Settings.{Settings}
use Rattle.order.specs.Order.{node_order}
use Rattle.order.specs.Paper.{written}
use Rattle.rules.specs.Task.{Task, exchange}
use Rattle.rules.specs.Search.{Record, accepted_record}
use Rattle.rules.specs.Handed.{chosen, record_of, in_order, path_bytes, handed, zero_beyond, accepted_handed}
use Rattle.rules.specs.Calls.{id_pairs}
use Rattle.rules.proofs.Handed.{in-order-length, path-bytes-back}
use Rattle.placements.proofs.Tests.{all-intro, all-elim}
use Rattle.promises.specs.Sessions.{Map, map_in, image}

-- Records

beyond-at : (before : List ℕ) (k i : ℕ) → length before ≤ i → get_or (before ++ replicate k 0) i 0 ≡ 0
beyond-at before k i h =
    let sum : i ≡ length before + (i - length before) = omega arith in
    rw sum (get_or-append-add before (replicate k 0) (i - length before) 0 ∙ get_or-zeros k (i - length before))

chosen-in-order : (path z : List ℕ) → chosen (length path) (in_order path ++ z) ≡ path
unfolding chosen in_order
chosen-in-order [] z = refl
chosen-in-order (x ∷ path) z =
    rw (append_assoc (in_order path) (x ∷ []) z)
    (λ i. get_or_at (in_order path) x z 0 (length path) (in-order-length path) i ∷ chosen-in-order path (x ∷ z) i)

-- handed over and back
pub record-again : (r : Record) → record_of (handed r) ≡ r
record-again r =
    λ i. record { path = chosen-in-order r.path (replicate (128 - length r.path) 0) i; top = r.top; accepted = r.accepted }

handed-zero : (path : List ℕ) → zero_beyond (length path) (path_bytes path) ≡ true
handed-zero path =
    all-intro (λ i. eqb (get_or (path_bytes path) i 0) 0) (128 - length path) (length path)
    (λ i l m.
    eq-eqb (get_or (path_bytes path) i 0) 0 (beyond-at (in_order path) (128 - length path) i (omega (arith, in-order-length path))))

pub accepted-handed : (t : Task) (r : Record) → accepted_record t r ≡ true → accepted_handed t (handed r) ≡ true
accepted-handed t r e = and_intro (handed-zero r.path) (ap (accepted_record t) (record-again r) ∙ e)

pub bytes-again : (d : ℕ) (path : List ℕ) → length path ≡ 128 → d ≤ 128 → zero_beyond d path ≡ true → path_bytes (chosen d path) ≡ path
bytes-again d path long most zero' =
    path-bytes-back d path long most
    (λ i l m. eqb-true (get_or path i 0) 0 (all-elim (λ i. eqb (get_or path i 0) 0) (128 - d) d zero' i l (omega arith)))

pub handed-length : (path : List ℕ) → length path ≤ 128 → length (path_bytes path) ≡ 128
handed-length path h =
    length-append (in_order path) (replicate (128 - length path) 0)
    ∙ omega (arith, in-order-length path, length-zeros (128 - length path))
  where
    length-zeros : (n : ℕ) → length {A = ℕ} (replicate n 0) ≡ n
    length-zeros n = length-replicate n 0

-- Maps

module _ (s : Settings) (g₀ g₁ : Graph) where
  abbrev pub ids : ℕ × ℕ → ℕ × ℕ
  ids p = (get_or (node_order s.vf2pp g₀) p.0 0, get_or (node_order s.vf2pp g₁) p.1 0)

  pub map_read : (ps : List (ℕ × ℕ)) (rest : List ℕ) → map_in (length ps) (id_pairs s g₀ g₁ ps ++ rest) ≡ map ids ps
  unfolding map_in id_pairs
  map_read [] rest = refl
  map_read (p ∷ ps) rest = ap (λ m. ids p ∷ m) (map_read ps rest)

  pub pairs-length : (ps : List (ℕ × ℕ)) → length (id_pairs s g₀ g₁ ps) ≡ 2 * length ps
  unfolding id_pairs
  pairs-length [] = refl
  pairs-length (p ∷ ps) = ap (λ k. suc (suc k)) (pairs-length ps) ∙ omega arith

-- the rest of a buffer stays
pub written-rest : (l buffer : List ℕ) → drop (length l) (written l buffer) ≡ drop (length l) buffer
written-rest l buffer = drop-append_seam l (drop (length l) buffer)

pub written-length : (l buffer : List ℕ) → length l ≤ length buffer → length (written l buffer) ≡ length buffer
written-length l buffer h =
    length-append l (drop (length l) buffer) ∙ omega (arith, length-drop (length l) buffer)

-- a map that shows φ
abbrev pub showing : (ℕ → ℕ) → List ℕ → Map
showing φ l = map (λ v. (φ v, v)) l

pub image-at : (φ : ℕ → ℕ) (l : List ℕ) (v : ℕ) → member v l ≡ true → image (showing φ l) v ≡ φ v
unfolding image
image-at φ [] v m = never _ m (member-nil v)
image-at φ (w ∷ l) v m =
    case (eqb w v)
    (λ e. rw (e, image) (ap φ (eqb-true w v e)))
    (λ e. rw (e, image)
    (member-cases v w l m (λ z. never _ (eq-eqb w v (sym z)) e) (λ q. image-at φ l v q)))

pub image-back : (φ : ℕ → ℕ) (l : List ℕ) (w a : ℕ) → member w l ≡ true → φ w ≡ a → ((v : ℕ) → φ v ≡ a → member v l ≡ true → v ≡ w)
    → image (map exchange (showing φ l)) a ≡ w
unfolding image
image-back φ [] w a m e h = never _ m (member-nil w)
image-back φ (v ∷ l) w a m e h =
    case (eqb (φ v) a)
    (λ k. rw (k, image) (h v (eqb-true (φ v) a k) (member-head v l)))
    (λ k. rw (k, image)
    (member-cases w v l m (λ z. never _ (eq-eqb (φ v) a (ap φ (sym z) ∙ e)) k)
    (λ q. image-back φ l w a q e (λ u f n. h u f (member-tail u v l n)))))

pub seconds : (φ : ℕ → ℕ) (l : List ℕ) → map (λ p. p.1) (showing φ l) ≡ l
seconds φ [] = refl
seconds φ (v ∷ l) = ap (λ r. v ∷ r) (seconds φ l)
