-- The search as a chain of its steps, with the pairs that it accepts and the maps that it finds on the way; from Outer on an accepted
-- path it comes to Unwind on that path, with the numbers and the maps of the recursion.
use Prim.Native.Nat.{ℕ, zero, suc, ◌+◌, ◌-◌, ◌≤◌, ◌<◌}
use mathlib.Core.Bool.{Bool, true, false, cond}
use mathlib.Core.List.{List, [], ◌∷◌, ◌++◌, append-nil, append_assoc, nil≢cons, head-eq_of_cons-eq, tail-eq_of_cons-eq}
use mathlib.Core.Option.{none, some}
use mathlib.Core.Path.{◌≡◌, refl, sym, ◌∙◌, ap}
use native.Mathlib.Omega.{arith}
use lib.ListN.{length}
use borrow.Author.Tests.{lt-ltb}
use Rattle.basics.specs.Lists.{from, keep, total, member}
use Rattle.basics.proofs.Tests.{case, option_case, none-not-some}
use Rattle.basics.proofs.Laws.{from-none, from_suc, keep-nil, keep-true, keep-false, keep-same-from, total-nil, total-cons, member-head, member-tail}
use Rattle.packed.specs.Graph.{nodes}
use Rattle.rules.specs.Task.{Task}
use Rattle.rules.specs.Marks.{Candidate, head, next_from}
use Rattle.rules.specs.Search.{Top, Outer, Inner, Unwind, pairs_of, candidate_at, inner_or, onward, accepts, offered, accepted_path}
use Rattle.placements.specs.Listed.{joined, tried, whole, itself, or_itself, maps_from, steps_from, pairs_from, listed, steps_of, accepted_of}
use Rattle.placements.proofs.Candidates.{in_list₀, offered-at}
use Rattle.rules.proofs.Stays.{candidate-least, path-joined}
use Rattle.placements.proofs.Paths.{accepted-nil, tried-offered, tried-none, no-candidate}

-- what is kept after the first that is kept
first-kept : (p : ℕ → Bool) (k i x : ℕ) (r : List ℕ) → keep p (from i k) ≡ x ∷ r
    → (keep p (from (suc x) (i + k - suc x)) ≡ r) × (i ≤ x) × (x < i + k)
first-kept p zero i x r e = absurd (nil≢cons (sym (keep-nil p) ∙ (rw (from-none i) at e)))
first-kept p (suc k) i x r e =
    case (p i)
    (λ h.
    let f : (i ∷ keep p (from (suc i) k)) ≡ x ∷ r = rw (from_suc, keep-true p i (from (suc i) k) h) at e in
    let here : i ≡ x = head-eq_of_cons-eq f in
    let rest : i + suc k - suc x ≡ k = omega arith in
    (rw (rest, ← here) (tail-eq_of_cons-eq f), omega arith, omega arith))
    (λ h.
    let f : keep p (from (suc i) k) ≡ x ∷ r = rw (from_suc, keep-false p i (from (suc i) k) h) at e in
    let further = first-kept p k (suc i) x r f in
    let same : i + suc k ≡ suc i + k = omega arith in
    (rw same further.0, omega arith, omega arith))

pub joined-nil : (f : ℕ → List (List ℕ)) → joined f [] ≡ []
unfolding joined
joined-nil f = refl

pub joined-cons : (f : ℕ → List (List ℕ)) (x : ℕ) (xs : List ℕ) → joined f (x ∷ xs) ≡ f x ++ joined f xs
unfolding joined
joined-cons f x xs = refl

pub next-kept : (p : ℕ → Bool) (n i x : ℕ) (r : List ℕ) → keep p (from i (n - i)) ≡ x ∷ r → keep p (from (suc x) (n - suc x)) ≡ r
next-kept p n i x r e =
    let first = first-kept p (n - i) i x r e in
    let same : i + (n - i) - suc x ≡ n - suc x = omega (arith, first.1, first.2) in
    rw same at first.0

module _ (t : Task) where
  -- so many steps, pairs accepted and maps found, from a path and top to another
  pub data Search : List ℕ → Top → ℕ → ℕ → List (List ℕ) → List ℕ → Top → Type 0 where
    nothing : {path : List ℕ} {top : Top} → Search path top 0 0 [] path top
    opened : {path end : List ℕ} {last : Top} {s m : ℕ} {o : List (List ℕ)} {c : Candidate} → candidate_at t path ≡ some c
        → Search path (Inner c.node₀) s m o end last → Search path Outer (suc s) m o end last
    closed : {path end : List ℕ} {last : Top} {s m : ℕ} {o : List (List ℕ)} → candidate_at t path ≡ none → whole t path ≡ false
        → Search path Unwind s m o end last → Search path Outer (suc s) m o end last
    found : {path end : List ℕ} {last : Top} {s m : ℕ} {o : List (List ℕ)} → candidate_at t path ≡ none → whole t path ≡ true
        → Search path Unwind s m o end last → Search path Outer (suc s) m (path ∷ o) end last
    taken : {path end : List ℕ} {last : Top} {s m x : ℕ} {o : List (List ℕ)} → accepts t path x ≡ true
        → Search (x ∷ path) Outer s m o end last → Search path (Inner x) (suc s) (suc m) o end last
    passed : {path end : List ℕ} {last : Top} {s m x : ℕ} {o : List (List ℕ)} → accepts t path x ≡ false
        → Search path (onward t path x) s m o end last → Search path (Inner x) (suc s) m o end last
    left : {path end : List ℕ} {last : Top} {s m x : ℕ} {o : List (List ℕ)}
        → Search path (onward t path x) s m o end last → Search (x ∷ path) Unwind (suc s) m o end last

  pub retold : {path end : List ℕ} {top last : Top} {s s' m m' : ℕ} {o o' : List (List ℕ)} → s ≡ s' → m ≡ m' → o ≡ o'
      → Search path top s m o end last → Search path top s' m' o' end last
  retold p q r x = rw (← p, ← q, ← r) x

  -- one search after the other
  pub then : {path mid end : List ℕ} {top turn last : Top} {s s' m m' : ℕ} {o o' : List (List ℕ)}
      → Search path top s m o mid turn → Search mid turn s' m' o' end last → Search path top (s + s') (m + m') (o ++ o') end last
  then nothing y = retold (omega arith) (omega arith) refl y
  then (opened e x) y = retold (omega arith) refl refl (opened e (then x y))
  then (closed e f x) y = retold (omega arith) refl refl (closed e f (then x y))
  then (found e f x) y = retold (omega arith) refl refl (found e f (then x y))
  then (taken e x) y = retold (omega arith) (omega arith) refl (taken e (then x y))
  then (passed e x) y = retold (omega arith) refl refl (passed e (then x y))
  then (left x) y = retold (omega arith) refl refl (left (then x y))

  -- the nodes that are tried are those of the candidate's list
  pub tried-list : (path : List ℕ) (c : Candidate) → candidate_at t path ≡ some c
      → tried t path ≡ keep (in_list₀ t (pairs_of t path) c.list) (from 0 (nodes t.graph₀))
  unfolding tried
  tried-list path c e =
      keep-same-from (offered t path) (in_list₀ t (pairs_of t path) c.list) (nodes t.graph₀)
      (λ x l. offered-at t path c x e ∙ rw (lt-ltb x (nodes t.graph₀) l))

  pub tried-first : (path : List ℕ) (c : Candidate) → candidate_at t path ≡ some c → head (tried t path) ≡ some c.node₀
  tried-first path c e =
      let whole_run : nodes t.graph₀ - 0 ≡ nodes t.graph₀ = omega arith in
      rw (tried-list path c e) (rw whole_run at (candidate-least t (pairs_of t path) c e).0)

  -- the next one
  pub onward-next : (path : List ℕ) (c : Candidate) (x : ℕ) (r : List ℕ) → candidate_at t path ≡ some c
      → keep (in_list₀ t (pairs_of t path) c.list) (from (suc x) (nodes t.graph₀ - suc x)) ≡ r → onward t path x ≡ inner_or (head r)
  unfolding onward next_from
  onward-next path c x r e h = rw (e, h)

  pub steps-last : (path : List ℕ) → steps_from t 0 path ≡ 1
  unfolding steps_from
  steps-last path = refl

  pub pairs-last : (path : List ℕ) → pairs_from t 0 path ≡ 0
  unfolding pairs_from
  pairs-last path = refl

  pub maps-last : (path : List ℕ) → maps_from t 0 path ≡ itself t path
  unfolding maps_from
  maps-last path = refl

  module _ (k : ℕ) (path : List ℕ) where
    abbrev pub steps_at : ℕ → ℕ
    steps_at x = cond (accepts t path x) (suc (suc (steps_from t k (x ∷ path)))) 1

    abbrev pub pairs_at : ℕ → ℕ
    pairs_at x = cond (accepts t path x) (suc (pairs_from t k (x ∷ path))) 0

    abbrev pub maps_at : ℕ → List (List ℕ)
    maps_at x = cond (accepts t path x) (maps_from t k (x ∷ path)) []

    pub steps-more : steps_from t (suc k) path ≡ suc (total steps_at (tried t path))
    unfolding steps_from
    steps-more = refl

    pub pairs-more : pairs_from t (suc k) path ≡ total pairs_at (tried t path)
    unfolding pairs_from
    pairs-more = refl

    pub maps-more : maps_from t (suc k) path ≡ or_itself t path (tried t path) (joined maps_at (tried t path))
    unfolding maps_from
    maps-more = refl

  -- below a path: from Outer on it, whatever follows its Unwind
  abbrev pub Below : List ℕ → Top → ℕ → List ℕ → Type 0
  Below end last k path =
      (s m : ℕ) (o : List (List ℕ)) → Search path Unwind s m o end last
      → Search path Outer (steps_from t k path + s) (pairs_from t k path + m) (maps_from t k path ++ o) end last

  module _ (end : List ℕ) (last : Top) where
    -- the nodes that are still to be tried
    branches : (k : ℕ) (path : List ℕ) (c : Candidate) → candidate_at t path ≡ some c → (i : ℕ) (r : List ℕ)
        → keep (in_list₀ t (pairs_of t path) c.list) (from i (nodes t.graph₀ - i)) ≡ r
        → ((x : ℕ) → member x r ≡ true → accepts t path x ≡ true → Below end last k (x ∷ path))
        → {s m : ℕ} {o : List (List ℕ)} → Search path Unwind s m o end last
        → Search path (inner_or (head r)) (total (steps_at k path) r + s) (total (pairs_at k path) r + m) (joined (maps_at k path) r ++ o) end last
    branches k path c e i [] h kids {s} {m} {o} x =
        retold (omega (arith, total-nil (steps_at k path))) (omega (arith, total-nil (pairs_at k path))) (rw (joined-nil (maps_at k path))) x
    branches k path c e i (a ∷ r) h kids {s} {m} {o} x =
        let rest = next-kept (in_list₀ t (pairs_of t path) c.list) (nodes t.graph₀) i a r h in
        let further = branches k path c e (suc a) r rest (λ y l f. kids y (member-tail y a r l) f) x in
        let next : Search path (onward t path a) (total (steps_at k path) r + s) (total (pairs_at k path) r + m)
        (joined (maps_at k path) r ++ o) end last =
        rw (onward-next path c a r e rest) further in
        case (accepts t path a)
        (λ f.
        let steps-here : steps_at k path a ≡ suc (suc (steps_from t k (a ∷ path))) = rw f in
        let pairs-here : pairs_at k path a ≡ suc (pairs_from t k (a ∷ path)) = rw f in
        let maps-here : maps_at k path a ≡ maps_from t k (a ∷ path) = rw f in
        retold (omega (arith, total-cons (steps_at k path) a r)) (omega (arith, total-cons (pairs_at k path) a r))
        (rw (joined-cons (maps_at k path) a r, maps-here) (sym (append_assoc (maps_from t k (a ∷ path)) (joined (maps_at k path) r) o)))
        (taken f (kids a (member-head a r) f _ _ _ (left next))))
        (λ f.
        let steps-here : steps_at k path a ≡ 1 = rw f in
        let pairs-here : pairs_at k path a ≡ 0 = rw f in
        let maps-here : maps_at k path a ≡ [] = rw f in
        retold (omega (arith, total-cons (steps_at k path) a r)) (omega (arith, total-cons (pairs_at k path) a r))
        (rw (joined-cons (maps_at k path) a r, maps-here))
        (passed f next))

    -- no candidate
    alone : (path : List ℕ) → candidate_at t path ≡ none → {s m : ℕ} {o : List (List ℕ)} → Search path Unwind s m o end last
        → Search path Outer (suc s) m (itself t path ++ o) end last
    alone path e x = case (whole t path) (λ w. rw w (found e w x)) (λ w. rw w (closed e w x))

    pub or-others : (path l : List ℕ) (x : ℕ) (maps : List (List ℕ)) → head l ≡ some x → or_itself t path l maps ≡ maps
    or-others path [] x maps e = none-not-some e
    or-others path (y ∷ l) x maps e = refl

    pub below : (k : ℕ) (path : List ℕ) → accepted_path t path ≡ true → nodes t.graph₁ ≤ k + length path → Below end last k path
    below zero path a h s m o x =
        retold (omega (arith, steps-last path)) (omega (arith, pairs-last path)) (rw (maps-last path))
        (alone path (no-candidate t path a (omega arith)) x)
    below (suc k) path a h s m o x =
        option_case (candidate_at t path)
        (λ e.
        let none_Tried = tried-none t path e in
        let steps : total (steps_at k path) (tried t path) ≡ 0 = rw none_Tried (total-nil (steps_at k path)) in
        let pairs : total (pairs_at k path) (tried t path) ≡ 0 = rw none_Tried (total-nil (pairs_at k path)) in
        retold (omega (arith, steps-more k path)) (omega (arith, pairs-more k path)) (rw (maps-more k path, none_Tried)) (alone path e x))
        (λ c e.
        let n = nodes t.graph₀ in
        let list = tried-list path c e in
        let whole_run : n - 0 ≡ n = omega arith in
        let first = tried-first path c e in
        let all = branches k path c e 0 (tried t path) (rw whole_run (sym list))
        (λ y l f. below k (y ∷ path) (path-joined t y path a (tried-offered t path y l) f) (omega arith)) x in
        retold (omega (arith, steps-more k path)) (ap (λ z. z + m) (sym (pairs-more k path)))
        (rw (maps-more k path, or-others path (tried t path) c.node₀ (joined (maps_at k path) (tried t path)) first))
        (opened e (rw first at all)))

  -- the whole search
  pub searched : Search [] Outer (steps_of t) (accepted_of t) (listed t) [] Unwind
  searched =
      retold (omega arith) (omega arith) (append-nil (listed t))
      (below [] Unwind (nodes t.graph₁) [] (accepted-nil t) (omega arith) 0 0 [] nothing)
