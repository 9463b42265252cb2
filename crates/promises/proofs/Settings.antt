-- Settings without a limit are five bytes: the switches in the first, zero in the others. That they read back is computed for all 32.
use Prim.Native.Nat.{ℕ, ◌+◌}
use mathlib.Core.Bool.{Bool, true, false, cond, ◌&&◌, not}
use mathlib.Core.List.{List, [], ◌∷◌}
use mathlib.Core.Option.{none, some}
use mathlib.Core.Path.{◌≡◌, refl}
use lib.Dec.{eqb}
use borrow.Author.Tests.{not-true}
use Rattle.placements.specs.Calls.{without_limit}
use Rattle.basics.proofs.Tests.{and_left, and_right}
use Rattle.bits.specs.Bits.{field}
use Rattle.settings.specs.Settings.{Settings, ordering, is_set, limited, limit_field, settings_of, bad_settings}

bytes : Bool → Bool → Bool → Bool → Bool → List ℕ
bytes greater vf2pp induced node_labels edge_labels =
    (cond greater 64 0 + (cond vf2pp 32 0 + (cond induced 16 0 + (cond node_labels 8 0 + cond edge_labels 4 0)))) ∷ 0 ∷ 0 ∷ 0 ∷ 0 ∷ []

abbrev same : Bool → Bool → Bool
same true b = b
same false b = not b

same_true : (a b : Bool) → same a b ≡ true → b ≡ a
same_true true b e = e
same_true false b e = not-true b e

-- what is read back
abbrev fits : Bool → Bool → Bool → Bool → Bool → List ℕ → Bool
fits g v i n e s =
    same g (eqb (ordering s) 1)
    && (same v (is_set s 2) && (same i (is_set s 3) && (same n (is_set s 4) && (same e (is_set s 5) && (not (limited s) && not (bad_settings s))))))

abbrev every : (Bool → Bool) → Bool
every p = p true && p false

every_one : (p : Bool → Bool) → every p ≡ true → (b : Bool) → p b ≡ true
every_one p e true = and_left (p true) (p false) e
every_one p e false = and_right (p true) (p false) e

all_fit : every (λ g. every (λ v. every (λ i. every (λ n. every (λ e. fits g v i n e (bytes g v i n e)))))) ≡ true
unfolding bytes field
all_fit = refl

each_fits : (g v i n e : Bool) → fits g v i n e (bytes g v i n e) ≡ true
each_fits g v i n e =
    every_one (λ e. fits g v i n e (bytes g v i n e))
    (every_one (λ n. every (λ e. fits g v i n e (bytes g v i n e)))
    (every_one (λ i. every (λ n. every (λ e. fits g v i n e (bytes g v i n e))))
    (every_one (λ v. every (λ i. every (λ n. every (λ e. fits g v i n e (bytes g v i n e)))))
    (every_one (λ g. every (λ v. every (λ i. every (λ n. every (λ e. fits g v i n e (bytes g v i n e)))))) all_fit g) v) i) n) e

pub unlimited_bytes : Settings → List ℕ
unlimited_bytes s = bytes s.greater s.vf2pp s.induced s.node_labels s.edge_labels

record Read (s : Settings) (b : List ℕ) : Type 0 where
  greater_is : eqb (ordering b) 1 ≡ s.greater
  vf2pp_is : is_set b 2 ≡ s.vf2pp
  induced_is : is_set b 3 ≡ s.induced
  node_labels_is : is_set b 4 ≡ s.node_labels
  edge_labels_is : is_set b 5 ≡ s.edge_labels
  not_limited : limited b ≡ false
  good : bad_settings b ≡ false

read_back : (s : Settings) (b : List ℕ) → fits s.greater s.vf2pp s.induced s.node_labels s.edge_labels b ≡ true → Read s b
read_back s b e₁ =
    let e₂ = and_right (same s.greater (eqb (ordering b) 1)) _ e₁ in
    let e₃ = and_right (same s.vf2pp (is_set b 2)) _ e₂ in
    let e₄ = and_right (same s.induced (is_set b 3)) _ e₃ in
    let e₅ = and_right (same s.node_labels (is_set b 4)) _ e₄ in
    let e₆ = and_right (same s.edge_labels (is_set b 5)) _ e₅ in
    record {
      greater_is = same_true s.greater _ (and_left (same s.greater (eqb (ordering b) 1)) _ e₁);
      vf2pp_is = same_true s.vf2pp _ (and_left (same s.vf2pp (is_set b 2)) _ e₂);
      induced_is = same_true s.induced _ (and_left (same s.induced (is_set b 3)) _ e₃);
      node_labels_is = same_true s.node_labels _ (and_left (same s.node_labels (is_set b 4)) _ e₄);
      edge_labels_is = same_true s.edge_labels _ (and_left (same s.edge_labels (is_set b 5)) _ e₅);
      not_limited = not-true (limited b) (and_left (not (limited b)) _ e₆);
      good = not-true (bad_settings b) (and_right (not (limited b)) _ e₆);
    }

reads : (s : Settings) → Read s (unlimited_bytes s)
unfolding unlimited_bytes
reads s = read_back s (unlimited_bytes s) (each_fits s.greater s.vf2pp s.induced s.node_labels s.edge_labels)

pub unlimited-good : (s : Settings) → bad_settings (unlimited_bytes s) ≡ false
unlimited-good s = (reads s).good

pub unlimited-settings : (s : Settings) → settings_of (unlimited_bytes s) ≡ without_limit s
unfolding settings_of
unlimited-settings s =
    let r = reads s in
    let no-limit : cond (limited (unlimited_bytes s)) (some (limit_field (unlimited_bytes s))) none ≡ none = rw r.not_limited in
    λ i. record {
      greater = r.greater_is i;
      vf2pp = r.vf2pp_is i;
      induced = r.induced_is i;
      node_labels = r.node_labels_is i;
      edge_labels = r.edge_labels_is i;
      limit = no-limit i;
    }
