-- One-to-one matching of labelled edges, each taking the first equal one that is free, succeeds exactly where none stands more
-- often in the first list than in the second.
use Prim.Native.Nat.{ℕ, ◌+◌, ◌≤◌}
use mathlib.Core.Bool.{true, cond}
use mathlib.Core.List.{List, [], ◌∷◌}
use mathlib.Core.Option.{Option, none, some}
use mathlib.Core.Logic.{◌↔◌}
use mathlib.Core.Path.{◌≡◌, refl, sym, ◌∙◌}
use native.Mathlib.Omega.{arith}
use lib.Dec.{eqb}
use borrow.Author.Tests.{eqb-true, eq-eqb}
use Rattle.basics.specs.Lists.{count}
use Rattle.basics.proofs.Tests.{case, option_case, never, and_left, and_right}
use Rattle.basics.proofs.Laws.{count-nil, count-cons}
use Rattle.rules.specs.Acceptable.{removed, is_subset}
use Rattle.rules.proofs.Matching.{same, removed-nil, removed-here, removed-nowhere, removed-further, subset-nil, subset-none, subset-some}

abbrev Labelled : Type 0
Labelled = ℕ × ℕ

-- how often an edge stands in a list
abbrev pub occurs : Labelled → List Labelled → ℕ
occurs x l = count (same x) l

same-own : (x : Labelled) → same x x ≡ true
same-own x = rw (eq-eqb x.0 x.0 refl, eq-eqb x.1 x.1 refl)

same-equal : (x y : Labelled) → same x y ≡ true → x ≡ y
same-equal x y e =
    λ i. (
      eqb-true x.0 y.0 (and_left (eqb x.0 y.0) (eqb x.1 y.1) e) i,
      eqb-true x.1 y.1
          (and_right (eqb x.0 y.0) (eqb x.1 y.1) e) i,
    )

-- what removing x does to the numbers
abbrev Removed : Labelled → List Labelled → Option (List Labelled) → Type 0
Removed x ys none = occurs x ys ≡ 0
Removed x ys (some zs) = (z : Labelled) → occurs z ys ≡ cond (same z x) 1 0 + occurs z zs

removed-counts : (x : Labelled) (ys : List Labelled) → Removed x ys (removed x ys)
removed-counts x [] = rw (removed-nil x) (count-nil (same x))
removed-counts x (y ∷ ys) =
    case (same x y)
    (λ e. rw (removed-here x y ys e) (λ z. rw (count-cons (same z) y ys, same-equal x y e)))
    (λ e. option_case (removed x ys)
    (λ h. let rest : Removed x ys none = rw h at (removed-counts x ys) in
    rw (removed-nowhere x y ys e h, count-cons (same x) y ys, e) (omega (arith, rest)))
    (λ zs h. rw (removed-further x y ys zs e h)
    (λ z. let rest : Removed x ys (some zs) = rw h at (removed-counts x ys) in
    omega (arith, rest z, count-cons (same z) y ys, count-cons (same z) y zs))))

pub subset-counts : (xs ys : List Labelled) → (is_subset xs ys ≡ true) ↔ ((z : Labelled) → occurs z xs ≤ occurs z ys)
subset-counts [] ys = (λ e z. rw (count-nil (same z)) (omega arith), λ h. subset-nil ys)
subset-counts (x ∷ xs) ys =
    option_case (removed x ys)
    (λ h.
    let none_left : occurs x ys ≡ 0 = rw h at (removed-counts x ys) in (
      λ e. never (is_subset (x ∷ xs) ys) e (subset-none x xs ys h),
      λ k. let own : ◌≡◌ {A = ℕ} (cond (same x x) 1 0) 1 = rw (same-own x) in absurd (omega (arith, k x, count-cons (same x) x xs)),
    ))
    (λ zs h.
    let rest : Removed x ys (some zs) = rw h at (removed-counts x ys) in (
      λ e z. omega (arith, (subset-counts xs zs).0 (sym (subset-some x xs ys zs h) ∙ e) z, rest z, count-cons (same z) x xs),
      λ k. subset-some x xs ys zs h ∙ (subset-counts xs zs).1 (λ z. omega (arith, k z, rest z, count-cons (same z) x xs)),
    ))
