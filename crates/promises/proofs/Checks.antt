-- Check says yes exactly for a placement, and so exactly for what one map of a listing shows.
use Prim.Native.Nat.{ℕ}
use mathlib.Core.Bool.{Bool, true, cond}
use mathlib.Core.List.{List, [], ◌∷◌}
use mathlib.Core.Logic.{◌↔◌, inl, inr, ⊎_elim}
use mathlib.Core.Option.{Option, none, some}
use mathlib.Core.Path.{◌≡◌, refl, sym}
use native.Mathlib.Omega.{arith}
use lib.Dec.{eqb}
use lib.ListN.{get_or}
use borrow.Author.Tests.{eqb-true}
use Rattle.basics.specs.Lists.{count}
use Rattle.basics.proofs.Tests.{case, none-not-some}
use Rattle.basics.proofs.Laws.{count-nil, count-cons}
use Rattle.packed.specs.Packed.{node_count, graph_of}
use Rattle.packed.specs.Refusals.{Refused, first}
use Rattle.settings.specs.Settings.{settings_of}
use Rattle.packed.proofs.Accepted.{nodes-of-graph}
use Rattle.rules.specs.Calls.{yes, no, rejected, check_lines, Proposes, Judged, CheckTells}
use Rattle.placements.specs.Claims.{Each}
use Rattle.placements.proofs.Tests.{all-elim}
use Rattle.promises.specs.Sessions.{Map, image, shows}
use Rattle.promises.specs.Promises.{ListingMade, all_of, CountsAgree, Places, IsPlacement, HoldEveryPlacement, CheckAgrees}
use Rattle.promises.proofs.Maps.{placement-same}
use Rattle.promises.proofs.Listing.{begun-free, holds-every-placement}
use Rattle.promises.proofs.Symmetries.{listing_made}

yes-no : {C : Type 0} → yes ≡ no → C
yes-no e = let z : ◌≡◌ {A = ℕ} 0 1 = cc in absurd (omega arith)

yes-rejected : {C : Type 0} (r : Refused) → yes ≡ rejected r → C
yes-rejected r e = let z : ◌≡◌ {A = ℕ} 0 1 = cc in absurd (omega arith)

no-rejected : {C : Type 0} (r : Refused) → no ≡ rejected r → C
no-rejected r e = let z : ◌≡◌ {A = ℕ} 0 1 = cc in absurd (omega arith)

judged-yes : (o : Option Refused) (P : Type 0) → Judged o P yes ↔ ((o ≡ none) × P)
judged-yes none P = (⊎_elim (λ p. (refl, p.1)) (λ q. yes-no q.0), λ p. inl (refl, p.1))
judged-yes (some r) P = (λ e. yes-rejected r e, λ p. none-not-some (sym p.0))

judged-no : (o : Option Refused) (P : Type 0) → Judged o P no ↔ ((o ≡ none) × (P → ⊥))
judged-no none P = (⊎_elim (λ p. yes-no (sym p.0)) (λ q. (refl, q.1)), λ p. inr (refl, p.1))
judged-no (some r) P = (λ e. no-rejected r e, λ p. none-not-some (sym p.0))

module _ {A : Type 0} (P : A → Type 0) (p : A → Bool) where
  -- where one passes, there is one
  one_passes : (xs : List A) → Each P xs → count p xs ≡ 1 → (x : A) × P x × (p x ≡ true)
  one_passes [] e k = absurd (omega (arith, count-nil p))
  one_passes (x ∷ xs) e k =
      case (p x) (λ h. (x, e.0, h))
      (λ h. let c = count-cons p x xs in let z : ◌≡◌ {A = ℕ} (cond (p x) 1 0) 0 = rw h in one_passes xs e.1 (omega arith))

  none_pass : (xs : List A) → Each P xs → ((x : A) → P x → p x ≡ true → ⊥) → count p xs ≡ 0
  none_pass [] e h = count-nil p
  none_pass (x ∷ xs) e h =
      case (p x) (λ k. absurd (h x e.0 k))
      (λ k. let c = count-cons p x xs in let z : ◌≡◌ {A = ℕ} (cond (p x) 1 0) 0 = rw k in let r = none_pass xs e.1 h in omega arith)

module _ (f₀ f₁ s : List ℕ) where
  -- what a placement's map shows is a placement
  shown-places : (φ : ℕ → ℕ) (m : Map) → IsPlacement f₀ f₁ s m → shows (node_count f₁) φ m ≡ true → Places f₀ f₁ s φ
  shown-places φ m p e =
      placement-same (settings_of s) (graph_of f₀) (graph_of f₁) (image m) φ
      (λ v l.
      eqb-true (image m v) (φ v)
      (all-elim (λ v. eqb (image m v) (φ v)) (node_count f₁) 0 e v (omega arith) (omega (arith, nodes-of-graph f₁))))
      p.places

  module _ (map' : List ℕ) (l : ListingMade f₀ f₁ s) (free : first (check_lines f₀ f₁ s map') ≡ none) (agreed : CountsAgree f₀ f₁ s) where
    abbrev φ : ℕ → ℕ
    φ v = get_or map' v 0

    abbrev maps : List Map
    maps = (all_of f₀ f₁ s l).maps

    holds : HoldEveryPlacement f₀ f₁ s maps
    holds =
        rw (listing_made f₀ f₁ s agreed l)
        (holds-every-placement f₀ f₁ s (begun-free f₀ f₁ s l.first_record l.begins) agreed)

    yes_listed : CheckTells f₀ f₁ s map' yes ↔ (count (shows (node_count f₁) φ) maps ≡ 1)
    yes_listed =
        let judged = judged-yes (first (check_lines f₀ f₁ s map')) (Places f₀ f₁ s φ) in (
          λ e. holds.each_once φ (judged.0 e).1,
          λ c.
              let m = one_passes (IsPlacement f₀ f₁ s) (shows (node_count f₁) φ) maps holds.all_place c in
              judged.1 (free, shown-places φ m.0 m.1 m.2),
        )

    no_listed : CheckTells f₀ f₁ s map' no ↔ (count (shows (node_count f₁) φ) maps ≡ 0)
    no_listed =
        let judged = judged-no (first (check_lines f₀ f₁ s map')) (Places f₀ f₁ s φ) in (
          λ e. none_pass (IsPlacement f₀ f₁ s) (shows (node_count f₁) φ) maps holds.all_place (λ m p q. (judged.0 e).1 (shown-places φ m p q)),
          λ c. judged.1 (free, λ p. let one = holds.each_once φ p in omega arith),
        )

pub check-agrees : CheckAgrees
check-agrees =
    record {
      yes_exactly = λ f₀ f₁ s map'. judged-yes (first (check_lines f₀ f₁ s map')) (Proposes f₀ f₁ s map');
      no_exactly = λ f₀ f₁ s map'. judged-no (first (check_lines f₀ f₁ s map')) (Proposes f₀ f₁ s map');
      yes_listed = λ f₀ f₁ s map' l free agreed. yes_listed f₀ f₁ s map' l free agreed;
      no_listed = λ f₀ f₁ s map' l free agreed. no_listed f₀ f₁ s map' l free agreed;
    }
