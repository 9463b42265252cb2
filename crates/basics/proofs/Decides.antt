-- Tests and the propositions that they decide: for each way to build a test, the proposition that goes with it.
use Prim.Native.Nat.{ℕ, zero, suc, ◌+◌, ◌≤◌, ◌<◌}
use mathlib.Core.Bool.{Bool, true, false, ◌&&◌, ◌||◌, not}
use mathlib.Core.List.{[]}
use mathlib.Core.Logic.{◌↔◌, ◌⊎◌, inl, inr, ⊎_elim}
use mathlib.Core.Path.{◌≡◌, refl, sym}
use native.Mathlib.Omega.{arith}
use lib.Dec.{eqb, ltb}
use borrow.Author.Tests.{ltb-true, ltb-false, lt-ltb, le-ltb, eqb-true, eq-eqb, not-true}
use Rattle.basics.specs.Lists.{from, any}
use Rattle.basics.proofs.Tests.{case, never, and_left, and_right, and_intro, false-by}
use Rattle.basics.proofs.Laws.{from-none, from_suc, any-nil, any-cons}

abbrev pub Decides : Bool → Type 0 → Type 0
Decides b P = (b ≡ true) ↔ P

pub decides-itself : (b : Bool) → Decides b (b ≡ true)
decides-itself b = (λ e. e, λ e. e)

pub decides-off : (b : Bool) → Decides (not b) (b ≡ false)
decides-off b = (not-true b, λ e. rw e)

pub decides-equal : (a b : ℕ) → Decides (eqb a b) (a ≡ b)
decides-equal a b = (eqb-true a b, eq-eqb a b)

pub decides-less : (a b : ℕ) → Decides (ltb a b) (a < b)
decides-less a b = (ltb-true a b, lt-ltb a b)

pub decides-not-less : (a b : ℕ) → Decides (not (ltb a b)) (b ≤ a)
decides-not-less a b = (λ e. ltb-false a b (not-true (ltb a b) e), λ h. rw (le-ltb a b h))

module _ {a : Bool} {P : Type 0} (d : Decides a P) where
  -- where the test fails, and only there, the proposition does
  pub decides-false : (a ≡ false) ↔ (P → ⊥)
  decides-false = (λ e p. never a (d.1 p) e, λ h. false-by a (λ e. h (d.0 e)))

  pub decides_not : Decides (not a) (P → ⊥)
  decides_not = (λ e. decides-false.0 (not-true a e), λ h. rw (decides-false.1 h))

  pub decides_or : {b : Bool} {Q : Type 0} → Decides b Q → Decides (a || b) (P ⊎ Q)
  decides_or {b} f = (
    λ e. case a (λ t. inl (d.0 t)) (λ t. inr (f.0 (rw t at e))),
    ⊎_elim (λ p. rw (d.1 p)) (λ q. case a (λ t. rw t) (λ t. rw t (f.1 q))),
  )

  pub decides_and : {b : Bool} {Q : Type 0} → Decides b Q → Decides (a && b) (P × Q)
  decides_and {b} f = (λ e. (d.0 (and_left a b e), f.0 (and_right a b e)), λ h. and_intro (d.1 h.0) (f.1 h.1))

-- not both is the one not, or the other
pub decides-not-both : (a b : Bool) {P Q : Type 0} → Decides (not a) P → Decides (not b) Q → Decides (not (a && b)) (P ⊎ Q)
decides-not-both true b d f = (λ e. inr (f.0 e), ⊎_elim (λ p. never true refl (sym (d.1 p))) f.1)
decides-not-both false b d f = (λ e. inl (d.0 e), λ h. refl)

-- some number of a run passes
pub decides-any : (p : ℕ → Bool) {P : ℕ → Type 0} → ((x : ℕ) → Decides (p x) (P x)) → (k i : ℕ)
    → Decides (any p (from i k)) ((x : ℕ) × (i ≤ x) × (x < i + k) × P x)
decides-any p d zero i = (λ e. never (any p []) (rw from-none at e) (any-nil p), λ h. absurd (omega (arith, h.1, h.2)))
decides-any p d (suc k) i =
    rw (from_suc, any-cons p i (from (suc i) k))
    (case (p i)
    (λ t. (λ e. (i, omega arith, omega arith, (d i).0 t), λ h. rw t))
    (λ t. rw t (
      λ e. let w = (decides-any p d k (suc i)).0 e in (w.0, omega arith, omega arith, w.3),
      λ h. let other : (i ≡ h.0 → ⊥) = λ z. never (p i) ((d i).1 (rw z h.3)) t in
          (decides-any p d k (suc i)).1 (h.0, omega (arith, h.1), omega (arith, h.2), h.3),
    )))

pub none_passes : (p : ℕ → Bool) (k i : ℕ) → any p (from i k) ≡ false → (x : ℕ) → i ≤ x → x < i + k → p x ≡ false
none_passes p k i e x h l =
    false-by (p x) (λ t. never (any p (from i k)) ((decides-any p (λ y. decides-itself (p y)) k i).1 (x, h, l, t)) e)
