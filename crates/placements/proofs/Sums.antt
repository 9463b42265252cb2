-- Totals over the numbers below n, and their comparison along an injection: what an injection never lowers adds up to no
-- less, and along an injection of the numbers below n into themselves nothing is lost.
use Prim.Native.Nat.{ℕ, zero, suc, ◌+◌, ◌-◌, ◌≤◌, ◌<◌}
use native.Mathlib.Nat.{le_refl}
use native.Mathlib.Numerals.{add-one}
use mathlib.Core.Bool.{Bool, true, cond}
use mathlib.Core.Path.{◌≡◌, sym, ◌∙◌}
use native.Mathlib.Omega.{arith}
use lib.Dec.{eqb}
use borrow.Author.Tests.{eqb-true, eqb-false, eq-eqb, ne_eqb}
use Rattle.basics.specs.Lists.{from, count, total}
use Rattle.basics.proofs.Tests.{case, never}
use Rattle.basics.proofs.Laws.{from-none, count-nil, count-from-more, total-nil, total-add, total-from-more}
use Rattle.basics.proofs.Distinct.{total-one}

abbrev pub sum : ℕ → (ℕ → ℕ) → ℕ
sum n f = total f (from 0 n)

pub sum-none : (f : ℕ → ℕ) → sum 0 f ≡ 0
sum-none f = rw (from-none 0, total-nil f)

pub sum-suc : (n : ℕ) (f : ℕ → ℕ) → sum (suc n) f ≡ sum n f + f n
sum-suc n f = rw add-one at (total-from-more f n)

pub sum-le : (n : ℕ) (f g : ℕ → ℕ) → ((i : ℕ) → i < n → f i ≤ g i) → sum n f ≤ sum n g
sum-le zero f g h = omega (arith, sum-none f)
sum-le (suc n) f g h =
    omega (arith, sum-suc n f, sum-suc n g, sum-le n f g (λ i l. h i (omega arith)), h n (omega arith))

pub sum_same : (n : ℕ) (f g : ℕ → ℕ) → ((i : ℕ) → i < n → f i ≡ g i) → sum n f ≡ sum n g
sum_same zero f g h = sum-none f ∙ sym (sum-none g)
sum_same (suc n) f g h =
    omega (arith, sum-suc n f, sum-suc n g, sum_same n f g (λ i l. h i (omega arith)), h n (omega arith))

pub sum-zero : (n : ℕ) (f : ℕ → ℕ) → ((i : ℕ) → i < n → f i ≡ 0) → sum n f ≡ 0
sum-zero zero f h = sum-none f
sum-zero (suc n) f h = omega (arith, sum-suc n f, sum-zero n f (λ i l. h i (omega arith)), h n (omega arith))

pub sum-add : (n : ℕ) (f g : ℕ → ℕ) → sum n (λ i. f i + g i) ≡ sum n f + sum n g
sum-add n f g = total-add f g (from 0 n)

pub sum_one : (n : ℕ) (f : ℕ → ℕ) (u : ℕ) → u < n → sum n (λ v. cond (eqb v u) (f v) 0) ≡ f u
sum_one n f u h = total-one n f u h

-- each term is within the sum
pub sum-at : (n : ℕ) (f : ℕ → ℕ) (i : ℕ) → i < n → f i ≤ sum n f
sum-at zero f i h = absurd (omega arith)
sum-at (suc n) f i h =
    case (eqb i n)
    (λ e. let x = eqb-true i n e in rw x (omega (arith, sum-suc n f)))
    (λ e. let x = eqb-false i n e in omega (arith, sum-suc n f, sum-at n f i (omega arith)))

-- a sum to which only one number gives anything is no more than what that one may give
pub sum-most-one : (n : ℕ) (p : ℕ → Bool) (f : ℕ → ℕ) (m : ℕ) → ((x : ℕ) → x < n → p x ≡ true → f x ≤ m)
    → ((x y : ℕ) → x < n → y < n → p x ≡ true → p y ≡ true → x ≡ y) → sum n (λ x. cond (p x) (f x) 0) ≤ m
sum-most-one zero p f m h one = omega (arith, sum-none (λ x. cond (p x) (f x) 0))
sum-most-one (suc n) p f m h one =
    case (p n)
    (λ e.
    let none_before = sum-zero n (λ x. cond (p x) (f x) 0)
    (λ x l. case (p x) (λ t. let z = one x n (omega arith) (omega arith) t e in absurd (omega arith)) (λ t. rw t)) in
    let last : cond (p n) (f n) 0 ≡ f n = rw e in
    omega (arith, sum-suc n (λ x. cond (p x) (f x) 0), h n (omega arith) e))
    (λ e.
    let last : cond (p n) (f n) 0 ≡ 0 = rw e in
    omega (
      arith,
      sum-suc n (λ x. cond (p x) (f x) 0),
      sum-most-one n p f m (λ x l t. h x (omega arith) t)
          (λ x y l k t u. one x y (omega arith) (omega arith) t u),
    ))

-- terms that are below others, with equal sums, are equal
pub sum-tight : (n : ℕ) (f g : ℕ → ℕ) → ((i : ℕ) → i < n → f i ≤ g i) → sum n f ≡ sum n g → (i : ℕ) → i < n → f i ≡ g i
sum-tight zero f g h e i l = absurd (omega arith)
sum-tight (suc n) f g h e i l =
    let a = sum-suc n f in
    let b = sum-suc n g in
    let s = sum-le n f g (λ j k. h j (omega arith)) in
    let t = h n (omega arith) in
    case (eqb i n)
    (λ y. let x = eqb-true i n y in rw x (omega arith))
    (λ y. let x = eqb-false i n y in sum-tight n f g (λ j k. h j (omega arith)) (omega arith) i (omega arith))

-- f with 0 at y
abbrev emptied : (ℕ → ℕ) → ℕ → ℕ → ℕ
emptied f y i = cond (eqb i y) 0 (f i)

emptied-other : (f : ℕ → ℕ) (y i : ℕ) → (i ≡ y → ⊥) → emptied f y i ≡ f i
emptied-other f y i h = rw (ne_eqb i y h)

sum-emptied : (n : ℕ) (f : ℕ → ℕ) (y : ℕ) → y < n → sum n f ≡ sum n (emptied f y) + f y
sum-emptied n f y h =
    let split = sum_same n f (λ i. emptied f y i + cond (eqb i y) (f i) 0)
    (λ i l. case (eqb i y) (λ e. rw e (omega arith)) (λ e. rw e (omega arith))) in
    omega (arith, sum-add n (emptied f y) (λ i. cond (eqb i y) (f i) 0), sum_one n f y h)

abbrev pub Into : ℕ → ℕ → (ℕ → ℕ) → Type 0
Into m n φ = (x : ℕ) → x < m → φ x < n

abbrev pub Apart : ℕ → (ℕ → ℕ) → Type 0
Apart m φ = (x y : ℕ) → x < m → y < m → φ x ≡ φ y → x ≡ y

pub sum-into : (m n : ℕ) (φ f g : ℕ → ℕ) → Into m n φ → Apart m φ → ((x : ℕ) → x < m → g x ≤ f (φ x)) → sum m g ≤ sum n f
sum-into zero n φ f g r j h = omega (arith, sum-none g)
sum-into (suc m) n φ f g r j h =
    let rest = sum-into m n φ (emptied f (φ m)) g (λ x l. r x (omega arith)) (λ x y l k e. j x y (omega arith) (omega arith) e)
    (λ x l. rw (emptied-other f (φ m) (φ x) (λ e. let z = j x m (omega arith) (omega arith) e in omega arith)) (h x (omega arith))) in
    omega (arith, sum-suc m g, sum-emptied n f (φ m) (r m (omega arith)), h m (omega arith))

-- along an injection of the numbers below n into themselves the sums are equal
pub sum-onto : (n : ℕ) (φ f : ℕ → ℕ) → Into n n φ → Apart n φ → sum n (λ x. f (φ x)) ≡ sum n f
sum-onto n φ f r j =
    let b = sum n f in
    let less = sum-into n n φ f (λ x. f (φ x)) r j (λ x l. le_refl _) in
    let more = sum-into n n φ (λ y. b - f y) (λ x. b - f (φ x)) r j (λ x l. le_refl _) in
    let moved = sum_same n (λ x. f (φ x) + (b - f (φ x))) (λ x. b) (λ x l. let z = sum-at n f (φ x) (r x l) in omega arith) in
    let own = sum_same n (λ y. f y + (b - f y)) (λ y. b) (λ y l. let z = sum-at n f y l in omega arith) in
    omega (arith, sum-add n (λ x. f (φ x)) (λ x. b - f (φ x)), sum-add n f (λ y. b - f y))

-- how many of the numbers below n pass, as a sum
pub count-sum : (p : ℕ → Bool) (n : ℕ) → count p (from 0 n) ≡ sum n (λ x. cond (p x) 1 0)
count-sum p zero = rw (from-none 0, count-nil p, total-nil (λ x. cond (p x) 1 0))
count-sum p (suc n) =
    let more = rw add-one at (count-from-more p n) in
    omega (arith, sum-suc n (λ x. cond (p x) 1 0), count-sum p n)

-- what passes a test that no other passes counts 1
pub count-only : (p : ℕ → Bool) (n u : ℕ) → u < n → p u ≡ true → ((x : ℕ) → p x ≡ true → x ≡ u) → count p (from 0 n) ≡ 1
count-only p n u h e only =
    count-sum p n
    ∙ sum_same n (λ x. cond (p x) 1 0) (λ x. cond (eqb x u) 1 0)
    (λ x l. case (p x)
    (λ t. rw (t, eq-eqb x u (only x t)))
    (λ t. rw (t, ne_eqb x u (λ z. never (p u) e (rw z at t)))))
    ∙ sum_one n (λ x. 1) u h
