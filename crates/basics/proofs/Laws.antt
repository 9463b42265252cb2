-- Laws of the words of specs/Lists: each word at the empty list, at one element more in front, and at one more behind.
use Prim.Native.Nat.{ℕ, zero, suc, ◌+◌, ◌≤◌, ◌<◌, ◌-◌}
use mathlib.Core.Bool.{Bool, true, false, cond, ◌&&◌, ◌||◌, not, or-false, or_assoc}
use mathlib.Core.List.{List, [], ◌∷◌, ◌++◌, map}
use mathlib.Core.Path.{◌≡◌, refl, sym, ◌∙◌, ap}
use native.Mathlib.Omega.{arith}
use native.Mathlib.Numerals.{add-one}
use lib.Dec.{eqb}
use lib.ListN.{length, get_or, set, drop, replicate}
use lib.Seq.{get_or-set_same, get_or-set_other, set_at, drop-cons, append_snoc}
use borrow.Author.Count.{below_more}
use borrow.Author.Tests.{eqb-true, eqb-false, eq-eqb, ne_eqb, not-true}
use Rattle.basics.specs.Lists.{from, any, count, keep, total, member, without}
use Rattle.basics.proofs.Tests.{case, never, false-by}

-- from

pub from-none : (i : ℕ) → from i 0 ≡ []
unfolding from
from-none i = refl

pub from_suc : (i k : ℕ) → from i (suc k) ≡ i ∷ from (suc i) k
unfolding from
from_suc i k = refl

-- one number more behind
pub from_more : (i k : ℕ) → from i (k + 1) ≡ from i k ++ ((i + k) ∷ [])
unfolding from
from_more i zero = let h : i + 0 ≡ i = omega arith in rw h
from_more i (suc k) =
    let h : suc i + k ≡ i + suc k = omega arith in
    rw add-one (ap (λ l. i ∷ l) (rw (add-one, h) at (from_more (suc i) k)))

-- the first of those that are left
pub from-left : (i n : ℕ) → i < n → from i (n - i) ≡ i ∷ from (i + 1) (n - (i + 1))
from-left i n h =
    let e : n - i ≡ suc (n - (i + 1)) = omega arith in
    rw (e, from_suc, add-one)

pub from_end : (i n : ℕ) → n ≤ i → from i (n - i) ≡ []
from_end i n h = let e : n - i ≡ 0 = omega arith in rw (e, from-none)

pub from-length : (i k : ℕ) → length (from i k) ≡ k
unfolding from
from-length i zero = refl
from-length i (suc k) = ap suc (from-length (suc i) k)

-- the number at a place of a run
from_place : (k s i : ℕ) → i < k → get_or (from s k) i 0 ≡ s + i
unfolding from
from_place zero s i h = absurd (omega arith)
from_place (suc k) s zero h = omega arith
from_place (suc k) s (suc i) h = omega (arith, from_place k (suc s) i (omega arith))

pub from_at : (k i : ℕ) → i < k → get_or (from 0 k) i 0 ≡ i
from_at k i h = omega (arith, from_place k 0 i h)

pub map-append : {A B : Type 0} (f : A → B) (xs ys : List A) → map f (xs ++ ys) ≡ map f xs ++ map f ys
map-append f [] ys = refl
map-append f (x ∷ xs) ys = ap (λ l. f x ∷ l) (map-append f xs ys)

pub map-from-more : {A : Type 0} (f : ℕ → A) (k : ℕ) → map f (from 0 (k + 1)) ≡ map f (from 0 k) ++ (f k ∷ [])
map-from-more f k = let h : 0 + k ≡ k = omega arith in rw (from_more 0 k, map-append f (from 0 k) ((0 + k) ∷ []), h)

-- two lists of values at the same numbers
pub map-from-same : {A : Type 0} (f g : ℕ → A) (k : ℕ) → ((i : ℕ) → i < k → f i ≡ g i) → map f (from 0 k) ≡ map g (from 0 k)
map-from-same f g zero h = rw (from-none 0)
map-from-same f g (suc k) h =
    rw (← add-one k, map-from-more f k, map-from-more g k, h k (omega arith), map-from-same f g k (λ i l. h i (omega arith)))

-- what f and g make of two runs of numbers from i on is equal only where the runs are, and f and g along them
pub map-from : {A : Type 0} (f g : ℕ → A) (k l i : ℕ) → map f (from i k) ≡ map g (from i l)
    → (k ≡ l) × ((j : ℕ) → i ≤ j → j < i + k → f j ≡ g j)
unfolding from
map-from f g zero zero i e = (refl, λ j h b. absurd (omega arith))
map-from f g zero (suc l) i e = let z : ◌≡◌ {A = ℕ} 0 1 = cc in absurd (omega arith)
map-from f g (suc k) zero i e = let z : ◌≡◌ {A = ℕ} 0 1 = cc in absurd (omega arith)
map-from f g (suc k) (suc l) i e =
    let head : f i ≡ g i = cc in
    let w = map-from f g k l (suc i) (cc) in (
      ap suc w.0,
      λ j h b. case (eqb j i) (λ q. rw (eqb-true j i q) head) (λ q. let n = eqb-false j i q in w.1 j (omega arith) (omega arith)),
    )

module _ {A : Type 0} where
  -- any

  pub any-nil : (p : A → Bool) → any p [] ≡ false
  unfolding any
  any-nil p = refl

  pub any-cons : (p : A → Bool) (x : A) (xs : List A) → any p (x ∷ xs) ≡ (p x || any p xs)
  unfolding any
  any-cons p x xs = refl

  pub any_append : (p : A → Bool) (xs ys : List A) → any p (xs ++ ys) ≡ (any p xs || any p ys)
  unfolding any
  any_append p [] ys = refl
  any_append p (x ∷ xs) ys = rw (any_append p xs ys) (sym (or_assoc (p x) (any p xs) (any p ys)))

  -- count

  pub count-nil : (p : A → Bool) → count p [] ≡ 0
  unfolding count
  count-nil p = refl

  pub count-cons : (p : A → Bool) (x : A) (xs : List A) → count p (x ∷ xs) ≡ cond (p x) 1 0 + count p xs
  unfolding count
  count-cons p x xs = case (p x) (λ e. rw (e, count) (omega arith)) (λ e. rw (e, count) (omega arith))

  pub count_none : (xs : List A) → count (λ x. false) xs ≡ 0
  count_none [] = count-nil (λ x. false)
  count_none (x ∷ xs) = rw (count-cons (λ x. false) x xs, count_none xs)

  pub count-append : (p : A → Bool) (xs ys : List A) → count p (xs ++ ys) ≡ count p xs + count p ys
  count-append p [] ys = rw count-nil (omega arith)
  count-append p (x ∷ xs) ys = rw (count-cons p x (xs ++ ys), count-cons p x xs, count-append p xs ys) (omega arith)

  pub count_most : (p : A → Bool) (xs : List A) → count p xs ≤ length xs
  count_most p [] = rw count-nil (omega arith)
  count_most p (x ∷ xs) =
      rw (count-cons p x xs)
      (case (p x) (λ e. rw e (omega (arith, count_most p xs))) (λ e. rw e (omega (arith, count_most p xs))))

  pub count_same : (p q : A → Bool) (xs : List A) → ((x : A) → p x ≡ q x) → count p xs ≡ count q xs
  count_same p q [] h = count-nil p ∙ sym (count-nil q)
  count_same p q (x ∷ xs) h = rw (count-cons p x xs, count-cons q x xs, h x, count_same p q xs h)

  pub count-all : (xs : List A) → count (λ x. true) xs ≡ length xs
  count-all [] = count-nil (λ x. true)
  count-all (x ∷ xs) = rw (count-cons (λ x. true) x xs, count-all xs) (omega arith)

  -- of two tests that nothing passes both of, those that pass either add up
  pub count-either : (p q : A → Bool) (xs : List A) → ((x : A) → (p x && q x) ≡ false) → count (λ x. p x || q x) xs ≡ count p xs + count q xs
  count-either p q [] h = rw (count-nil (λ x. p x || q x), count-nil p, count-nil q)
  count-either p q (x ∷ xs) h =
      rw (count-cons (λ x. p x || q x) x xs, count-cons p x xs, count-cons q x xs, count-either p q xs h)
      (case (p x)
      (λ e. rw (e, rw e at (h x)) (omega arith))
      (λ e. rw e (omega arith)))

  -- keep

  pub keep-nil : (p : A → Bool) → keep p [] ≡ []
  unfolding keep
  keep-nil p = refl

  pub keep-true : (p : A → Bool) (x : A) (xs : List A) → p x ≡ true → keep p (x ∷ xs) ≡ x ∷ keep p xs
  unfolding keep
  keep-true p x xs e = rw (e, keep)

  pub keep-false : (p : A → Bool) (x : A) (xs : List A) → p x ≡ false → keep p (x ∷ xs) ≡ keep p xs
  unfolding keep
  keep-false p x xs e = rw (e, keep)

  pub keep-length : (p : A → Bool) (xs : List A) → length (keep p xs) ≡ count p xs
  keep-length p [] = rw (keep-nil p, count-nil p)
  keep-length p (x ∷ xs) =
      rw (count-cons p x xs)
      (case (p x)
      (λ e. rw (keep-true p x xs e, e) (omega (arith, keep-length p xs)))
      (λ e. rw (keep-false p x xs e, e) (omega (arith, keep-length p xs))))

  pub keep-most : (p : A → Bool) (xs : List A) → length (keep p xs) ≤ length xs
  keep-most p xs = omega (arith, keep-length p xs, count_most p xs)

  -- what passes two tests, one after the other
  pub keep-keep : (p q r : A → Bool) (xs : List A) → ((x : A) → r x ≡ (q x && p x)) → keep q (keep p xs) ≡ keep r xs
  keep-keep p q r [] h = rw (keep-nil p, keep-nil q, keep-nil r)
  keep-keep p q r (x ∷ xs) h =
      case (p x)
      (λ e. rw (keep-true p x xs e)
      (case (q x)
      (λ f. rw (keep-true q x (keep p xs) f, keep-true r x xs (h x ∙ rw (e, f)), keep-keep p q r xs h))
      (λ f. rw (keep-false q x (keep p xs) f, keep-false r x xs (h x ∙ rw (e, f)), keep-keep p q r xs h))))
      (λ e. rw (keep-false p x xs e, keep-false r x xs (h x ∙ false-and (q x) (p x) e), keep-keep p q r xs h))
    where
      false-and : (a b : Bool) → b ≡ false → (a && b) ≡ false
      false-and true b e = e
      false-and false b e = refl

  -- total

  pub total-nil : (f : A → ℕ) → total f [] ≡ 0
  unfolding total
  total-nil f = refl

  pub total-cons : (f : A → ℕ) (x : A) (xs : List A) → total f (x ∷ xs) ≡ f x + total f xs
  unfolding total
  total-cons f x xs = refl

  pub total-append : (f : A → ℕ) (xs ys : List A) → total f (xs ++ ys) ≡ total f xs + total f ys
  total-append f [] ys = rw total-nil (omega arith)
  total-append f (x ∷ xs) ys = rw (total-cons f x (xs ++ ys), total-cons f x xs, total-append f xs ys) (omega arith)

  pub total-snoc : (f : A → ℕ) (xs : List A) (x : A) → total f (xs ++ (x ∷ [])) ≡ total f xs + f x
  total-snoc f xs x = rw (total-append f xs (x ∷ []), total-cons f x [], total-nil f) (omega arith)

  pub total-add : (f g : A → ℕ) (xs : List A) → total (λ x. f x + g x) xs ≡ total f xs + total g xs
  total-add f g [] = rw (total-nil (λ x. f x + g x), total-nil f, total-nil g)
  total-add f g (x ∷ xs) =
      rw (total-cons (λ x. f x + g x) x xs, total-cons f x xs, total-cons g x xs, total-add f g xs) (omega arith)

  pub total-zero : (xs : List A) → total (λ x. 0) xs ≡ 0
  total-zero [] = total-nil (λ x. 0)
  total-zero (x ∷ xs) = rw (total-cons (λ x. 0) x xs) (omega (arith, total-zero xs))

  pub total-same : (f g : A → ℕ) (xs : List A) → ((x : A) → f x ≡ g x) → total f xs ≡ total g xs
  total-same f g [] h = rw (total-nil f, total-nil g)
  total-same f g (x ∷ xs) h = rw (total-cons f x xs, total-cons g x xs, h x, total-same f g xs h)

pub count_map : {A B : Type 0} (p : B → Bool) (f : A → B) (xs : List A) → count p (map f xs) ≡ count (λ x. p (f x)) xs
count_map p f [] = count-nil p ∙ sym (count-nil (λ x. p (f x)))
count_map p f (x ∷ xs) =
    rw (count-cons p (f x) (map f xs), count-cons (λ x. p (f x)) x xs, count_map p f xs)

-- totals and tests along a run of numbers

pub total-from-more : (f : ℕ → ℕ) (k : ℕ) → total f (from 0 (k + 1)) ≡ total f (from 0 k) + f k
total-from-more f k = let h : 0 + k ≡ k = omega arith in rw (from_more 0 k, total-snoc f (from 0 k) (0 + k), h)

pub count-from-more : (p : ℕ → Bool) (k : ℕ) → count p (from 0 (k + 1)) ≡ count p (from 0 k) + cond (p k) 1 0
count-from-more p k =
    let h : 0 + k ≡ k = omega arith in
    rw (from_more 0 k, count-append p (from 0 k) ((0 + k) ∷ []), count-cons p (0 + k) [], count-nil p, h) (omega arith)

-- tests that agree along a run count the same
pub count-same-from : (p q : ℕ → Bool) (n : ℕ) → ((i : ℕ) → i < n → p i ≡ q i) → count p (from 0 n) ≡ count q (from 0 n)
count-same-from p q zero h = rw (from-none 0, count-nil p, count-nil q)
count-same-from p q (suc n) h =
    rw (← add-one n, count-from-more p n, count-from-more q n, h n (omega arith), count-same-from p q n (λ i l. h i (omega arith)))

-- a shorter run adds up to no more
pub total-from-most : (f : ℕ → ℕ) (k n i : ℕ) → k ≤ n → total f (from i k) ≤ total f (from i n)
total-from-most f zero n i h = rw (from-none i, total-nil f) (omega arith)
total-from-most f (suc k) zero i h = absurd (omega arith)
total-from-most f (suc k) (suc n) i h =
    rw (from_suc i k, from_suc i n, total-cons f i (from (suc i) k), total-cons f i (from (suc i) n))
    (omega (arith, total-from-most f k n (suc i) (omega arith)))

module _ (p : ℕ → Bool) where
  pub keep-from-none : (k i : ℕ) → ((x : ℕ) → i ≤ x → p x ≡ false) → keep p (from i k) ≡ []
  keep-from-none zero i h = rw (from-none i, keep-nil p)
  keep-from-none (suc k) i h =
      rw (from_suc i k, keep-false p i (from (suc i) k) (h i (omega arith)))
      (keep-from-none k (suc i) (λ x l. h x (omega arith)))

  -- where just one number of the run passes, it is kept alone
  pub keep-from-one : (k i v : ℕ) → i ≤ v → v < i + k → p v ≡ true → ((x : ℕ) → (x ≡ v → ⊥) → p x ≡ false) → keep p (from i k) ≡ v ∷ []
  keep-from-one zero i v h l e o = absurd (omega arith)
  keep-from-one (suc k) i v h l e o =
      case (eqb i v)
      (λ q. let z = eqb-true i v q in
      rw (from_suc i k, z, keep-true p v (from (suc v) k) e, keep-from-none k (suc v) (λ x b. o x (λ w. omega arith))))
      (λ q. let z = eqb-false i v q in
      rw (from_suc i k, keep-false p i (from (suc i) k) (o i z)) (keep-from-one k (suc i) v (omega arith) (omega arith) e o))

-- tests that agree along a run keep the same
pub keep-same-run : (p q : ℕ → Bool) (k i : ℕ) → ((x : ℕ) → i ≤ x → x < i + k → p x ≡ q x) → keep p (from i k) ≡ keep q (from i k)
keep-same-run p q zero i h = rw (from-none i, keep-nil p, keep-nil q)
keep-same-run p q (suc k) i h =
    let same = keep-same-run p q k (suc i) (λ x l b. h x (omega arith) (omega arith)) in
    let here = h i (omega arith) (omega arith) in
    rw (from_suc i k)
    (case (p i)
    (λ e. rw (keep-true p i (from (suc i) k) e, keep-true q i (from (suc i) k) (sym here ∙ e), same))
    (λ e. rw (keep-false p i (from (suc i) k) e, keep-false q i (from (suc i) k) (sym here ∙ e), same)))

pub keep-same-from : (p q : ℕ → Bool) (n : ℕ) → ((i : ℕ) → i < n → p i ≡ q i) → keep p (from 0 n) ≡ keep q (from 0 n)
keep-same-from p q n h = keep-same-run p q n 0 (λ x l b. h x (omega arith))

-- member

pub member-nil : (x : ℕ) → member x [] ≡ false
unfolding member
member-nil x = refl

pub member-cons : (x y : ℕ) (ys : List ℕ) → member x (y ∷ ys) ≡ (eqb x y || member x ys)
unfolding member
member-cons x y ys = refl

pub member-append : (x : ℕ) (xs ys : List ℕ) → member x (xs ++ ys) ≡ (member x xs || member x ys)
unfolding member
member-append x [] ys = refl
member-append x (y ∷ xs) ys = rw (member-append x xs ys) (sym (or_assoc (eqb x y) (member x xs) (member x ys)))

pub member-snoc : (x : ℕ) (xs : List ℕ) (y : ℕ) → member x (xs ++ (y ∷ [])) ≡ (member x xs || eqb x y)
member-snoc x xs y = rw (member-append x xs (y ∷ []), member-cons x y [], member-nil x, or-false (eqb x y))

pub member-last : (x : ℕ) (l : List ℕ) → member x (l ++ (x ∷ [])) ≡ true
member-last x l = rw (member-snoc x l x, eq-eqb x x refl) (case (member x l) (λ h. rw h) (λ h. rw h))

pub member-before : (x : ℕ) (l : List ℕ) (y : ℕ) → member x l ≡ true → member x (l ++ (y ∷ [])) ≡ true
member-before x l y e = rw (member-snoc x l y, e)

pub snoc-cases : {C : Type 0} (x : ℕ) (l : List ℕ) (y : ℕ) → member x (l ++ (y ∷ [])) ≡ true → (member x l ≡ true → C) → (x ≡ y → C) → C
snoc-cases x l y e f g = case (member x l) f (λ h. g (eqb-true x y (rw (member-snoc x l y, h) at e)))

pub member-head : (x : ℕ) (l : List ℕ) → member x (x ∷ l) ≡ true
member-head x l = rw (member-cons x x l, eq-eqb x x refl)

pub member-tail : (x y : ℕ) (l : List ℕ) → member x l ≡ true → member x (y ∷ l) ≡ true
member-tail x y l e = rw (member-cons x y l) (case (eqb x y) (λ h. rw h) (λ h. rw h e))

pub member-cases : {C : Type 0} (x y : ℕ) (l : List ℕ) → member x (y ∷ l) ≡ true → (x ≡ y → C) → (member x l ≡ true → C) → C
member-cases x y l e f g = case (eqb x y) (λ h. f (eqb-true x y h)) (λ h. g (rw (member-cons x y l, h) at e))

pub member-keep : (p : ℕ → Bool) (x : ℕ) (l : List ℕ) → member x (keep p l) ≡ true → (p x ≡ true) × (member x l ≡ true)
member-keep p x [] e = never (member x []) (rw (keep-nil p) at e) (member-nil x)
member-keep p x (y ∷ l) e =
    case (p y)
    (λ h. member-cases x y (keep p l) (rw (keep-true p y l h) at e)
    (λ z. (rw z h, rw z (member-head y l)))
    (λ m. let w = member-keep p x l m in (w.0, member-tail x y l w.1)))
    (λ h. let w = member-keep p x l (rw (keep-false p y l h) at e) in (w.0, member-tail x y l w.1))

pub member-kept : (p : ℕ → Bool) (x : ℕ) (l : List ℕ) → p x ≡ true → member x l ≡ true → member x (keep p l) ≡ true
member-kept p x [] h e = never (member x []) e (member-nil x)
member-kept p x (y ∷ l) h e =
    member-cases x y l e
    (λ z. rw (keep-true p y l (rw z at h), z) (member-head y (keep p l)))
    (λ m. case (p y)
    (λ k. rw (keep-true p y l k) (member-tail x y (keep p l) (member-kept p x l h m)))
    (λ k. rw (keep-false p y l k) (member-kept p x l h m)))

pub member-from : (k i x : ℕ) → member x (from i k) ≡ true → (i ≤ x) × (x < i + k)
unfolding from
member-from zero i x e = never (member x []) e (member-nil x)
member-from (suc k) i x e =
    member-cases x i (from (suc i) k) e (λ h. (omega arith, omega arith))
    (λ h. let w = member-from k (suc i) x h in (omega arith, omega arith))

pub from_member : (k i x : ℕ) → i ≤ x → x < i + k → member x (from i k) ≡ true
unfolding from
from_member zero i x h l = absurd (omega arith)
from_member (suc k) i x h l =
    rw (member-cons x i (from (suc i) k))
    (case (eqb x i) (λ e. rw e) (λ e. let n = eqb-false x i e in rw e (from_member k (suc i) x (omega arith) (omega arith))))

pub member-at : (l : List ℕ) (i : ℕ) → i < length l → member (get_or l i 0) l ≡ true
member-at [] i h = absurd (omega arith)
member-at (y ∷ l) zero h = member-head y l
member-at (y ∷ l) (suc i) h = member-tail (get_or l i 0) y l (member-at l i (omega arith))

pub map_at : (f : ℕ → ℕ) (l : List ℕ) (i : ℕ) → i < length l → get_or (map f l) i 0 ≡ f (get_or l i 0)
map_at f [] i h = absurd (omega arith)
map_at f (y ∷ l) zero h = refl
map_at f (y ∷ l) (suc i) h = map_at f l i (omega arith)

-- without

pub without-member : (x y : ℕ) (l : List ℕ) → member x (without y l) ≡ true → (x ≡ y → ⊥) × (member x l ≡ true)
unfolding without
without-member x y l e =
    let w = member-keep (λ z. not (eqb z y)) x l e in
    ((λ h. never (eqb x y) (eq-eqb x y h) (not-true (eqb x y) w.0)), w.1)

pub member-without : (x y : ℕ) (l : List ℕ) → (x ≡ y → ⊥) → member x l ≡ true → member x (without y l) ≡ true
unfolding without
member-without x y l h e = member-kept (λ z. not (eqb z y)) x l (rw (ne_eqb x y h)) e

pub without-shorter : (x : ℕ) (l : List ℕ) → member x l ≡ true → length (without x l) < length l
unfolding without
without-shorter x [] e = never (member x []) e (member-nil x)
without-shorter x (y ∷ l) e =
    case (eqb y x)
    (λ h. rw (keep-false (λ z. not (eqb z x)) y l (rw h)) (omega (arith, keep-most (λ z. not (eqb z x)) l)))
    (λ h. let m = member-cases x y l e (λ z. absurd (eqb-false y x h (sym z))) (λ m. m) in
    rw (keep-true (λ z. not (eqb z x)) y l (rw h)) (omega (arith, without-shorter x l m)))

pub without-none : (x : ℕ) (l : List ℕ) → member x l ≡ false → without x l ≡ l
unfolding without
without-none x [] e = keep-nil (λ z. not (eqb z x))
without-none x (y ∷ l) e =
    let h : (y ≡ x → ⊥) = λ z. never (member x (y ∷ l)) (rw z (member-head x l)) e in
    rw (keep-true (λ z. not (eqb z x)) y l (rw (ne_eqb y x h)))
    (ap (λ k. y ∷ k) (without-none x l (false-by (member x l) (λ m. never (member x (y ∷ l)) (member-tail x y l m) e))))

-- what holds of each element before v holds of one more once x is stored at v
pub stored_more : {A : Type 0} (P : ℕ → A → Type 0) (d : A) (l : List A) (v : ℕ) (x : A) → v < length l
    → ((i : ℕ) → i < v → P i (get_or l i d)) → P v x → (i : ℕ) → i < v + 1 → P i (get_or (set l v x) i d)
stored_more P d l v x h before here =
    below_more _ v (λ i b. rw (get_or-set_other l v i x d (λ e. omega arith)) (before i b)) (rw (get_or-set_same l v x d h) here)

-- a list that goes on behind xs as l does, once x is stored behind xs
pub stored-behind : {A : Type 0} (xs l : List A) (i : ℕ) (x : A) → length xs ≡ i → i < length l
    → set (xs ++ drop i l) i x ≡ (xs ++ (x ∷ [])) ++ drop (i + 1) l
stored-behind xs l i x e h =
    let rest = drop (i + 1) l in
    let split : drop i l ≡ get_or l i x ∷ rest = rw (add-one i) (drop-cons l i x h) in
    rw (split, set_at xs (get_or l i x) rest x i e, append_snoc xs x rest)

-- a list of the default is the default wherever it is asked
pub get_or-replicate-default : {A : Type 0} (n : ℕ) (d : A) (i : ℕ) → get_or (replicate n d) i d ≡ d
get_or-replicate-default zero d i = refl
get_or-replicate-default (suc n) d zero = refl
get_or-replicate-default (suc n) d (suc i) = get_or-replicate-default n d i

pub get_or-zeros : (n i : ℕ) → get_or {A = ℕ} (replicate n 0) i 0 ≡ 0
get_or-zeros n i = get_or-replicate-default n 0 i

-- two totals along a run that agree at each of its numbers
pub total-same-from : (f g : ℕ → ℕ) (k : ℕ) → ((i : ℕ) → i < k → f i ≡ g i) → total f (from 0 k) ≡ total g (from 0 k)
total-same-from f g zero h = rw (from-none 0, total-nil f, total-nil g)
total-same-from f g (suc k) h =
    rw (← add-one k, total-from-more f k, total-from-more g k, h k (omega arith), total-same-from f g k (λ i l. h i (omega arith)))
