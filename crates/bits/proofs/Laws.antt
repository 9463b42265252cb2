-- Laws of a field: one bit more, its bound, fields side by side, equal fields and their bits, and a byte as its own field.
use Prim.Native.Nat.{ℕ, zero, suc, ◌+◌, ◌*◌, ◌/◌, ◌-◌, ◌%◌, ◌^◌, ◌<◌, ◌≤◌}
use mathlib.Core.Bool.{Bool, not, ◌||◌, or-false, or-true}
use mathlib.Core.Path.{◌≡◌, refl, sym, ◌∙◌, ap}
use mathlib.Core.List.{List}
use native.Mathlib.Nat.{pow-suc, mod-lt, add_assoc, mul_assoc, mul-zero, mul-suc, div-eq_of_lt, div-one, div-add-mod', div-div-eq-div-mul}
use native.Mathlib.Numerals.{add-one}
use native.Mathlib.Omega.{arith}
use lib.Dec.{eqb, lit<}
use lib.ListN.{get_or}
use borrow.Author.Tests.{eqb-true, eqb-false, eq-eqb, ne_eqb}
use Rattle.basics.specs.Lists.{from, any}
use Rattle.basics.proofs.Tests.{case}
use Rattle.basics.proofs.Laws.{from-none, from_more, any-nil, any-cons, any_append}
use Rattle.bits.specs.Bits.{bit_at, field}

pub bit_below : (s : List ℕ) (o : ℕ) → bit_at s o < 2
bit_below s o = mod-lt _ (lit< tt)

pub field-none : (s : List ℕ) (o : ℕ) → field s o 0 ≡ 0
unfolding field
field-none s o = refl

pub field-more : (s : List ℕ) (o k : ℕ) → field s o (k + 1) ≡ field s o k * 2 + bit_at s (o + k)
unfolding field
field-more s o k = rw add-one

pub field_below : (s : List ℕ) (o k : ℕ) → field s o k < 2 ^ k
unfolding field
field_below s o zero = omega arith
field_below s o (suc k) = rw pow-suc (omega (arith, field_below s o k))

-- a field is not zero where one of its bits is 1
pub field-zero : (s : List ℕ) (o k : ℕ) → any (λ p. eqb (bit_at s p) 1) (from o k) ≡ not (eqb (field s o k) 0)
field-zero s o zero = rw (from-none, any-nil (λ p. eqb (bit_at s p) 1), field-none s o)
field-zero s o (suc k) =
    let set : ℕ → Bool = λ p. eqb (bit_at s p) 1 in
    let more : field s o (suc k) ≡ field s o k * 2 + bit_at s (o + k) = rw add-one at (field-more s o k) in
    let last : any set (from o (suc k)) ≡ (any set (from o k) || eqb (bit_at s (o + k)) 1) =
    rw (← add-one k, from_more o k, any_append set (from o k) _, any-cons set (o + k) _, any-nil set, or-false (eqb (bit_at s (o + k)) 1)) in
    let small = bit_below s (o + k) in
    rw (last, more, field-zero s o k)
    (case (eqb (bit_at s (o + k)) 1)
    (λ e. let one = eqb-true (bit_at s (o + k)) 1 e in rw (e, ne_eqb (field s o k * 2 + bit_at s (o + k)) 0 (λ z. omega arith)) (or-true (not (eqb (field s o k) 0))))
    (λ e. let none = eqb-false (bit_at s (o + k)) 1 e in rw (e, or-false (not (eqb (field s o k) 0))) (ap not (same (field s o k) (bit_at s (o + k)) (omega arith)))))
  where
    same : (x b : ℕ) → b ≡ 0 → eqb x 0 ≡ eqb (x * 2 + b) 0
    same x b h =
        case (eqb x 0)
        (λ e. let z = eqb-true x 0 e in rw (e, eq-eqb (x * 2 + b) 0 (omega arith)))
        (λ e. let z = eqb-false x 0 e in rw (e, ne_eqb (x * 2 + b) 0 (λ w. z (omega arith))))

-- two fields side by side
pub field-append : (s : List ℕ) (o j k : ℕ) → field s o (j + k) ≡ field s o j * 2 ^ k + field s (o + j) k
field-append s o j zero = let h : j + 0 ≡ j = omega arith in rw (h, field-none s (o + j)) (omega arith)
field-append s o j (suc k) =
    let a : j + suc k ≡ j + k + 1 = omega arith in
    let b : o + (j + k) ≡ o + j + k = omega arith in
    rw (a, field-more s o (j + k), field-append s o j k, b, ← add-one k, field-more s (o + j) k, add-one, pow-suc)
    (regroup (field s o j) (2 ^ k) (field s (o + j) k) (bit_at s (o + j + k)))
  where
    regroup : (x p y b : ℕ) → (x * p + y) * 2 + b ≡ x * (p * 2) + (y * 2 + b)
    regroup x p y b = rw (← mul_assoc x p 2) (omega arith)

-- equal fields have equal bits
pub field-bits : (s t : List ℕ) (o k : ℕ) → field s o k ≡ field t o k → (i : ℕ) → i < k → bit_at s (o + i) ≡ bit_at t (o + i)
field-bits s t o zero e i h = absurd (omega arith)
field-bits s t o (suc k) e i h =
    let a : field s o (suc k) ≡ field s o k * 2 + bit_at s (o + k) = rw add-one at (field-more s o k) in
    let b : field t o (suc k) ≡ field t o k * 2 + bit_at t (o + k) = rw add-one at (field-more t o k) in
    let c = bit_below s (o + k) in
    let d = bit_below t (o + k) in
    case (eqb i k)
    (λ q. rw (eqb-true i k q) (omega arith))
    (λ q. let n = eqb-false i k q in field-bits s t o k (omega arith) i (omega arith))

module _ (s t : List ℕ) where
  -- equal bits make equal fields
  pub bits-field : (o k : ℕ) → ((i : ℕ) → i < k → bit_at s (o + i) ≡ bit_at t (o + i)) → field s o k ≡ field t o k
  unfolding field
  bits-field o zero h = refl
  bits-field o (suc k) h = rw (bits-field o k (λ i l. h i (omega arith)), h k (omega arith))

  -- equal fields have equal parts, side by side they make equal fields, and so do equal fields of w bits each
  pub field-part : (o k i j : ℕ) → field s o k ≡ field t o k → i + j ≤ k → field s (o + i) j ≡ field t (o + i) j
  field-part o k i j e h = bits-field (o + i) j (λ b l. rw add_assoc (field-bits s t o k e (i + b) (omega arith)))

  pub field-beside : (o j k : ℕ) → field s o j ≡ field t o j → field s (o + j) k ≡ field t (o + j) k → field s o (j + k) ≡ field t o (j + k)
  field-beside o j k e f = rw (field-append s o j k, field-append t o j k, e, f)

  pub fields-beside : (o w n : ℕ) → ((i : ℕ) → i < n → field s (o + w * i) w ≡ field t (o + w * i) w) → field s o (w * n) ≡ field t o (w * n)
  fields-beside o w zero h = rw (mul-zero w, field-none s o, field-none t o)
  fields-beside o w (suc n) h =
      rw (mul-suc w n) (field-beside o (w * n) w (fields-beside o w n (λ i l. h i (omega arith))) (h n (omega arith)))

-- the first k bits of the byte at i, and all eight of them
byte-front : (s : List ℕ) (i k : ℕ) → k ≤ 8 → get_or s i 0 < 256 → field s (8 * i) k ≡ get_or s i 0 / 2 ^ (8 - k)
unfolding field
byte-front s i zero h b = sym (div-eq_of_lt b)
byte-front s i (suc k) h b =
    let x = get_or s i 0 in
    let at : (8 * i + k) / 8 ≡ i = omega arith in
    let left : (8 * i + k) % 8 ≡ k = omega arith in
    let wide : 8 - k ≡ suc (7 - k) = omega arith in
    let less : 8 - suc k ≡ 7 - k = omega arith in
    rw (byte-front s i k (omega arith) b, at, left, wide, less, pow-suc, ← div-div-eq-div-mul x (2 ^ (7 - k)) 2)
    (div-add-mod' (x / 2 ^ (7 - k)) 2)

pub byte-field : (s : List ℕ) (i : ℕ) → get_or s i 0 < 256 → field s (8 * i) 8 ≡ get_or s i 0
byte-field s i b = byte-front s i 8 (omega arith) b ∙ div-one (get_or s i 0)
