-- The pairs of a map, two bytes each, and how long a line can be: a pair takes at most 8 characters.
use Prim.Native.Nat.{ℕ, zero, suc, ◌+◌, ◌*◌, ◌^◌, ◌≤◌, ◌<◌}
use mathlib.Core.List.{List, [], ◌∷◌, ◌++◌}
use mathlib.Core.Path.{◌≡◌, ◌∙◌, ap}
use native.Mathlib.Omega.{arith}
use lib.ListN.{length, get_or, drop, length-append}
use Rattle.std.specs.Prelude.{decimal, flat_map}
use Rattle.std.specs.Simd.{first_chunks}
use Rattle.std.proofs.lemmas.List.{get_or-take, get_or-drop}
use Rattle.std.proofs.lemmas.Fmt.{length-decimal-le}
use Rattle.basics.specs.Lists.{from}
use Rattle.basics.proofs.Laws.{from-none, from_suc}
use Rattle.text.specs.Text.{field, pair, pair_at, last_line}

-- the bytes of a pair
pub pair-bytes : (k i : ℕ) (bytes : List ℕ) (j n : ℕ) → i < k → j < 2 → n ≡ 2 * i + j
    → get_or (get_or (first_chunks 2 k bytes) i []) j 0 ≡ get_or bytes n 0
pair-bytes zero i bytes j n h l e = absurd (omega (arith, h))
pair-bytes (suc k) zero bytes j n h l e = get_or-take 2 bytes j 0 l ∙ ap (λ m. get_or bytes m 0) (omega (arith, e))
pair-bytes (suc k) (suc i) bytes j n h l e =
    pair-bytes k i (drop 2 bytes) j (2 * i + j) (omega (arith, h)) l (omega arith)
    ∙ get_or-drop 2 bytes (2 * i + j) 0
    ∙ ap (λ m. get_or bytes m 0) (omega (arith, e))

pair-most : (a b : ℕ) → a < 256 → b < 256 → length (pair a b) ≤ 8
pair-most a b h k =
    omega (arith, length-append (field a) (58 ∷ decimal b), length-decimal-le 3 a (omega arith) (omega arith) (omega arith), length-decimal-le 3 b (omega arith) (omega arith) (omega arith))

module _ (bytes : List ℕ) (small : (i : ℕ) → get_or bytes i 0 < 256) where
  pub pairs_most : (k i : ℕ) → length (flat_map (pair_at bytes) (from i k)) ≤ 8 * k
  pairs_most zero i = rw (from-none i) (omega arith)
  pairs_most (suc k) i =
      rw (from_suc i k)
      (omega (arith, length-append (pair_at bytes i) (flat_map (pair_at bytes) (from (suc i) k)), pair-most (get_or bytes (2 * i) 0) (get_or bytes (2 * i + 1) 0) (small (2 * i)) (small (2 * i + 1)), pairs_most k (suc i)))

-- a number of 64 bits has at most 20 digits
pub last-line-most : (name : List ℕ) (a b : ℕ) → a < 2 ^ 64 → b < 2 ^ 64 → length (last_line name a b) ≤ length name + 43
last-line-most name a b h k =
    omega (arith, length-append (name ++ field a ++ field b) (10 ∷ []), length-append (name ++ field a) (field b), length-append name (field a), length-decimal-le 20 a (omega arith) (omega arith) h, length-decimal-le 20 b (omega arith) (omega arith) k)
