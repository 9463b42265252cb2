-- What fits of bytes put after bytes is what fits of both.
use Prim.Native.Nat.{ℕ, ◌+◌, ◌-◌, ◌≤◌, ◌<◌, min}
use mathlib.Core.List.{List, [], ◌∷◌, ◌++◌, append_assoc}
use mathlib.Core.Path.{◌≡◌, refl, sym, ◌∙◌, ap}
use native.Mathlib.Omega.{arith}
use lib.Dec.{ltb}
use lib.ListN.{length, take, length-append}
use lib.Seq.{take-length, take-append-le, take-append-add, take-take, take_all}
use Rattle.std.specs.Prelude.{flat_map}
use Rattle.std.proofs.lemmas.List.{length-take-le, flat_map_more}
use borrow.Author.Tests.{ltb-true, ltb-false}
use Rattle.basics.proofs.Tests.{case}

-- the bytes for which there is room
pub fit-part : (N : ℕ) (text bytes : List ℕ) (n : ℕ) → length text ≤ N → n ≡ min (length bytes) (N - length text)
    → text ++ take n bytes ≡ take N (text ++ bytes)
fit-part N text bytes n h e =
    let room : N ≡ length text + (N - length text) = omega arith in
    let rest = take-append-add text bytes (N - length text) in
    case (ltb (length bytes) (N - length text))
    (λ t. let short : length bytes < N - length text = ltb-true (length bytes) (N - length text) t in
    let n-is : n ≡ length bytes = omega arith in
    rw (n-is, take-length bytes) (sym (take_all N (text ++ bytes) (omega (arith, length-append text bytes)))))
    (λ t. let long : N - length text ≤ length bytes = ltb-false (length bytes) (N - length text) t in
    let n-is : n ≡ N - length text = omega arith in
    rw n-is (sym rest ∙ ap (λ m. take m (text ++ bytes)) (sym room)))

-- put after what has been put
pub fit_then : (N : ℕ) (text more : List ℕ) → take N (take N text ++ more) ≡ take N (text ++ more)
fit_then N text more =
    case (ltb (length text) N)
    (λ t. let short : length text < N = ltb-true (length text) N t in
    rw (take_all N text (omega arith)) refl)
    (λ t. let full : N ≤ length text = ltb-false (length text) N t in
    take-append-le N (take N text) more (omega (arith, length-take-le N text full))
    ∙ take-take N N text (omega arith)
    ∙ sym (take-append-le N text more full))

-- one part more
pub fit_more : (N : ℕ) (part : ℕ → List ℕ) (text numbers : List ℕ) (n : ℕ) {between after : List ℕ}
    → between ≡ take N (text ++ flat_map part numbers) → after ≡ take N (between ++ part n)
    → after ≡ take N (text ++ flat_map part (numbers ++ (n ∷ [])))
fit_more N part text numbers n p q =
    q ∙ rw p (fit_then N (text ++ flat_map part numbers) (part n)) ∙ ap (take N) (flat_map_more part text numbers n)

-- what fits is put whole
pub fit-whole : (N : ℕ) (text first second : List ℕ) {between after : List ℕ} → length text + length first + length second ≤ N
    → between ≡ take N (text ++ first) → after ≡ take N (between ++ second) → after ≡ text ++ (first ++ second)
fit-whole N text first second h p q =
    q
    ∙ rw p (fit_then N (text ++ first) second)
    ∙ ap (take N) (append_assoc text first second)
    ∙ take_all N (text ++ (first ++ second)) (omega (arith, length-append text (first ++ second), length-append first second))
