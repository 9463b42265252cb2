use Prim.Native.Nat.{ℕ, ◌+◌, ◌*◌, ◌<◌}
use mathlib.Core.List.{List, ◌++◌}
use mathlib.Core.Path.{◌≡◌, refl, sym, ◌∙◌}
use native.Mathlib.Omega.{arith}
use lib.Dec.{ltb}
use lib.ListN.{length, get_or, set, drop, length-set, length-map}
use borrow.Author.Tests.{ltb-true}
use Rattle.basics.specs.Lists.{from}
use Rattle.basics.proofs.Laws.{from-none, from-length, map-from-more, stored-behind}
use borrow.Author.Count.{below_more}
use Rattle.std.specs.Prelude.{Some}
use Rattle.std.proofs.lemmas.Option.{cond_some}
use Rattle.text.specs.Text.{value_of, digit_of, byte_at, bytes_of}
use Rattle.text.proofs.decode.Goals as goal

-- what a digit stands for
digit-known : (c value : ℕ) → Some value ≡ digit_of c → (value_of c ≡ value) × (value < 16)
digit-known c value p =
    let known = cond_some (ltb (value_of c) 16) (value_of c) value (sym p) in
    let low : value_of c < 16 = ltb-true (value_of c) 16 known.0 in
    (known.1, omega (arith, known.1))

-- one byte more, at the place after the last
one_more : (text bytes : List ℕ) (i : ℕ) → i < length bytes
    → set (bytes_of text i ++ drop i bytes) i (byte_at text i) ≡ bytes_of text (i + 1) ++ drop (i + 1) bytes
one_more text bytes i h =
    rw (map-from-more (byte_at text) i) (stored-behind (bytes_of text i) bytes i (byte_at text i) (length-map (from 0 i) _ ∙ from-length 0 i) h)

pub loop-i-init : goal.loop-i-init
loop-i-init c = (refl, λ j h. absurd (omega arith), rw (from-none 0) refl)

pub loop-i-preserved : goal.loop-i-preserved
loop-i-preserved c =
    let l = c.loop-i in
    let text = c.args.text.now in
    let high = digit-known (get_or text (2 * l.i) 0) c.in_ok-digit.field-0 c.in_ok-digit.ensures.value in
    let low = digit-known (get_or text (2 * l.i + 1) 0) c.in_ok-byte.field-0 c.in_ok-byte.ensures.value in
    let IsDigit : ℕ → Type 0 = λ k. value_of (get_or text k 0) < 16 in
    let two : 2 * (l.i + 1) ≡ 2 * l.i + 1 + 1 = omega arith in
    let byte : c.in_ok-digit.field-0 * 16 + c.in_ok-byte.field-0 ≡ byte_at text l.i = omega (arith, high.0, low.0) in (
      length-set l.bytes l.i _ ∙ l.invariant.0,
      rw two (below_more IsDigit (2 * l.i + 1) (below_more IsDigit (2 * l.i) l.invariant.1 (omega (arith, high.0, high.1))) (omega (arith, low.0, low.1))),
      rw (byte, l.invariant.2) (one_more text c.args.bytes.now l.i (omega arith)),
    )
