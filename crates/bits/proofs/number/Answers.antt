use Prim.Native.Nat.{ℕ, ◌<◌, ◌^◌}
use mathlib.Core.Path.{sym}
use mathlib.Core.List.{List}
use native.Mathlib.Omega.{arith}
use lib.Pow.{pow_mono}
use Rattle.bits.specs.Bits.{field}
use Rattle.bits.proofs.Laws.{field-none, field-more, field_below}
use Rattle.bits.proofs.number.Goals as goal

-- there is room for one bit more
room : (s : List ℕ) (o i : ℕ) → i < 32 → field s o i < 2 ^ 31
room s o i h = omega (arith, field_below s o i, pow_mono {i = i} {j = 31} (omega arith))

pub loop-i-init : goal.loop-i-init
loop-i-init c = sym (field-none _ _)

pub overflow_mul-value : goal.overflow_mul-value
overflow_mul-value c =
    let a = c.args in
    omega (arith, room a.s.now a.offset c.loop-i.i (omega arith))

pub overflow_add-value : goal.overflow_add-value
overflow_add-value c =
    let a = c.args in
    omega (arith, room a.s.now a.offset c.loop-i.i (omega arith), c.bit.ensures)

pub loop-i-preserved : goal.loop-i-preserved
loop-i-preserved c = rw field-more (cc)
