-- `bits::number` meets its contract. At the loop's head `value` is the field of the first i bits.
use mathlib.Core.Path.{◌≡◌}
use Rattle.bits.specs.Bits.{field}
use Rattle.bits.proofs.number.Given as goal

abbrev pub invariant-loop-i : goal.invariant-loop-i
invariant-loop-i l = l.value ≡ field l.s l.offset l.i
