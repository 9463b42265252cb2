-- `text::decode` meets its contract. At the loop's head the first 2 * i characters are digits, and the buffer starts with the i bytes
-- that they spell and goes on as it came.
use Prim.Native.Nat.{◌*◌}
use mathlib.Core.List.{◌++◌}
use mathlib.Core.Path.{◌≡◌}
use lib.ListN.{length, drop}
use Rattle.text.specs.Text.{Digits, bytes_of}
use Rattle.text.proofs.decode.Given as goal

abbrev pub invariant-loop-i : goal.invariant-loop-i
invariant-loop-i l =
    (length l.bytes ≡ length l.initial.bytes) × Digits l.text (2 * l.i) × (l.bytes ≡ bytes_of l.text l.i ++ drop l.i l.initial.bytes)
