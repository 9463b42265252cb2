-- `text::number` meets its contract. At the loop's head the first characters are decimal digits, and n is what they spell: less
-- than 10 to their number.
use Prim.Native.Nat.{◌^◌, ◌<◌}
use mathlib.Core.Bool.{false}
use mathlib.Core.Path.{◌≡◌}
use lib.Dec.{ltb}
use lib.ListN.{take}
use Rattle.std.specs.List.{list_any}
use Rattle.text.specs.Text.{value_of, spelled}
use Rattle.text.proofs.number.Given as goal

abbrev pub invariant-loop-c : goal.invariant-loop-c
invariant-loop-c l =
    let front = take l.c-index l.text in
    (l.n < 10 ^ l.c-index) × (l.n ≡ spelled front) × (list_any (λ c. ltb 9 (value_of c)) front ≡ false)
