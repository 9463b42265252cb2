-- `text::Page::put_map` meets its contract. At the loop's head the first pairs are put after the word.
use mathlib.Core.List.{◌++◌}
use mathlib.Core.Path.{◌≡◌}
use lib.ListN.{take}
use Rattle.std.specs.Prelude.{flat_map}
use Rattle.basics.specs.Lists.{from}
use Rattle.text.specs.Text.{pair_at}
use Rattle.text.proofs.Page.put_map.Given as goal

abbrev pub invariant-loop-a : goal.invariant-loop-a
invariant-loop-a g l = l.self ≡ take g.row.N (l.initial.self ++ flat_map (pair_at l.map) (from 0 l.a-index))
