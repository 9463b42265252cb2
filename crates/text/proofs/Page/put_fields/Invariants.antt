-- `text::Page::put_fields` meets its contract. At the loop's head the fields of the first bytes are put.
use mathlib.Core.List.{◌++◌}
use mathlib.Core.Path.{◌≡◌}
use lib.ListN.{take}
use Rattle.text.specs.Text.{fields}
use Rattle.text.proofs.Page.put_fields.Given as goal

abbrev pub invariant-loop-b : goal.invariant-loop-b
invariant-loop-b g l = l.self ≡ take g.row.N (l.initial.self ++ fields (take l.b-index l.bytes))
