-- `list::write_last` meets its contract: a name of 7 letters and two numbers of 20 digits find room in the page.
use mathlib.Core.List.{[], ◌∷◌}
use native.Mathlib.Omega.{arith}
use lib.ListN.{length-append}
use Rattle.text.specs.Text.{outcome}
use Rattle.text.proofs.Fit.{fit-whole}
use Rattle.text.proofs.Lines.{last-line-most}
use Rattle.list.proofs.write_last.Goals as goal

pub returns-clause-whole : goal.returns-clause-whole
returns-clause-whole g c =
    let a = c.args in
    let text = outcome a.name.now a.a a.b in
    let short = last-line-most a.name.now a.a a.b (omega (arith, c.ranges.a)) (omega (arith, c.ranges.b)) in
    fit-whole 65536 a.page.now text (10 ∷ []) (omega (arith, short, length-append text (10 ∷ []))) c.put_outcome.ensures c.write_line.ensures.line_ended
