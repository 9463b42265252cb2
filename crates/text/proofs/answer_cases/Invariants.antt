-- `text::answer_cases` meets its contract. At the loop's head, where the input had nothing to read, nothing has been written.
use denote.Param.Always.{always_mut}
use mathlib.Core.Path.{◌≡◌}
use mathlib.Core.List.{[]}
use Rattle.std.specs.Prelude.{Some}
use Rattle.std.specs.Io.KnownBytes.{Keeps}
use Rattle.text.proofs.answer_cases.Given as goal

abbrev pub invariant-loop : goal.invariant-loop
invariant-loop g l =
    let remaining = g.R.Read.remaining in
    let contents = g.W.Write.contents in
    record {
      callable : always_mut g.F.FnMut l.initial.answer → always_mut g.F.FnMut l.answer;
      nothing : remaining l.initial.input ≡ Some [] → (remaining l.input ≡ Some []) × Keeps (contents l.initial.out) (contents l.out);
    }
