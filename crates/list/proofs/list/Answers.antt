-- `list::list` is safe and ends: what is examined and accepted has the counts of both files.
use mathlib.Core.Path.{sym}
use Rattle.inputs.proofs.Answered.{examined-accepted}
use Rattle.list.proofs.list.Goals as goal

pub list_accepted-requires-clause-first_read : goal.list_accepted-requires-clause-first_read
list_accepted-requires-clause-first_read g c =
    let a = c.args in (examined-accepted a.file0.now a.file1.now a.settings.now _ _ _ _ _ _ (sym c.in-Ok.ensures)).first_counts

pub list_accepted-requires-clause-second_read : goal.list_accepted-requires-clause-second_read
list_accepted-requires-clause-second_read g c =
    let a = c.args in (examined-accepted a.file0.now a.file1.now a.settings.now _ _ _ _ _ _ (sym c.in-Ok.ensures)).second_counts
