-- `list::list_prepared` is safe and ends. At the loop's head the search stands.
use Rattle.std.proofs.Common.{◌≡◌, length}
use Rattle.lookup.specs.Graphs.{lent_of}
use Rattle.step.specs.Steps.{Stands}
use Rattle.list.proofs.list_prepared.Given as goal

abbrev pub invariant-loop : goal.invariant-loop
invariant-loop g l =
    (32768 ≡ length l.bytes) × Stands (lent_of l.graphs) l.search
