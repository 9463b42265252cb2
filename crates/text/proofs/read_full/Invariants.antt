-- `text::read_full` meets its contract: what has been read lies in the buffer, and the input has lost it.
use Rattle.std.proofs.Common.{◌≤◌, length, take}
use Rattle.std.specs.Io.KnownBytes.{Consumes}
use Rattle.text.proofs.read_full.Given as goal

abbrev pub invariant-loop : goal.invariant-loop
invariant-loop g l =
    let remaining = g.R.Read.remaining in
    (l.got ≤ length l.bytes) × Consumes (remaining l.initial.input) (remaining l.input) (take l.got l.bytes)
