-- `proposed::Likeness::like_edges` meets its contract. At the loop's head the sum counts the first edges that are like the one sought; it
-- is at most their number, so it fits.
use Prim.Native.Nat.{◌≤◌}
use mathlib.Core.Path.{◌≡◌}
use Rattle.graph.specs.Words.{edges_in}
use Rattle.proposed.specs.Proposed.{like_edges}
use Rattle.proposed.proofs.Likeness.like_edges.Given as goal

abbrev pub invariant-loop-word : goal.invariant-loop-word
invariant-loop-word l =
    (l.sum ≤ l.word-index)
    × (l.sum ≡ like_edges l.fn.self.directed l.fn.self.by_label l.fn.label l.fn.a l.fn.b (edges_in l.fn.words l.word-index))
