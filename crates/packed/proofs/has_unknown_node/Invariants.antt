-- `packed::has_unknown_node` meets its contract. At the loop's head no edge before j names an unknown node,
-- so the answer for those that are left is the answer for all.
use Prim.Native.Nat.{ℕ, ◌≤◌, ◌-◌}
use mathlib.Core.Bool.{Bool}
use mathlib.Core.Path.{◌≡◌}
use mathlib.Core.List.{List}
use Rattle.basics.specs.Lists.{from, any}
use Rattle.packed.specs.Packed.{edge_from, edge_offset}
use Rattle.packed.specs.Refusals.{names_unknown}
use Rattle.packed.proofs.has_unknown_node.Given as goal

abbrev pub unknown : List ℕ → ℕ → ℕ → Bool
unknown s nodes j = names_unknown nodes (edge_from s (edge_offset nodes j))

abbrev pub invariant-loop-j : goal.invariant-loop-j
invariant-loop-j l =
    (l.j ≤ l.edges) × (any (unknown l.s l.nodes) (from l.j (l.edges - l.j)) ≡ any (unknown l.s l.nodes) (from 0 l.edges))

abbrev pub decreases-loop-j : goal.decreases-loop-j
decreases-loop-j l = l.edges - l.j
