use Prim.Native.Nat.{ℕ, ◌≤◌, ◌-◌, ◌+◌, ◌<◌}
use mathlib.Core.Bool.{Bool, false, ◌||◌}
use mathlib.Core.Path.{◌≡◌, sym, ◌∙◌}
use mathlib.Core.List.{List}
use native.Mathlib.Omega.{arith}
use Rattle.basics.specs.Lists.{from, any}
use Rattle.basics.proofs.Laws.{from-left, from_end, any-nil, any-cons}
use Rattle.bits.specs.Bits.{field}
use Rattle.packed.specs.Packed.{edge_offset}
use Rattle.packed.specs.Refusals.{names_unknown}
use Rattle.packed.proofs.has_unknown_node.Invariants.{unknown}
use Rattle.packed.proofs.has_unknown_node.Goals.{After-is_unknown}
use Rattle.packed.proofs.has_unknown_node.Goals as goal

module _ (s : List ℕ) (nodes : ℕ) where
  -- what the test of an edge says, at the edge's offset
  tested : (j o source target : ℕ) (r : Bool) → o ≡ edge_offset nodes j → source ≡ field s o 7 → target ≡ field s (o + 7) 7
      → r ≡ names_unknown nodes (record { source = source; target = target; label = 0 }) → r ≡ unknown s nodes j
  tested j o source target r at from to e = e ∙ rw (from, to, at)

  split : (j edges : ℕ) → j < edges → any (unknown s nodes) (from j (edges - j)) ≡ (unknown s nodes j || any (unknown s nodes) (from (j + 1) (edges - (j + 1))))
  split j edges h = rw (from-left j edges h, any-cons (unknown s nodes) j (from (j + 1) (edges - (j + 1))))

  none_left : (j edges : ℕ) → edges ≤ j → any (unknown s nodes) (from j (edges - j)) ≡ false
  none_left j edges h = rw (from_end j edges h, any-nil (unknown s nodes))

-- the test in the loop's turn says whether edge j names an unknown node
answered : (c : After-is_unknown) → let a = c.args in
    c.is_unknown.result ≡ unknown a.s.now a.nodes c.loop-j.j
answered c =
    let a = c.args in
    tested a.s.now a.nodes c.loop-j.j _ _ _ _ c.used_bits-offset.ensures
    c.number-source.ensures c.number-target.ensures c.is_unknown.ensures

pub returns-then-is_unknown : goal.returns-then-is_unknown
returns-then-is_unknown c =
    let a = c.args in
    let l = c.loop-j in
    sym (sym l.invariant.1 ∙ rw (split a.s.now a.nodes l.j a.edges (omega arith), ← (answered (goal.at.returns-then-is_unknown c).After-is_unknown), c.if-is_unknown.true))

pub loop-j-preserved : goal.loop-j-preserved
loop-j-preserved c =
    let a = c.args in
    let l = c.loop-j in (
      omega arith,
      rw (split a.s.now a.nodes l.j a.edges (omega arith), ← (answered (goal.at.loop-j-preserved c).After-is_unknown), c.if-is_unknown.false) at l.invariant.1,
    )

pub returns : goal.returns
returns c =
    let a = c.args in
    let l = c.loop-j in
    sym (sym l.invariant.1 ∙ none_left a.s.now a.nodes l.j a.edges (omega arith))
