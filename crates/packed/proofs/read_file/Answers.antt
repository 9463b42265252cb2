-- `packed::read_file` meets its contract: each answer is what the line that decided gives. The tests of the code, over its
-- locals, are the tests of the table's lines over the fields; each place past a test knows that no line up to there applies.
use Prim.Native.Nat.{ℕ, suc, ◌+◌, ◌-◌, ◌*◌, ◌/◌, ◌<◌, ◌≤◌}
use mathlib.Core.Bool.{Bool, true, false, not}
use mathlib.Core.List.{List}
use mathlib.Core.Path.{◌≡◌, sym, ◌∙◌, ap}
use lib.Dec.{eqb, lit<}
use lib.ListN.{length, length-map}
use borrow.Author.Count.{below_none, below_more}
use borrow.Author.Tests.{lt-ltb, le-ltb, eq-eqb, ne_eqb}
use Rattle.basics.specs.Lists.{from, any}
use Rattle.basics.proofs.Laws.{from-length}
use Rattle.bits.specs.Bits.{field}
use Rattle.bits.proofs.Laws.{field-zero}
use Rattle.packed.specs.Packed.{node_count, edge_count, edge_at, edge_from, edge_offset, used_bits, label_at, graph_of}
use Rattle.packed.specs.Refusals.{too_short, too_many_nodes, too_many_edges, wrong_length, padding_bit, unknown_node, names_unknown, reading, graph}
use Rattle.packed.specs.Paper.{counts, summary, refused}
use Rattle.packed.proofs.First.{test, file_tests, reading-refusal}
use Rattle.packed.proofs.Accepted.{accepts}
use Rattle.packed.proofs.read_file.Goals.{After-has_unknown_node, After-number, After-used_bits-used, Else-edges-gt-MAX_EDGES, Else-has_unknown_node, Else-nodes-gt-MAX_NODES, Else-number-ne0, Else-s-lt3, Else-s-used, at-After-has_unknown_node, at-After-number, at-Else-edges-gt-MAX_EDGES, at-Else-has_unknown_node, at-Else-nodes-gt-MAX_NODES, at-Else-number-ne0, at-Else-s-used}
use Rattle.packed.proofs.read_file.Goals as goal

module _ (s : List ℕ) where
  long : 3 ≤ length s → too_short s ≡ false
  long h = le-ltb (length s) 3 h

  many-nodes : (n : ℕ) → n ≡ node_count s → 128 < n → too_many_nodes s ≡ true
  many-nodes n q h = rw (← q) (lt-ltb 128 n h)

  few-nodes : (n : ℕ) → n ≡ node_count s → n ≤ 128 → too_many_nodes s ≡ false
  few-nodes n q h = rw (← q) (le-ltb 128 n h)

  many-edges : (e : ℕ) → e ≡ edge_count s → 1024 < e → too_many_edges s ≡ true
  many-edges e q h = rw (← q) (lt-ltb 1024 e h)

  few-edges : (e : ℕ) → e ≡ edge_count s → e ≤ 1024 → too_many_edges s ≡ false
  few-edges e q h = rw (← q) (le-ltb 1024 e h)

  module _ (n e used : ℕ) (nq : n ≡ node_count s) (eq : e ≡ edge_count s) (uq : used ≡ used_bits n e) where
    wrong-length : (length s ≡ (used + 7) / 8 → ⊥) → wrong_length s ≡ true
    wrong-length h = rw (← nq, ← eq, ← uq, ne_eqb (length s) ((used + 7) / 8) h)

    right-length : length s ≡ (used + 7) / 8 → wrong_length s ≡ false
    right-length h = rw (← nq, ← eq, ← uq, eq-eqb (length s) ((used + 7) / 8) h)

    padding : (x : ℕ) → x ≡ field s used (8 * length s - used) → padding_bit s ≡ not (eqb x 0)
    padding x h = rw (← nq, ← eq, ← uq, field-zero s used (8 * length s - used), h)

    unknown : (r : Bool) → r ≡ any (λ j. names_unknown n (edge_from s (edge_offset n j))) (from 0 e) → unknown_node s ≡ r
    unknown r h = rw (← nq, ← eq, h)

    summary-of-graph : (k : ℕ) → k ≡ field s 0 1 → counts (eqb k 1) n e ≡ summary (graph (graph_of s))
    unfolding graph_of
    summary-of-graph k h =
        rw (length-map (from 0 (node_count s)) (label_at s), length-map (from 0 (edge_count s)) (edge_at s), from-length 0 (node_count s), from-length 0 (edge_count s), nq, eq, h)

-- no line with a number up to k applies
abbrev Past : ℕ → List ℕ → Type 0
Past k s = (j : ℕ) → j < k → test (file_tests s) j ≡ false

past : (s : List ℕ) (k : ℕ) → Past k s → test (file_tests s) k ≡ false → Past (k + 1) s
past s = below_more (λ j. test (file_tests s) j ≡ false)

Refuses : (file : ℕ) (s : List ℕ) (k : ℕ) → Past k s → test (file_tests s) k ≡ true
    → refused (record { number = suc k; file = file }) ≡ summary (reading file s)
Refuses file s k p t = sym (ap summary ((reading-refusal file s k).1 (t, p)))

past-1 : (c : Else-s-lt3) → Past 1 c.args.s.now
past-1 c = let s = c.args.s.now in past s 0 (below_none _) (long s c.if-s-lt3.false)

past-2 : (c : Else-nodes-gt-MAX_NODES) → Past 2 c.args.s.now
past-2 c =
    let s = c.args.s.now in
    past s 1 (past-1 (at-Else-nodes-gt-MAX_NODES c).Else-s-lt3) (few-nodes s _ c.number-nodes.ensures c.if-nodes-gt-MAX_NODES.false)

past-3 : (c : Else-edges-gt-MAX_EDGES) → Past 3 c.args.s.now
past-3 c =
    let s = c.args.s.now in
    past s 2 (past-2 (at-Else-edges-gt-MAX_EDGES c).Else-nodes-gt-MAX_NODES) (few-edges s _ c.number-edges.ensures c.if-edges-gt-MAX_EDGES.false)

-- the counts and the bits that are used, as the code has them
sizes : (c : After-used_bits-used)
    → (c.number-nodes.result ≡ node_count c.args.s.now)
    × (c.number-edges.result ≡ edge_count c.args.s.now)
    × (c.used_bits-used.result ≡ used_bits c.number-nodes.result c.number-edges.result)
sizes c = (c.number-nodes.ensures, c.number-edges.ensures, c.used_bits-used.ensures)

past-4 : (c : Else-s-used) → Past 4 c.args.s.now
past-4 c =
    let s = c.args.s.now in
    let z = sizes (at-Else-s-used c).After-used_bits-used in
    past s 3 (past-3 (at-Else-s-used c).Else-edges-gt-MAX_EDGES) (right-length s _ _ _ z.0 z.1 z.2 c.if-s-used.false)

padded : (c : After-number) → padding_bit c.args.s.now ≡ not (eqb c.number.result 0)
padded c =
    let z = sizes (at-After-number c).After-used_bits-used in
    padding c.args.s.now _ _ _ z.0 z.1 z.2 _ c.number.ensures

past-5 : (c : Else-number-ne0) → Past 5 c.args.s.now
past-5 c =
    past c.args.s.now 4 (past-4 (at-Else-number-ne0 c).Else-s-used) (padded (at-Else-number-ne0 c).After-number ∙ ap not (eq-eqb _ 0 c.if-number-ne0.false))

known : (c : After-has_unknown_node) → unknown_node c.args.s.now ≡ c.has_unknown_node.result
known c =
    let z = sizes (at-After-has_unknown_node c).After-used_bits-used in
    unknown c.args.s.now _ _ _ z.0 z.1 z.2 _ c.has_unknown_node.ensures

past-6 : (c : Else-has_unknown_node) → Past 6 c.args.s.now
past-6 c = past c.args.s.now 5 (past-5 (at-Else-has_unknown_node c).Else-number-ne0) (known (at-Else-has_unknown_node c).After-has_unknown_node ∙ c.if-has_unknown_node.false)

pub returns-then-s-lt3 : goal.returns-then-s-lt3
returns-then-s-lt3 a =
    a.refuse.ensures
    ∙ Refuses a.args.file a.args.s.now 0 (below_none _) (lt-ltb _ 3 a.if-s-lt3.true)

pub returns-then-nodes-gt-MAX_NODES : goal.returns-then-nodes-gt-MAX_NODES
returns-then-nodes-gt-MAX_NODES a =
    a.refuse-then-nodes-gt-MAX_NODES.ensures
    ∙ Refuses a.args.file a.args.s.now 1 (past-1 (goal.at.returns-then-nodes-gt-MAX_NODES a).Else-s-lt3) (many-nodes a.args.s.now _ a.number-nodes.ensures a.if-nodes-gt-MAX_NODES.true)

pub returns-then-edges-gt-MAX_EDGES : goal.returns-then-edges-gt-MAX_EDGES
returns-then-edges-gt-MAX_EDGES a =
    a.refuse-then-edges-gt-MAX_EDGES.ensures
    ∙ Refuses a.args.file a.args.s.now 2 (past-2 (goal.at.returns-then-edges-gt-MAX_EDGES a).Else-nodes-gt-MAX_NODES) (many-edges a.args.s.now _ a.number-edges.ensures a.if-edges-gt-MAX_EDGES.true)

pub returns-then-s-used : goal.returns-then-s-used
returns-then-s-used a =
    let z = sizes (goal.at.returns-then-s-used a).After-used_bits-used in
    a.refuse-then-s-used.ensures
    ∙ Refuses a.args.file a.args.s.now 3 (past-3 (goal.at.returns-then-s-used a).Else-edges-gt-MAX_EDGES) (wrong-length a.args.s.now _ _ _ z.0 z.1 z.2 a.if-s-used.true)

pub returns-then-number-ne0 : goal.returns-then-number-ne0
returns-then-number-ne0 a =
    a.refuse-then-number-ne0.ensures
    ∙ Refuses a.args.file a.args.s.now 4 (past-4 (goal.at.returns-then-number-ne0 a).Else-s-used) (padded (goal.at.returns-then-number-ne0 a).After-number ∙ ap not (ne_eqb _ 0 a.if-number-ne0.true))

pub returns-then-has_unknown_node : goal.returns-then-has_unknown_node
returns-then-has_unknown_node a =
    a.refuse-then-has_unknown_node.ensures
    ∙ Refuses a.args.file a.args.s.now 5 (past-5 (goal.at.returns-then-has_unknown_node a).Else-number-ne0) (known (goal.at.returns-then-has_unknown_node a).After-has_unknown_node ∙ a.if-has_unknown_node.true)

pub returns : goal.returns
returns c =
    let p = past-6 (goal.at.returns c).Else-has_unknown_node in
    let z = sizes (goal.at.returns c).After-used_bits-used in
    summary-of-graph c.args.s.now _ _ _ z.0 z.1 z.2 _ c.number-kind.ensures
    ∙ sym (ap summary (accepts c.args.file c.args.s.now (p 0 (lit< tt)) (p 1 (lit< tt)) (p 2 (lit< tt)) (p 3 (lit< tt)) (p 4 (lit< tt)) (p 5 (lit< tt))))
