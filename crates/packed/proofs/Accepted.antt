-- What an accepted file promises: its counts, its length, its zero padding, its edges' ends, and that its graph is the one read from it.
use Prim.Native.Nat.{ℕ, ◌-◌, ◌*◌, ◌≤◌, ◌<◌}
use mathlib.Core.Bool.{Bool, false, ◌&&◌}
use mathlib.Core.List.{List}
use mathlib.Core.Option.{some}
use mathlib.Core.Path.{◌≡◌, refl, sym, ◌∙◌, ap}
use native.Mathlib.Omega.{arith}
use lib.Dec.{ltb, eqb}
use lib.ListN.{length, get_or, length-map}
use borrow.Author.Tests.{ltb-true, ltb-false, eqb-true, not-false}
use Rattle.basics.specs.Lists.{from}
use Rattle.basics.proofs.Laws.{from-length, from_at, map_at}
use Rattle.basics.proofs.Tests.{and_left, and_right}
use Rattle.basics.proofs.Decides.{none_passes}
use Rattle.bits.specs.Bits.{field}
use Rattle.bits.proofs.Laws.{field-zero}
use Rattle.packed.specs.Graph.{Edge, Graph, nodes}
use Rattle.packed.specs.Packed.{kind, node_count, edge_count, label_at, edge_at, used_bits, file_length, graph_of}
use Rattle.packed.specs.Refusals.{Refused, first, file_lines, too_short, too_many_nodes, too_many_edges, wrong_length, padding_bit, names_unknown, unknown_node, Reading, graph, refusal, reading}
use Rattle.packed.specs.Paper.{counts, refused, summary}
use Rattle.packed.proofs.First.{test, file_tests, reading-first, reading-graph, a-line}

pub graph-of : (file : ℕ) (s : List ℕ) (g : Graph) → reading file s ≡ graph g → g ≡ graph_of s
graph-of file s g e = sym ((reading-graph file s g).0 e).1

pub record Accepted (s : List ℕ) : Type 0 where
  pub nodes_most : node_count s ≤ 128
  pub edges_most : edge_count s ≤ 1024
  pub long : length s ≡ file_length (node_count s) (edge_count s)
  pub padded : field s (used_bits (node_count s) (edge_count s)) (8 * length s - used_bits (node_count s) (edge_count s)) ≡ 0
  pub ends_below : (j : ℕ) → j < edge_count s → ((edge_at s j).source < node_count s) × ((edge_at s j).target < node_count s)
  pub is_graph : (file : ℕ) → reading file s ≡ graph (graph_of s)

names-both : (n : ℕ) (e : Edge) → names_unknown n e ≡ false → (e.source < n) × (e.target < n)
names-both n e h =
    let a = ltb e.source n in
    let b = ltb e.target n in
    let both = not-false (a && b) h in
    (ltb-true _ n (and_left a b both), ltb-true _ n (and_right a b both))

pub accepted : (file : ℕ) (s : List ℕ) (g : Graph) → reading file s ≡ graph g → Accepted s
accepted file s g e =
    let no : ((i : ℕ) → test (file_tests s) i ≡ false) = ((reading-graph file s g).0 e).0 in
    record {
      nodes_most = ltb-false 128 (node_count s) (no 1);
      edges_most = ltb-false 1024 (edge_count s) (no 2);
      long = eqb-true (length s) _ (not-false _ (no 3));
      padded = eqb-true _ 0 (not-false _ (sym (field-zero s _ _) ∙ no 4));
      ends_below = λ j l.
          names-both _ (edge_at s j) (none_passes (λ j. names_unknown (node_count s) (edge_at s j)) _ 0 (no 5) j (omega arith) (omega arith));
      is_graph = λ file. (reading-graph file s (graph_of s)).1 (no, refl);
    }

-- and every file that no line turns away is accepted
pub accepts : (file : ℕ) (s : List ℕ) → too_short s ≡ false → too_many_nodes s ≡ false → too_many_edges s ≡ false → wrong_length s ≡ false
    → padding_bit s ≡ false → unknown_node s ≡ false → reading file s ≡ graph (graph_of s)
unfolding first
accepts file s e₁ e₂ e₃ e₄ e₅ e₆ = rw (reading-first, e₁, e₂, e₃, e₄, e₅, e₆)

-- what Read's answer of an accepted file says of it
pub record Counted (s : List ℕ) (directed : Bool) (nodes edges : ℕ) : Type 0 where
  pub file_accepted : Accepted s
  pub directed_is : directed ≡ eqb (kind s) 1
  pub nodes_are : nodes ≡ node_count s
  pub edges_are : edges ≡ edge_count s

pub nodes-of-graph : (s : List ℕ) → nodes (graph_of s) ≡ node_count s
unfolding graph_of
nodes-of-graph s = length-map (from 0 (node_count s)) (label_at s) ∙ from-length 0 (node_count s)

pub edges-of-graph : (s : List ℕ) → length (graph_of s).edges ≡ edge_count s
unfolding graph_of
edges-of-graph s = length-map (from 0 (edge_count s)) (edge_at s) ∙ from-length 0 (edge_count s)

pub label-of-graph : (s : List ℕ) (v : ℕ) → v < node_count s → get_or (graph_of s).labels v 0 ≡ label_at s v
unfolding graph_of
label-of-graph s v h =
    map_at (label_at s) (from 0 (node_count s)) v (rw (from-length 0 (node_count s)) h) ∙ ap (label_at s) (from_at (node_count s) v h)

pub graphs-of-one-kind : (s t : List ℕ) → kind s ≡ kind t → (graph_of t).directed ≡ (graph_of s).directed
unfolding graph_of
graphs-of-one-kind s t e = rw e

-- what holds of the counts that Read answered, and of its flag
module _ {s : List ℕ} {directed : Bool} {n e : ℕ} (counted : Counted s directed n e) where
  pub counted-nodes-most : n ≤ 128
  counted-nodes-most = omega (arith, counted.nodes_are, counted.file_accepted.nodes_most)

  pub counted-edges-most : e ≤ 1024
  counted-edges-most = omega (arith, counted.edges_are, counted.file_accepted.edges_most)

  pub counted-bits-most : used_bits n e ≤ 8 * length s
  counted-bits-most = omega (arith, counted.nodes_are, counted.edges_are, counted.file_accepted.long)

  pub counted-directed : directed ≡ (graph_of s).directed
  unfolding graph_of
  counted-directed = counted.directed_is

counts_same : (a : Bool) (b c : ℕ) (d : Bool) (e f : ℕ) → counts a b c ≡ counts d e f → (a ≡ d) × (b ≡ e) × (c ≡ f)
counts_same a b c d e f h = (cc, cc, cc)

pub counted : (file : ℕ) (s : List ℕ) (directed : Bool) (n e : ℕ) → counts directed n e ≡ summary (reading file s) → Counted s directed n e
unfolding graph_of
counted file s directed n e h = by-reading (reading file s) refl h
  where
    by-reading : (r : Reading) → reading file s ≡ r → counts directed n e ≡ summary r → Counted s directed n e
    by-reading (graph g) q h =
        let of = graph-of file s g q in
        let same = rw of at (counts_same directed n e g.directed (nodes g) (length g.edges) h) in
        record {
          file_accepted = accepted file s g q;
          directed_is = same.0;
          nodes_are = same.1 ∙ nodes-of-graph s;
          edges_are = same.2 ∙ edges-of-graph s;
        }
    by-reading (refusal r) q h = let z : ◌≡◌ {A = ℕ} 0 1 = cc in absurd (omega arith)

pub refused-line : (file : ℕ) (s : List ℕ) (r : Refused) → refused r ≡ summary (reading file s) → first (file_lines file s) ≡ some r
refused-line file s r h = by-reading (reading file s) refl h
  where
    by-reading : (q : Reading) → reading file s ≡ q → refused r ≡ summary q → first (file_lines file s) ≡ some r
    by-reading (graph g) e h = let z : ◌≡◌ {A = ℕ} 0 1 = cc in absurd (omega arith)
    by-reading (refusal q) e h = let same : q ≡ r = cc in rw same at (a-line file s q e)
