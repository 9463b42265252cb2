-- A graph gives every field of its file, the fields stand side by side up to the padding, and the padding is zero:
-- so the whole file is one equal field, and each byte is a part of it.
use Prim.Native.Nat.{ℕ, ◌+◌, ◌-◌, ◌*◌, ◌<◌}
use mathlib.Core.List.{List}
use mathlib.Core.Path.{◌≡◌, sym, ◌∙◌, ap}
use native.Mathlib.Nat.{zero-add}
use native.Mathlib.Omega.{arith}
use lib.Dec.{eqb}
use lib.ListN.{length}
use lib.Seq.{ext_get_or}
use borrow.Author.Tests.{eqb-true, eqb-false}
use Rattle.basics.proofs.Tests.{case}
use Rattle.basics.proofs.Laws.{map-from}
use Rattle.bits.specs.Bits.{field}
use Rattle.bits.proofs.Laws.{field_below, field-part, field-beside, fields-beside, byte-field}
use Rattle.packed.specs.Graph.{Edge, Graph}
use Rattle.packed.specs.Packed.{kind, node_count, edge_count, label_at, edge_from, edge_at, edge_offset, used_bits, graph_of}
use Rattle.packed.specs.Determined.{GraphDeterminesBytes}
use Rattle.packed.proofs.Accepted.{accepted, graph-of}

record SameFields (s t : List ℕ) : Type 0 where
  kinds : kind s ≡ kind t
  node_counts : node_count s ≡ node_count t
  edge_counts : edge_count s ≡ edge_count t
  labels : (i : ℕ) → i < node_count s → label_at s i ≡ label_at t i
  edges : (j : ℕ) → j < edge_count s → edge_at s j ≡ edge_from t (edge_offset (node_count s) j)

same_flag : (x y : ℕ) → x < 2 → y < 2 → eqb x 1 ≡ eqb y 1 → x ≡ y
same_flag x y h l e =
    case (eqb x 1)
    (λ t. omega (arith, eqb-true x 1 t, eqb-true y 1 (sym e ∙ t)))
    (λ t. let a = eqb-false x 1 t in let b = eqb-false y 1 (sym e ∙ t) in omega arith)

same-fields : (s t : List ℕ) → graph_of s ≡ graph_of t → SameFields s t
unfolding graph_of
same-fields s t e =
    let of-labels = map-from (label_at s) (label_at t) (node_count s) (node_count t) 0 (ap (λ (g : Graph). g.labels) e) in
    let of-edges = map-from (edge_at s) (edge_at t) (edge_count s) (edge_count t) 0 (ap (λ (g : Graph). g.edges) e) in
    record {
      kinds = same_flag (kind s) (kind t) (field_below s 0 1) (field_below t 0 1) (ap (λ (g : Graph). g.directed) e);
      node_counts = of-labels.0;
      edge_counts = of-edges.0;
      labels = λ i l. of-labels.1 i (omega arith) (omega arith);
      edges = λ j l. of-edges.1 j (omega arith) (omega arith) ∙ rw of-labels.0;
    }

same-edge : (s t : List ℕ) (o : ℕ) → edge_from s o ≡ edge_from t o → field s o 20 ≡ field t o 20
same-edge s t o e =
    field-beside s t o 14 6
    (field-beside s t o 7 7 (ap (λ (x : Edge). x.source) e) (ap (λ (x : Edge). x.target) e))
    (ap (λ (x : Edge). x.label) e)

same_bits : (s t : List ℕ) → SameFields s t → field s 0 (used_bits (node_count s) (edge_count s)) ≡ field t 0 (used_bits (node_count s) (edge_count s))
same_bits s t same =
    let n = node_count s in
    let header = field-beside s t 0 9 11 (field-beside s t 0 1 8 same.kinds same.node_counts) same.edge_counts in
    let labels = field-beside s t 0 20 (12 * n) header (fields-beside s t 20 12 n same.labels) in
    let edges = fields-beside s t (20 + 12 * n) 20 (edge_count s) (λ j l. same-edge s t (edge_offset n j) (same.edges j l)) in
    field-beside s t 0 (20 + 12 * n) (20 * edge_count s) labels (rw (zero-add (20 + 12 * n)) edges)

pub graph-determines-bytes : GraphDeterminesBytes
graph-determines-bytes s t f f' g bytes-s bytes-t read-s read-t =
    let holds-s = accepted f s g read-s in
    let holds-t = accepted f' t g read-t in
    let same = same-fields s t (sym (graph-of f s g read-s) ∙ graph-of f' t g read-t) in
    let used = used_bits (node_count s) (edge_count s) in
    let long : length s ≡ length t = holds-s.long ∙ rw (same.node_counts, same.edge_counts) (sym holds-t.long) in
    let rest : 8 * length s ≡ used + (8 * length s - used) = omega (arith, holds-s.long) in
    let padding : field s (0 + used) (8 * length s - used) ≡ field t (0 + used) (8 * length s - used) =
    rw (zero-add used) (holds-s.padded ∙ sym (rw (same.node_counts, same.edge_counts, long) holds-t.padded)) in
    let whole : field s 0 (8 * length s) ≡ field t 0 (8 * length s) =
    rw rest (field-beside s t 0 used (8 * length s - used) (same_bits s t same) padding) in
    ext_get_or 0 s t long
    (λ i l. let part = rw (zero-add (8 * i)) at (field-part s t 0 (8 * length s) (8 * i) 8 whole (omega arith)) in
    sym (byte-field s i (bytes-s i)) ∙ part ∙ byte-field t i (bytes-t i))
