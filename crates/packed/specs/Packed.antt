-- The packed graph, field by field (document 01, "Packed graph"). Each field of a byte string is what stands at its place,
-- whatever the string; `Refusals` says which strings are files.
use Rattle.std.specs.Prelude.{ℕ, ◌+◌, ◌*◌, ◌/◌, List, map, eqb}
use Rattle.basics.specs.Lists.{from}
use Rattle.bits.specs.Bits.{field}
use Rattle.packed.specs.Graph.{Edge, Graph}

-- kind 1 bit, node count N 8 bits, edge count E 11 bits
abbrev pub kind : List ℕ → ℕ
kind s = field s 0 1

abbrev pub node_count : List ℕ → ℕ
node_count s = field s 1 8

abbrev pub edge_count : List ℕ → ℕ
edge_count s = field s 9 11

-- N node labels of 12 bits
abbrev pub label_at : List ℕ → ℕ → ℕ
label_at s i = field s (20 + 12 * i) 12

-- E edges of source 7, target 7, label 6 bits
abbrev pub edge_offset : ℕ → ℕ → ℕ
edge_offset n j = 20 + 12 * n + 20 * j

abbrev pub edge_from : List ℕ → ℕ → Edge
edge_from s o = record { source = field s o 7; target = field s (o + 7) 7; label = field s (o + 14) 6 }

abbrev pub edge_at : List ℕ → ℕ → Edge
edge_at s j = edge_from s (edge_offset (node_count s) j)

-- then zero bits to the byte's end: the bits before them, and the bytes that these take
abbrev pub used_bits : ℕ → ℕ → ℕ
used_bits n e = 20 + 12 * n + 20 * e

abbrev pub file_length : ℕ → ℕ → ℕ
file_length n e = (used_bits n e + 7) / 8

unfoldable pub graph_of : List ℕ → Graph
graph_of s =
    record {
      directed = eqb (kind s) 1;
      labels = map (label_at s) (from 0 (node_count s));
      edges = map (edge_at s) (from 0 (edge_count s));
    }
