-- The refusal table (document 01, "The five outer calls and what they turn away"): its lines for a file,
-- and "the first that applies".
use Rattle.std.specs.Prelude.{ℕ, ◌-◌, ◌*◌, Bool, cond, ◌&&◌, not, List, [], ◌∷◌, eqb, ltb, length}
use Rattle.std.proofs.Math.Option.{Option, none, some}
use Rattle.basics.specs.Lists.{from, any}
use Rattle.bits.specs.Bits.{bit_at}
use Rattle.packed.specs.Graph.{Edge, Graph}
use Rattle.packed.specs.Packed.{node_count, edge_count, edge_at, used_bits, file_length, graph_of}

-- a refusal carries its number and the file's number
pub record Refused : Type 0 where
  pub number : ℕ
  pub file : ℕ

-- a line of the table: whether it applies, and the refusal that it gives
pub record Line : Type 0 where
  pub applies : Bool
  pub gives : Refused

abbrev pub line : ℕ → ℕ → Bool → Line
line number file applies = record { applies = applies; gives = record { number = number; file = file } }

-- the first that applies, in the table's order
unfoldable pub first : List Line → Option Refused
first [] = none
first (l ∷ ls) = cond l.applies (some l.gives) (first ls)

-- 1: a file has fewer than 3 bytes
abbrev pub too_short : List ℕ → Bool
too_short s = ltb (length s) 3

-- 2: N > 128
abbrev pub too_many_nodes : List ℕ → Bool
too_many_nodes s = ltb 128 (node_count s)

-- 3: E > 1,024
abbrev pub too_many_edges : List ℕ → Bool
too_many_edges s = ltb 1024 (edge_count s)

-- 4: length is not the length above
abbrev pub wrong_length : List ℕ → Bool
wrong_length s = not (eqb (length s) (file_length (node_count s) (edge_count s)))

-- the offsets of the bits from one offset up to another
abbrev pub offsets : ℕ → ℕ → List ℕ
offsets start end = from start (end - start)

-- 5: a padding bit is 1
abbrev pub padding_bit : List ℕ → Bool
padding_bit s = any (λ o. eqb (bit_at s o) 1) (offsets (used_bits (node_count s) (edge_count s)) (8 * length s))

-- 6: an edge names a node not below N
abbrev pub names_unknown : ℕ → Edge → Bool
names_unknown n e = not (ltb e.source n && ltb e.target n)

abbrev pub unknown_node : List ℕ → Bool
unknown_node s = any (λ j. names_unknown (node_count s) (edge_at s j)) (from 0 (edge_count s))

-- the table's lines 1 to 6 for a file
unfoldable pub file_lines : ℕ → List ℕ → List Line
file_lines file s =
    line 1 file (too_short s)
    ∷ line 2 file (too_many_nodes s)
    ∷ line 3 file (too_many_edges s)
    ∷ line 4 file (wrong_length s)
    ∷ line 5 file (padding_bit s)
    ∷ line 6 file (unknown_node s)
    ∷ []

-- a byte string is a graph or a refusal
pub data Reading : Type 0 where
  graph : Graph → Reading
  refusal : Refused → Reading

abbrev pub or_graph : Option Refused → Graph → Reading
or_graph none g = graph g
or_graph (some r) g = refusal r

unfoldable pub reading : ℕ → List ℕ → Reading
unfolding file_lines first graph_of
reading file s = or_graph (first (file_lines file s)) (graph_of s)
