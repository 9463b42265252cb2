-- What the lines of the refusal table say of a file (document 01, "The five outer calls and what they turn away"), and the claims
-- that a refusal is given exactly when its line says so and no line before it does.
use Rattle.std.specs.Prelude.{ℕ, zero, suc, ◌*◌, ◌≤◌, ◌<◌, List, [], ◌∷◌, ◌↔◌, ◌⊎◌, ◌≡◌, length, get_or}
use Rattle.bits.specs.Bits.{bit_at}
use Rattle.packed.specs.Packed.{node_count, edge_count, edge_at, used_bits, file_length, graph_of}
use Rattle.packed.specs.Refusals.{graph, refusal, reading}

-- 1: a file has fewer than 3 bytes
abbrev pub FewerThanThreeBytes : List ℕ → Type 0
FewerThanThreeBytes s = length s < 3

-- 2: N > 128
abbrev pub MoreThan128Nodes : List ℕ → Type 0
MoreThan128Nodes s = 128 < node_count s

-- 3: E > 1,024
abbrev pub MoreThan1024Edges : List ℕ → Type 0
MoreThan1024Edges s = 1024 < edge_count s

-- 4: length is not the length above
abbrev pub NotTheLength : List ℕ → Type 0
NotTheLength s = length s ≡ file_length (node_count s) (edge_count s) → ⊥

-- 5: a padding bit is 1
pub record PaddingBitIsOne (s : List ℕ) : Type 0 where
  pub offset : ℕ
  pub behind_the_edges : used_bits (node_count s) (edge_count s) ≤ offset
  pub within_the_file : offset < 8 * length s
  pub is_one : bit_at s offset ≡ 1

-- 6: an edge names a node not below N
pub record EdgeNamesNodeNotBelow (s : List ℕ) : Type 0 where
  pub edge : ℕ
  pub within_the_file : edge < edge_count s
  pub not_below : (node_count s ≤ (edge_at s edge).source) ⊎ (node_count s ≤ (edge_at s edge).target)

-- the lines about a file, from 1 on
abbrev pub lines : List ℕ → List (Type 0)
lines s =
    FewerThanThreeBytes s
    ∷ MoreThan128Nodes s
    ∷ MoreThan1024Edges s
    ∷ NotTheLength s
    ∷ PaddingBitIsOne s
    ∷ EdgeNamesNodeNotBelow s
    ∷ []

-- line k says so of the file; a number without such a line says nothing
abbrev pub Says : ℕ → List ℕ → Type 0
Says zero s = ⊥
Says (suc i) s = get_or (lines s) i ⊥

abbrev pub NoneBefore : ℕ → List ℕ → Type 0
NoneBefore k s = (j : ℕ) → j < k → Says j s → ⊥

abbrev pub GivenExactly : ℕ → ℕ → List ℕ → Type 0
GivenExactly k file s = (reading file s ≡ refusal (record { number = k; file = file })) ↔ (Says k s × NoneBefore k s)

abbrev pub AcceptedExactly : ℕ → List ℕ → Type 0
AcceptedExactly file s = (reading file s ≡ graph (graph_of s)) ↔ ((k : ℕ) → Says k s → ⊥)
