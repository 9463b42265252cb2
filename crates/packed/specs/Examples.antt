-- Document 01's files, read by the definitions: the worked listing's two graphs, the empty graph, and a file at each refusal.
use Rattle.std.specs.Prelude.{ℕ, false, List, [], ◌∷◌, ◌≡◌, refl}
use Rattle.basics.specs.Lists.{from, any}
use Rattle.bits.specs.Bits.{field}
use Rattle.packed.specs.Graph.{Edge}
use Rattle.packed.specs.Packed.{graph_of}
use Rattle.packed.specs.Refusals.{first, file_lines, reading, graph, refusal}

abbrev pub edge : ℕ → ℕ → Edge
edge a b = record { source = a; target = b; label = 0 }

-- undirected 0-1, 1-2
abbrev pub path_of_three : List ℕ
path_of_three = 0x01 ∷ 0x80 ∷ 0x20 ∷ 0 ∷ 0 ∷ 0 ∷ 0 ∷ 0 ∷ 0x04 ∷ 0 ∷ 0x20 ∷ 0x80 ∷ []

path-of-three : reading 0 path_of_three ≡ graph (record { directed = false; labels = 0 ∷ 0 ∷ 0 ∷ []; edges = edge 0 1 ∷ edge 1 2 ∷ [] })
unfolding reading file_lines first graph_of from any field
path-of-three = refl

-- undirected 0-1
abbrev pub one_edge : List ℕ
one_edge = 0x01 ∷ 0x00 ∷ 0x10 ∷ 0 ∷ 0 ∷ 0 ∷ 0 ∷ 0x40 ∷ []

one-edge : reading 1 one_edge ≡ graph (record { directed = false; labels = 0 ∷ 0 ∷ []; edges = edge 0 1 ∷ [] })
unfolding reading file_lines first graph_of from any field
one-edge = refl

-- 3 when empty
empty : reading 0 (0 ∷ 0 ∷ 0 ∷ []) ≡ graph (record { directed = false; labels = []; edges = [] })
unfolding reading file_lines first graph_of from any field
empty = refl

abbrev Refuses : List ℕ → ℕ → Type 0
Refuses s k = reading 0 s ≡ refusal (record { number = k; file = 0 })

two_bytes : Refuses (0 ∷ 0 ∷ []) 1
unfolding reading file_lines first graph_of from any field
two_bytes = refl

-- N 129
nodes-129 : Refuses (0x40 ∷ 0x80 ∷ 0 ∷ []) 2
unfolding reading file_lines first graph_of from any field
nodes-129 = refl

-- E 1,025
edges-1025 : Refuses (0 ∷ 0x40 ∷ 0x10 ∷ []) 3
unfolding reading file_lines first graph_of from any field
edges-1025 = refl

one-byte-over : Refuses (0 ∷ 0 ∷ 0 ∷ 0 ∷ []) 4
unfolding reading file_lines first graph_of from any field
one-byte-over = refl

padding : Refuses (0 ∷ 0 ∷ 1 ∷ []) 5
unfolding reading file_lines first graph_of from any field
padding = refl

-- an edge 0-1 in a graph of one node
names-no-node : Refuses (0x00 ∷ 0x80 ∷ 0x10 ∷ 0 ∷ 0 ∷ 0x04 ∷ 0 ∷ []) 6
unfolding reading file_lines first graph_of from any field
names-no-node = refl
