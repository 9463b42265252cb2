-- The claim that a graph is packed in one way only: two files that are accepted with the same graph are the same bytes.
use Rattle.std.specs.Prelude.{ℕ, ◌<◌, List, ◌≡◌, get_or}
use Rattle.packed.specs.Graph.{Graph}
use Rattle.packed.specs.Refusals.{graph, reading}

abbrev pub Bytes : List ℕ → Type 0
Bytes s = (i : ℕ) → get_or s i 0 < 256

abbrev pub GraphDeterminesBytes : Type 0
GraphDeterminesBytes =
    (s t : List ℕ) (f f' : ℕ) (g : Graph) → Bytes s → Bytes t → reading f s ≡ graph g → reading f' t ≡ graph g → s ≡ t
