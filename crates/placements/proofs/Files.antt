-- What files and settings that are not refused ensure: edges name nodes, labels have 6 bits, a limit is at most its maximum.
use Prim.Native.Nat.{ℕ, zero, suc, ◌+◌, ◌<◌}
use mathlib.Core.Bool.{Bool, true, false, ◌||◌, not}
use mathlib.Core.List.{List, map}
use mathlib.Core.Option.{none, some}
use mathlib.Core.Path.{◌≡◌, refl}
use native.Mathlib.Omega.{arith}
use lib.Dec.{eqb, ltb}
use lib.ListN.{length}
use borrow.Author.Tests.{ltb-false}
use Rattle.basics.specs.Lists.{from}
use Rattle.basics.proofs.Tests.{case, none-not-some, never}
use Rattle.basics.proofs.Laws.{from-none, from_suc}
use Rattle.bits.proofs.Laws.{field_below}
use Rattle.packed.specs.Graph.{Edge, Graph}
use Rattle.packed.specs.Packed.{node_count, edge_count, edge_offset, edge_at, graph_of}
use Rattle.packed.specs.Refusals.{graph, reading}
use Rattle.settings.specs.Settings.{ordering, limited, spare, limit_field, settings_of}
use Rattle.packed.proofs.Accepted.{accepted, graph-of}
use Rattle.graph.proofs.Files.{graph-within}
use Rattle.placements.specs.Claims.{LabelsBelow, AcceptedFile, FilesEnsure, SettingsEnsure}

labels-map : (n : ℕ) (f : ℕ → Edge) (k i : ℕ) → ((j : ℕ) → (f j).label < n) → LabelsBelow n (map f (from i k))
labels-map n f zero i h = rw (from-none i) tt
labels-map n f (suc k) i h = rw (from_suc i k) (h i, labels-map n f k (suc i) h)

graph-labels : (bytes : List ℕ) → LabelsBelow 64 (graph_of bytes).edges
unfolding graph_of
graph-labels bytes =
    labels-map 64 (edge_at bytes) (edge_count bytes) 0 (λ j. field_below bytes (edge_offset (node_count bytes) j + 14) 6)

file_accepted : (file : ℕ) (bytes : List ℕ) (g : Graph) → reading file bytes ≡ graph g → AcceptedFile g
file_accepted file bytes g e =
    rw (graph-of file bytes g e) (record { edges_within = graph-within bytes (accepted file bytes g e); labels_below = graph-labels bytes })

pub files-ensure : FilesEnsure
files-ensure bytes₀ bytes₁ g₀ g₁ e f k =
    record { accepted₀ = file_accepted 0 bytes₀ g₀ e; accepted₁ = file_accepted 1 bytes₁ g₁ f; same_kind = k }

or-none : (a b : Bool) → (a || b) ≡ false → (a ≡ false) × (b ≡ false)
or-none true b e = never true refl e
or-none false b e = (refl, e)

pub settings-ensure : SettingsEnsure
unfolding settings_of
settings-ensure bytes limit e h =
    let tests = (or-none (not (eqb (length bytes) 5)) _ e).1 in
    let rest = (or-none (ltb 1 (ordering bytes)) _ tests).1 in
    let last = (or-none (spare bytes) _ rest).1 in
    let most = ltb-false 4294967294 (limit_field bytes) (or-none (ltb 4294967294 (limit_field bytes)) _ last).0 in
    case (limited bytes)
    (λ l. let same : some (limit_field bytes) ≡ some limit = rw l at h in let z : limit_field bytes ≡ limit = cc in omega arith)
    (λ l. let same : none ≡ some limit = rw l at h in none-not-some same)
