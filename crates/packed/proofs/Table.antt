-- The refusal table holds: each line's test decides what the line says, and the first test that holds gives the refusal.
use Prim.Native.Nat.{ℕ, zero, suc, ◌-◌, ◌*◌, ◌≤◌}
use mathlib.Core.Bool.{Bool, false}
use mathlib.Core.List.{List, [], ◌∷◌}
use mathlib.Core.Logic.{◌⊎◌}
use mathlib.Core.Path.{refl}
use native.Mathlib.Omega.{arith}
use lib.Dec.{eqb, ltb}
use lib.ListN.{length, get_or}
use Rattle.basics.proofs.Tests.{never}
use Rattle.basics.proofs.Decides.{Decides, decides-equal, decides-less, decides-not-less, decides-false, decides_not, decides-not-both, decides-any}
use Rattle.bits.specs.Bits.{bit_at}
use Rattle.packed.specs.Graph.{Edge}
use Rattle.packed.specs.Packed.{node_count, edge_count, edge_at, used_bits, file_length, graph_of}
use Rattle.packed.specs.Refusals.{padding_bit, unknown_node, names_unknown}
use Rattle.packed.specs.Table.{PaddingBitIsOne, EdgeNamesNodeNotBelow, lines, Says, GivenExactly, AcceptedExactly}
use Rattle.packed.proofs.First.{test, file_tests, reading-graph, reading-refusal, reading-numbers}

-- each test of a list decides the proposition at its place in another
infixr 5 ◌then◌
data Decided : List Bool → List (Type 0) → Type 1 where
  done : Decided [] []
  ◌then◌ : {b : Bool} {P : Type 0} {bs : List Bool} {Ps : List (Type 0)} → Decides b P → Decided bs Ps → Decided (b ∷ bs) (P ∷ Ps)

decided-at : {bs : List Bool} {Ps : List (Type 0)} → Decided bs Ps → (i : ℕ) → Decides (test bs i) (get_or Ps i ⊥)
decided-at done i = (λ e. never false e refl, λ h. absurd h)
decided-at (d then ds) zero = d
decided-at (d then ds) (suc i) = decided-at ds i

padding-bit : (s : List ℕ) → Decides (padding_bit s) (PaddingBitIsOne s)
padding-bit s =
    let used = used_bits (node_count s) (edge_count s) in
    let d = decides-any (λ o. eqb (bit_at s o) 1) (λ o. decides-equal (bit_at s o) 1) (8 * length s - used) used in (
      λ e. let w = d.0 e in record { offset = w.0; behind_the_edges = w.1; within_the_file = omega (arith, w.2); is_one = w.3 },
      λ h. d.1 (h.offset, h.behind_the_edges, omega arith, h.is_one),
    )

names-one : (n : ℕ) (e : Edge) → Decides (names_unknown n e) ((n ≤ e.source) ⊎ (n ≤ e.target))
names-one n e =
    decides-not-both (ltb e.source n) (ltb e.target n) (decides-not-less e.source n) (decides-not-less e.target n)

unknown-node : (s : List ℕ) → Decides (unknown_node s) (EdgeNamesNodeNotBelow s)
unknown-node s =
    let n = node_count s in
    let d = decides-any (λ j. names_unknown n (edge_at s j)) (λ j. names-one n (edge_at s j)) (edge_count s) 0 in (
      λ e. let w = d.0 e in record { edge = w.0; within_the_file = omega (arith, w.2); not_below = w.3 },
      λ h. d.1 (h.edge, omega arith, omega arith, h.not_below),
    )

lines-decided : (s : List ℕ) → Decided (file_tests s) (lines s)
lines-decided s =
    decides-less (length s) 3
    then decides-less 128 (node_count s)
    then decides-less 1024 (edge_count s)
    then decides_not (decides-equal (length s) (file_length (node_count s) (edge_count s)))
    then padding-bit s
    then unknown-node s
    then done

says-decided : (s : List ℕ) (i : ℕ) → Decides (test (file_tests s) i) (Says (suc i) s)
says-decided s i = decided-at (lines-decided s) i

pub given-exactly : (file : ℕ) (s : List ℕ) (k : ℕ) → GivenExactly k file s
given-exactly file s zero = (λ e. absurd (omega (arith, reading-numbers file s _ e)), λ h. absurd h.0)
given-exactly file s (suc i) =
    let given = reading-refusal file s i in
    let says = says-decided s in (
      λ e. ((says i).0 (given.0 e).0, elim [ zero ↦ λ l h. h | suc j ↦ λ l. (decides-false (says j)).0 ((given.0 e).1 j (omega arith)) ]),
      λ h. given.1 ((says i).1 h.0, λ j l. (decides-false (says j)).1 (h.1 (suc j) (omega arith))),
    )

pub accepted-exactly : (file : ℕ) (s : List ℕ) → AcceptedExactly file s
accepted-exactly file s =
    let given = reading-graph file s (graph_of s) in
    let says = says-decided s in (
      λ e. elim [ zero ↦ λ h. h | suc j ↦ (decides-false (says j)).0 ((given.0 e).0 j) ],
      λ h. given.1 (λ j. (decides-false (says j)).1 (h (suc j)), refl),
    )
