-- Under Greater a placement implies that the counts agree: along an injection that never lowers the number of edges between two
-- nodes, the sums over all nodes and over all pairs of nodes do not fall; these are the node count and, once or twice, the edge count.
use Prim.Native.Nat.{ℕ, zero, suc, ◌≤◌, ◌<◌}
use mathlib.Core.Bool.{Bool, true, false}
use mathlib.Core.List.{List}
use mathlib.Core.Path.{◌≡◌}
use native.Mathlib.Omega.{arith}
use lib.ListN.{length}
use borrow.Author.Tests.{le-leb}
use Rattle.basics.specs.Lists.{count}
use Rattle.basics.proofs.Tests.{and_intro}
use Rattle.packed.specs.Graph.{Edge, nodes}
use Rattle.graph.specs.Walk.{joins}
use Rattle.graph.specs.Within.{Within}
use Rattle.placements.specs.Claims.{CountsImplied}
use Rattle.placements.proofs.Sums.{sum, sum-none, sum-suc, Into, Apart, sum-into}
use Rattle.placements.proofs.Equal.{pairs, loops, directed-total, undirected-total}
use Rattle.placements.proofs.Kept.{between-least}

ones : (n : ℕ) → sum n (λ x. 1) ≡ n
ones zero = sum-none (λ x. 1)
ones (suc n) = omega (arith, sum-suc n (λ x. 1), ones n)

no-more-nodes : (m n : ℕ) (φ : ℕ → ℕ) → Into m n φ → Apart m φ → m ≤ n
no-more-nodes m n φ into apart = omega (arith, ones m, ones n, sum-into m n φ (λ x. 1) (λ x. 1) into apart (λ x l. omega arith))

module _ (directed : Bool) (m n : ℕ) (φ : ℕ → ℕ) (es fs : List Edge) (into : Into m n φ) (apart : Apart m φ)
    (least : (x y : ℕ) → x < m → y < m → count (joins directed x y) es ≤ count (joins directed (φ x) (φ y)) fs) where
  pairs-least : pairs directed m es ≤ pairs directed n fs
  pairs-least =
      sum-into m n φ (λ x. sum n (λ y. count (joins directed x y) fs)) (λ x. sum m (λ y. count (joins directed x y) es)) into apart
      (λ x l. sum-into m n φ (λ y. count (joins directed (φ x) y) fs) (λ y. count (joins directed x y) es) into apart (λ y k. least x y l k))

  loops-least : loops directed m es ≤ loops directed n fs
  loops-least =
      sum-into m n φ (λ x. count (joins directed x x) fs) (λ x. count (joins directed x x) es) into apart (λ x l. least x x l l)

no-more-edges : (directed : Bool) (m n : ℕ) (es fs : List Edge) → Within m es → Within n fs
    → pairs directed m es ≤ pairs directed n fs → loops directed m es ≤ loops directed n fs → length es ≤ length fs
no-more-edges true m n es fs i j p l = omega (arith, p, directed-total m es i, directed-total n fs j)
no-more-edges false m n es fs i j p l = omega (arith, p, l, undirected-total m es i, undirected-total n fs j)

pub counts_implied : CountsImplied
counts_implied s g₀ g₁ φ greater files p =
    let least = rw files.same_kind at (between-least s g₀ g₁ φ p files) in
    let edges = no-more-edges g₀.directed (nodes g₁) (nodes g₀) g₁.edges g₀.edges files.accepted₁.edges_within files.accepted₀.edges_within
    (pairs-least g₀.directed (nodes g₁) (nodes g₀) φ g₁.edges g₀.edges p.within p.apart least)
    (loops-least g₀.directed (nodes g₁) (nodes g₀) φ g₁.edges g₀.edges p.within p.apart least) in
    rw greater (and_intro (le-leb (nodes g₁) (nodes g₀) (no-more-nodes (nodes g₁) (nodes g₀) φ p.within p.apart)) (le-leb (length g₁.edges) (length g₀.edges) edges))
