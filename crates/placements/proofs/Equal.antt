-- Where the node counts are equal and the edge counts too, an injection that never lowers the number of edges between two nodes
-- keeps it. Directed, each edge is counted once over all pairs of nodes; undirected, once more where it is no self-loop.
use Prim.Native.Nat.{ℕ, ◌+◌, ◌*◌, ◌≤◌, ◌<◌}
use mathlib.Core.Bool.{Bool, true, false, cond}
use mathlib.Core.List.{List, [], ◌∷◌}
use mathlib.Core.Option.{Option, none, some}
use mathlib.Core.Path.{◌≡◌, refl, sym, ◌∙◌}
use native.Mathlib.Omega.{arith}
use lib.Dec.{eqb}
use lib.ListN.{length}
use Rattle.basics.specs.Lists.{count}
use Rattle.basics.proofs.Tests.{case, eqb_swap}
use Rattle.basics.proofs.Laws.{count-nil, count-cons}
use Rattle.packed.specs.Graph.{Edge}
use Rattle.graph.specs.Walk.{joins, leads}
use Rattle.graph.specs.Within.{Within}
use Rattle.graph.proofs.Walk.{Below, leads_to, joins-leads, leads-below}
use Rattle.rules.proofs.Laws.{is_some}
use Rattle.placements.proofs.Sums.{sum, sum-le, sum_same, sum-add, sum-zero, sum_one, sum-tight, Into, Apart, sum-into, sum-onto}

-- over all pairs of nodes, and over all nodes with themselves
abbrev pub pairs : Bool → ℕ → List Edge → ℕ
pairs directed n es = sum n (λ x. sum n (λ y. count (joins directed x y) es))

abbrev pub loops : Bool → ℕ → List Edge → ℕ
loops directed n es = sum n (λ x. count (joins directed x x) es)

abbrev edge_pairs : Bool → ℕ → Edge → ℕ
edge_pairs directed n e = sum n (λ x. sum n (λ y. cond (joins directed x y e) 1 0))

abbrev edge_loops : Bool → ℕ → Edge → ℕ
edge_loops directed n e = sum n (λ x. cond (joins directed x x e) 1 0)

one-node : (n u : ℕ) → u < n → sum n (λ x. cond (eqb u x) 1 0) ≡ 1
one-node n u h = sum_same n (λ x. cond (eqb u x) 1 0) (λ x. cond (eqb x u) 1 0) (λ x l. rw (eqb_swap u x)) ∙ sum_one n (λ x. 1) u h

leads-sum : (n : ℕ) (o : Option ℕ) → Below n o → sum n (λ y. cond (leads_to o y) 1 0) ≡ cond (is_some o) 1 0
leads-sum n none h = sum-zero n (λ y. 0) (λ i l. refl)
leads-sum n (some w) h = one-node n w h

edge-pairs : (directed : Bool) (n : ℕ) (e : Edge) → e.source < n → e.target < n
    → edge_pairs directed n e ≡ sum n (λ x. cond (is_some (leads directed x e)) 1 0)
edge-pairs directed n e s t =
    sum_same n (λ x. sum n (λ y. cond (joins directed x y e) 1 0)) (λ x. cond (is_some (leads directed x e)) 1 0)
    (λ x l.
    sum_same n (λ y. cond (joins directed x y e) 1 0) (λ y. cond (leads_to (leads directed x e) y) 1 0)
    (λ y k. rw (joins-leads directed x y e))
    ∙ leads-sum n (leads directed x e) (leads-below directed n x e s t))

directed-edge : (n : ℕ) (e : Edge) → e.source < n → e.target < n → edge_pairs true n e ≡ 1
unfolding leads
directed-edge n e s t =
    edge-pairs true n e s t
    ∙ sum_same n (λ x. cond (is_some (leads true x e)) 1 0) (λ x. cond (eqb e.source x) 1 0)
    (λ x l. case (eqb e.source x) (λ k. rw k) (λ k. rw k))
    ∙ one-node n e.source s

undirected-edge : (n : ℕ) (e : Edge) → e.source < n → e.target < n → edge_pairs false n e + edge_loops false n e ≡ 2
unfolding leads
undirected-edge n e s t =
    let ends = sum_same n (λ x. cond (is_some (leads false x e)) 1 0 + cond (joins false x x e) 1 0)
    (λ x. cond (eqb e.source x) 1 0 + cond (eqb e.target x) 1 0)
    (λ x l. case (eqb e.source x)
    (λ k. rw k (case (eqb e.target x) (λ m. rw m) (λ m. rw m)))
    (λ k. rw k (case (eqb e.target x) (λ m. rw m) (λ m. rw m)))) in
    omega (
      arith,
      edge-pairs false n e s t,
      sum-add n (λ x. cond (is_some (leads false x e)) 1 0) (λ x. cond (joins false x x e) 1 0),
      sum-add n (λ x. cond (eqb e.source x) 1 0) (λ x. cond (eqb e.target x) 1 0),
      one-node n e.source s,
      one-node n e.target t,
    )

module _ (directed : Bool) (n : ℕ) where
  pairs-nil : pairs directed n [] ≡ 0
  pairs-nil =
      sum-zero n (λ x. sum n (λ y. count (joins directed x y) []))
      (λ x l. sum-zero n (λ y. count (joins directed x y) []) (λ y k. count-nil (joins directed x y)))

  loops-nil : loops directed n [] ≡ 0
  loops-nil = sum-zero n (λ x. count (joins directed x x) []) (λ x l. count-nil (joins directed x x))

  pairs-cons : (e : Edge) (es : List Edge) → pairs directed n (e ∷ es) ≡ edge_pairs directed n e + pairs directed n es
  pairs-cons e es =
      sum_same n (λ x. sum n (λ y. count (joins directed x y) (e ∷ es)))
      (λ x. sum n (λ y. cond (joins directed x y e) 1 0) + sum n (λ y. count (joins directed x y) es))
      (λ x l.
      sum_same n (λ y. count (joins directed x y) (e ∷ es)) (λ y. cond (joins directed x y e) 1 0 + count (joins directed x y) es)
      (λ y k. count-cons (joins directed x y) e es)
      ∙ sum-add n (λ y. cond (joins directed x y e) 1 0) (λ y. count (joins directed x y) es))
      ∙ sum-add n (λ x. sum n (λ y. cond (joins directed x y e) 1 0)) (λ x. sum n (λ y. count (joins directed x y) es))

  loops-cons : (e : Edge) (es : List Edge) → loops directed n (e ∷ es) ≡ edge_loops directed n e + loops directed n es
  loops-cons e es =
      sum_same n (λ x. count (joins directed x x) (e ∷ es)) (λ x. cond (joins directed x x e) 1 0 + count (joins directed x x) es)
      (λ x l. count-cons (joins directed x x) e es)
      ∙ sum-add n (λ x. cond (joins directed x x e) 1 0) (λ x. count (joins directed x x) es)

pub directed-total : (n : ℕ) (es : List Edge) → Within n es → pairs true n es ≡ length es
directed-total n [] h = pairs-nil true n
directed-total n (e ∷ es) h =
    omega (arith, pairs-cons true n e es, directed-edge n e h.0.0 h.0.1, directed-total n es h.1)

pub undirected-total : (n : ℕ) (es : List Edge) → Within n es → pairs false n es + loops false n es ≡ 2 * length es
undirected-total n [] h = omega (arith, pairs-nil false n, loops-nil false n)
undirected-total n (e ∷ es) h =
    omega (arith, pairs-cons false n e es, loops-cons false n e es, undirected-edge n e h.0.0 h.0.1, undirected-total n es h.1)

equal-pairs : (directed : Bool) (n : ℕ) (es fs : List Edge) → Within n es → Within n fs → length es ≡ length fs
    → pairs directed n es ≤ pairs directed n fs → loops directed n es ≤ loops directed n fs → pairs directed n es ≡ pairs directed n fs
equal-pairs true n es fs i j e p l = omega (arith, directed-total n es i, directed-total n fs j)
equal-pairs false n es fs i j e p l = omega (arith, undirected-total n es i, undirected-total n fs j)

module _ (directed : Bool) (n : ℕ) (φ : ℕ → ℕ) (es fs : List Edge) (i : Within n es) (j : Within n fs) (same : length es ≡ length fs)
    (into : Into n n φ) (apart : Apart n φ)
    (least : (x y : ℕ) → x < n → y < n → count (joins directed x y) es ≤ count (joins directed (φ x) (φ y)) fs) where
  moved : sum n (λ x. sum n (λ y. count (joins directed (φ x) (φ y)) fs)) ≡ pairs directed n fs
  moved =
      sum_same n (λ x. sum n (λ y. count (joins directed (φ x) (φ y)) fs)) (λ x. sum n (λ y. count (joins directed (φ x) y) fs))
      (λ x l. sum-onto n φ (λ y. count (joins directed (φ x) y) fs) into apart)
      ∙ sum-onto n φ (λ x. sum n (λ y. count (joins directed x y) fs)) into apart

  row-least : (x : ℕ) → x < n → sum n (λ y. count (joins directed x y) es) ≤ sum n (λ y. count (joins directed (φ x) (φ y)) fs)
  row-least x l = sum-le n (λ y. count (joins directed x y) es) (λ y. count (joins directed (φ x) (φ y)) fs) (λ y k. least x y l k)

  all-equal : pairs directed n es ≡ sum n (λ x. sum n (λ y. count (joins directed (φ x) (φ y)) fs))
  all-equal =
      equal-pairs directed n es fs i j same
      (rw (← moved)
      (sum-le n (λ x. sum n (λ y. count (joins directed x y) es)) (λ x. sum n (λ y. count (joins directed (φ x) (φ y)) fs)) row-least))
      (sum-into n n φ (λ y. count (joins directed y y) fs) (λ x. count (joins directed x x) es) into apart (λ x l. least x x l l))
      ∙ sym moved

  pub counts-kept : (x y : ℕ) → x < n → y < n → count (joins directed x y) es ≡ count (joins directed (φ x) (φ y)) fs
  counts-kept x y l k =
      sum-tight n (λ y. count (joins directed x y) es) (λ y. count (joins directed (φ x) (φ y)) fs) (λ y k. least x y l k)
      (sum-tight n (λ x. sum n (λ y. count (joins directed x y) es))
      (λ x. sum n (λ y. count (joins directed (φ x) (φ y)) fs)) row-least all-equal x l)
      y k
