-- What a placement keeps of the edges between two nodes, labels apart: never fewer; as many if induced, and under Equal. The
-- same holds of the graphs turned round.
use Prim.Native.Nat.{ℕ, ◌≤◌, ◌<◌}
use mathlib.Core.Bool.{true, false, ◌&&◌}
use mathlib.Core.Path.{◌≡◌, sym, ◌∙◌}
use lib.Dec.{eqb, ltb}
use lib.ListN.{length}
use borrow.Author.Tests.{eqb-true, ltb-true, ltb-false}
use Rattle.rules.specs.Task.{graphs_agree}
use Rattle.basics.proofs.Tests.{case, and_left, and_right}
use Rattle.packed.specs.Graph.{Graph, nodes}
use Rattle.settings.specs.Settings.{Settings}
use Rattle.graph.specs.Walk.{between, turned}
use Rattle.graph.specs.Within.{Within}
use Rattle.graph.proofs.Walk.{within-turned, between-turned}
use Rattle.order.specs.Claims.{labelled_between}
use Rattle.rules.specs.Placement.{Placement, edges_of}
use Rattle.placements.specs.Claims.{OfOneKind}
use Rattle.placements.proofs.Sums.{sum, sum-le, sum_same, sum-tight, Into}
use Rattle.placements.proofs.Labels.{edges-compared, edges-not-compared, labels-sum, labelled-turned, labelled-none}
use Rattle.placements.proofs.Equal.{counts-kept}

-- under Equal the counts that agree are equal
pub equal-nodes : (s : Settings) (g₀ g₁ : Graph) → graphs_agree s g₀ g₁ ≡ true → s.greater ≡ false → nodes g₀ ≡ nodes g₁
equal-nodes s g₀ g₁ c e =
    let h : (eqb (nodes g₀) (nodes g₁) && eqb (length g₀.edges) (length g₁.edges)) ≡ true = rw e at c in
    eqb-true (nodes g₀) (nodes g₁) (and_left (eqb (nodes g₀) (nodes g₁)) (eqb (length g₀.edges) (length g₁.edges)) h)

pub equal-edges : (s : Settings) (g₀ g₁ : Graph) → graphs_agree s g₀ g₁ ≡ true → s.greater ≡ false → length g₀.edges ≡ length g₁.edges
equal-edges s g₀ g₁ c e =
    let h : (eqb (nodes g₀) (nodes g₁) && eqb (length g₀.edges) (length g₁.edges)) ≡ true = rw e at c in
    eqb-true (length g₀.edges) (length g₁.edges)
    (and_right (eqb (nodes g₀) (nodes g₁)) (eqb (length g₀.edges) (length g₁.edges)) h)

-- what φ keeps of two graphs, one way of the edges
pub record Keeps (s : Settings) (φ : ℕ → ℕ) (g₀ g₁ : Graph) : Type 0 where
  pub within₀ : Within (nodes g₀) g₀.edges
  pub within₁ : Within (nodes g₁) g₁.edges
  pub least : (x y : ℕ) → x < nodes g₁ → y < nodes g₁ → between g₁ x y ≤ between g₀ (φ x) (φ y)
  pub induced : s.induced ≡ true → (x y : ℕ) → x < nodes g₁ → y < nodes g₁ → between g₁ x y ≡ between g₀ (φ x) (φ y)
  pub equal : s.greater ≡ false → (x y : ℕ) → x < nodes g₁ → y < nodes g₁ → between g₁ x y ≡ between g₀ (φ x) (φ y)
  pub label_least : s.edge_labels ≡ true → (l x y : ℕ) → x < nodes g₁ → y < nodes g₁
      → labelled_between g₁ l x y ≤ labelled_between g₀ l (φ x) (φ y)
  pub label_induced : s.edge_labels ≡ true → s.induced ≡ true → (l x y : ℕ) → x < nodes g₁ → y < nodes g₁
      → labelled_between g₁ l x y ≡ labelled_between g₀ l (φ x) (φ y)

-- the same with the edges turned round
pub keeps-turned : (s : Settings) (φ : ℕ → ℕ) (g₀ g₁ : Graph) → Keeps s φ g₀ g₁ → Keeps s φ (turned g₀) (turned g₁)
keeps-turned s φ g₀ g₁ k =
    record {
      within₀ = within-turned (nodes g₀) g₀.edges k.within₀;
      within₁ = within-turned (nodes g₁) g₁.edges k.within₁;
      least = λ x y i j. rw (between-turned g₁ x y, between-turned g₀ (φ x) (φ y)) (k.least y x j i);
      induced = λ e x y i j. rw (between-turned g₁ x y, between-turned g₀ (φ x) (φ y)) (k.induced e y x j i);
      equal = λ e x y i j. rw (between-turned g₁ x y, between-turned g₀ (φ x) (φ y)) (k.equal e y x j i);
      label_least = λ c l x y i j. rw (labelled-turned g₁ l x y, labelled-turned g₀ l (φ x) (φ y)) (k.label_least c l y x j i);
      label_induced = λ c e l x y i j. rw (labelled-turned g₁ l x y, labelled-turned g₀ l (φ x) (φ y)) (k.label_induced c e l y x j i);
    }

module _ (s : Settings) (g₀ g₁ : Graph) (φ : ℕ → ℕ) (p : Placement s g₀ g₁ φ) (files : OfOneKind g₀ g₁) where
  labels-least : s.edge_labels ≡ true → (l x y : ℕ) → x < nodes g₁ → y < nodes g₁
      → labelled_between g₁ l x y ≤ labelled_between g₀ l (φ x) (φ y)
  labels-least c l x y i j = rw (edges-compared s g₁ l x y c, edges-compared s g₀ l (φ x) (φ y) c) at (p.at_least x y l i j)

  labels-induced : s.edge_labels ≡ true → s.induced ≡ true → (l x y : ℕ) → x < nodes g₁ → y < nodes g₁
      → labelled_between g₁ l x y ≡ labelled_between g₀ l (φ x) (φ y)
  labels-induced c e l x y i j = rw (edges-compared s g₁ l x y c, edges-compared s g₀ l (φ x) (φ y) c) at (p.equal e x y l i j)

  sum₁ : (x y : ℕ) → sum 64 (λ l. labelled_between g₁ l x y) ≡ between g₁ x y
  sum₁ x y = labels-sum 64 g₁ x y files.accepted₁.labels_below

  sum₀ : (x y : ℕ) → sum 64 (λ l. labelled_between g₀ l (φ x) (φ y)) ≡ between g₀ (φ x) (φ y)
  sum₀ x y = labels-sum 64 g₀ (φ x) (φ y) files.accepted₀.labels_below

  pub between-least : (x y : ℕ) → x < nodes g₁ → y < nodes g₁ → between g₁ x y ≤ between g₀ (φ x) (φ y)
  between-least x y i j =
      case s.edge_labels
      (λ c. rw (← sum₁ x y, ← sum₀ x y)
      (sum-le 64 (λ l. labelled_between g₁ l x y) (λ l. labelled_between g₀ l (φ x) (φ y)) (λ l b. labels-least c l x y i j)))
      (λ c. rw (edges-not-compared s g₁ 0 x y c, edges-not-compared s g₀ 0 (φ x) (φ y) c) at (p.at_least x y 0 i j))

  between-induced : s.induced ≡ true → (x y : ℕ) → x < nodes g₁ → y < nodes g₁ → between g₁ x y ≡ between g₀ (φ x) (φ y)
  between-induced e x y i j =
      case s.edge_labels
      (λ c. rw (← sum₁ x y, ← sum₀ x y)
      (sum_same 64 (λ l. labelled_between g₁ l x y) (λ l. labelled_between g₀ l (φ x) (φ y)) (λ l b. labels-induced c e l x y i j)))
      (λ c. rw (edges-not-compared s g₁ 0 x y c, edges-not-compared s g₀ 0 (φ x) (φ y) c) at (p.equal e x y 0 i j))

  module _ (agreed : graphs_agree s g₀ g₁ ≡ true) where
    between-equal : s.greater ≡ false → (x y : ℕ) → x < nodes g₁ → y < nodes g₁ → between g₁ x y ≡ between g₀ (φ x) (φ y)
    between-equal e =
        let n = nodes g₁ in
        let within : Within n g₀.edges = rw (equal-nodes s g₀ g₁ agreed e) at files.accepted₀.edges_within in
        let into : Into n n φ = rw (equal-nodes s g₀ g₁ agreed e) at p.within in
        rw files.same_kind
        (counts-kept g₀.directed n φ g₁.edges g₀.edges files.accepted₁.edges_within within (sym (equal-edges s g₀ g₁ agreed e))
        into p.apart (rw files.same_kind at between-least))

    pub keeps : Keeps s φ g₀ g₁
    keeps =
        record {
          within₀ = files.accepted₀.edges_within;
          within₁ = files.accepted₁.edges_within;
          least = between-least;
          induced = between-induced;
          equal = between-equal;
          label_least = labels-least;
          label_induced = labels-induced;
        }

    -- under Equal no label's edges grow more
    pub edges-equal : s.greater ≡ false → (l x y : ℕ) → x < nodes g₁ → y < nodes g₁ → edges_of s g₁ l x y ≡ edges_of s g₀ l (φ x) (φ y)
    edges-equal e l x y i j =
        case s.edge_labels
        (λ c. rw (edges-compared s g₁ l x y c, edges-compared s g₀ l (φ x) (φ y) c)
        (case (ltb l 64)
        (λ k.
        sum-tight 64 (λ l. labelled_between g₁ l x y) (λ l. labelled_between g₀ l (φ x) (φ y)) (λ l b. labels-least c l x y i j)
        (sum₁ x y ∙ between-equal e x y i j ∙ sym (sum₀ x y)) l (ltb-true l 64 k))
        (λ k.
        labelled-none 64 g₁ l x y files.accepted₁.labels_below (ltb-false l 64 k)
        ∙ sym (labelled-none 64 g₀ l (φ x) (φ y) files.accepted₀.labels_below (ltb-false l 64 k)))))
        (λ c. rw (edges-not-compared s g₁ l x y c, edges-not-compared s g₀ l (φ x) (φ y) c) (between-equal e x y i j))
