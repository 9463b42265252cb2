-- The edges between two nodes, by label: the labels' numbers add up to the number of all; turned round, the edges from a to b
-- are those from b to a; undirected, they are the same.
use Prim.Native.Nat.{ℕ, ◌+◌, ◌≤◌}
use mathlib.Core.Bool.{Bool, true, false, cond, ◌&&◌, and-true, and_comm, or_comm}
use mathlib.Core.List.{List, [], ◌∷◌, map}
use mathlib.Core.Path.{◌≡◌, refl, sym, ◌∙◌}
use native.Mathlib.Omega.{arith}
use lib.Dec.{eqb}
use borrow.Author.Tests.{ne_eqb}
use Rattle.basics.specs.Lists.{count}
use Rattle.basics.proofs.Tests.{case, eqb_swap}
use Rattle.basics.proofs.Laws.{count-nil, count-cons, count_same, count_map}
use Rattle.packed.specs.Graph.{Edge, Graph}
use Rattle.settings.specs.Settings.{Settings}
use Rattle.graph.specs.Walk.{joins, between, turn, turned}
use Rattle.order.specs.Claims.{labelled_between}
use Rattle.rules.specs.Placement.{of_label, edges_of}
use Rattle.placements.specs.Claims.{LabelsBelow}
use Rattle.placements.proofs.Sums.{sum, sum_same, sum-add, sum-zero, sum_one}

joins-turned : (directed : Bool) (a b : ℕ) (e : Edge) → joins directed a b (turn e) ≡ joins directed b a e
joins-turned directed a b e =
    rw (and_comm (eqb e.target a) (eqb e.source b), and_comm (eqb e.target b) (eqb e.source a))

joins-undirected : (a b : ℕ) (e : Edge) → joins false a b e ≡ joins false b a e
joins-undirected a b e = or_comm (eqb e.source a && eqb e.target b) (eqb e.source b && eqb e.target a)

-- the edges from a to b that pass a test
abbrev pub passing : Bool → (Edge → Bool) → List Edge → ℕ → ℕ → ℕ
passing directed q es a b = count (λ e. joins directed a b e && q e) es

passing-turned : (directed : Bool) (q : Edge → Bool) (es : List Edge) (a b : ℕ) → ((e : Edge) → q (turn e) ≡ q e)
    → passing directed q (map turn es) a b ≡ passing directed q es b a
passing-turned directed q es a b h =
    count_map (λ e. joins directed a b e && q e) turn es
    ∙ count_same (λ e. joins directed a b (turn e) && q (turn e)) (λ e. joins directed b a e && q e) es
    (λ e. rw (joins-turned directed a b e, h e))

label-turned : (compared : Bool) (l : ℕ) (e : Edge) → of_label compared l (turn e) ≡ of_label compared l e
label-turned true l e = refl
label-turned false l e = refl

module _ (s : Settings) (g : Graph) (l a b : ℕ) where
  pub edges-turned : edges_of s (turned g) l a b ≡ edges_of s g l b a
  edges-turned = passing-turned g.directed (of_label s.edge_labels l) g.edges a b (label-turned s.edge_labels l)

  pub edges-undirected : g.directed ≡ false → edges_of s g l a b ≡ edges_of s g l b a
  edges-undirected d =
      rw d
      (count_same (λ e. joins false a b e && of_label s.edge_labels l e) (λ e. joins false b a e && of_label s.edge_labels l e) g.edges
      (λ e. rw (joins-undirected a b e)))

  -- compared, the edges of the label; not compared, all
  pub edges-compared : s.edge_labels ≡ true → edges_of s g l a b ≡ labelled_between g l a b
  edges-compared c = rw c

  pub edges-not-compared : s.edge_labels ≡ false → edges_of s g l a b ≡ between g a b
  edges-not-compared c =
      rw c (count_same (λ e. joins g.directed a b e && true) (joins g.directed a b) g.edges
      (λ e. and-true (joins g.directed a b e)))

pub labelled-turned : (g : Graph) (l a b : ℕ) → labelled_between (turned g) l a b ≡ labelled_between g l b a
labelled-turned g l a b = passing-turned g.directed (λ e. eqb e.label l) g.edges a b (λ e. refl)

-- each edge has one label
pub labelled-cons : (directed : Bool) (l a b : ℕ) (e : Edge) (es : List Edge)
    → passing directed (λ e. eqb e.label l) (e ∷ es) a b
    ≡ cond (eqb l e.label) (cond (joins directed a b e) 1 0) 0 + passing directed (λ e. eqb e.label l) es a b
labelled-cons directed l a b e es =
    rw (count-cons (λ e. joins directed a b e && eqb e.label l) e es, eqb_swap e.label l)
    (case (joins directed a b e)
    (λ j. rw j)
    (λ j. rw j (case (eqb l e.label) (λ k. rw k) (λ k. rw k))))

passing-sum : (directed : Bool) (n a b : ℕ) (es : List Edge) → LabelsBelow n es
    → sum n (λ l. passing directed (λ e. eqb e.label l) es a b) ≡ count (joins directed a b) es
passing-sum directed n a b [] h =
    sum-zero n (λ l. passing directed (λ e. eqb e.label l) [] a b) (λ l i. count-nil (λ e. joins directed a b e && eqb e.label l))
    ∙ sym (count-nil (joins directed a b))
passing-sum directed n a b (e ∷ es) h =
    let split = sum_same n (λ l. passing directed (λ e. eqb e.label l) (e ∷ es) a b)
    (λ l. cond (eqb l e.label) (cond (joins directed a b e) 1 0) 0 + passing directed (λ e. eqb e.label l) es a b)
    (λ l i. labelled-cons directed l a b e es) in
    omega (
      arith,
      count-cons (joins directed a b) e es,
      sum-add n (λ l. cond (eqb l e.label) (cond (joins directed a b e) 1 0) 0) (λ l. passing directed (λ e. eqb e.label l) es a b),
      sum_one n (λ l. cond (joins directed a b e) 1 0) e.label h.0,
      passing-sum directed n a b es h.1,
    )

pub labels-sum : (n : ℕ) (g : Graph) (a b : ℕ) → LabelsBelow n g.edges → sum n (λ l. labelled_between g l a b) ≡ between g a b
labels-sum n g a b h = passing-sum g.directed n a b g.edges h

passing-none : (directed : Bool) (n l a b : ℕ) (es : List Edge) → LabelsBelow n es → n ≤ l
    → passing directed (λ e. eqb e.label l) es a b ≡ 0
passing-none directed n l a b [] h k = count-nil (λ e. joins directed a b e && eqb e.label l)
passing-none directed n l a b (e ∷ es) h k =
    let away : (l ≡ e.label → ⊥) = λ z. omega (arith, h.0) in
    let first : ◌≡◌ {A = ℕ} (cond (eqb l e.label) (cond (joins directed a b e) 1 0) 0) 0 = rw (ne_eqb l e.label away) in
    omega (arith, labelled-cons directed l a b e es, passing-none directed n l a b es h.1 k)

-- no edge has a label that is none
pub labelled-none : (n : ℕ) (g : Graph) (l a b : ℕ) → LabelsBelow n g.edges → n ≤ l → labelled_between g l a b ≡ 0
labelled-none n g l a b h k = passing-none g.directed n l a b g.edges h k
