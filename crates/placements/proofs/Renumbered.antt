-- Placements over ids and over positions are the same placements. Two graphs are alike where each node of the one has a node of
-- the other, with its label and its edges; a graph and the renumbered one are.
use Prim.Native.Nat.{ℕ, ◌<◌}
use mathlib.Core.Bool.{Bool}
use mathlib.Core.List.{List, [], ◌∷◌, map}
use mathlib.Core.Path.{◌≡◌, refl, sym, ◌∙◌, ap}
use native.Mathlib.Omega.{arith}
use lib.ListN.{length, get_or, length-map}
use Rattle.basics.specs.Lists.{place}
use Rattle.basics.proofs.Tests.{case}
use Rattle.basics.proofs.Laws.{member-at}
use Rattle.basics.proofs.Distinct.{distinct-below}
use Rattle.basics.proofs.Place.{place_at, at_place}
use Rattle.packed.specs.Graph.{Edge, Graph, nodes}
use Rattle.settings.specs.Settings.{Settings}
use Rattle.order.specs.Order.{node_order}
use Rattle.order.specs.Renumber.{renumber_edge, renumbered}
use Rattle.order.proofs.Once.{order-distinct, order-member, order-holds-each-once}
use Rattle.order.proofs.Renumbered.{order-keeps-edges, order-keeps-nodes, order-keeps-within}
use Rattle.rules.specs.Task.{task_of}
use Rattle.rules.specs.Placement.{Placement, edges_of}
use Rattle.placements.specs.Claims.{LabelsBelow, AcceptedFile, OfOneKind, Renumbered}
use Rattle.placements.proofs.Labels.{edges-compared, edges-not-compared}

pub record Alike (s : Settings) (g h : Graph) (to back : ℕ → ℕ) : Type 0 where
  pub to_below : (v : ℕ) → v < nodes g → to v < nodes h
  pub back_below : (w : ℕ) → w < nodes h → back w < nodes g
  pub back_to : (v : ℕ) → v < nodes g → back (to v) ≡ v
  pub to_back : (w : ℕ) → w < nodes h → to (back w) ≡ w
  pub same_label : (v : ℕ) → v < nodes g → get_or h.labels (to v) 0 ≡ get_or g.labels v 0
  pub same_edges : (l a b : ℕ) → a < nodes g → b < nodes g → edges_of s h l (to a) (to b) ≡ edges_of s g l a b

pub alike-back : (s : Settings) (g h : Graph) (to back : ℕ → ℕ) → Alike s g h to back → Alike s h g back to
alike-back s g h to back k =
    record {
      to_below = k.back_below;
      back_below = k.to_below;
      back_to = k.to_back;
      to_back = k.back_to;
      same_label = λ w i. sym (k.same_label (back w) (k.back_below w i)) ∙ ap (λ v. get_or h.labels v 0) (k.to_back w i);
      same_edges = λ l a b i j.
          sym (rw (k.to_back a i, k.to_back b j) at (k.same_edges l (back a) (back b) (k.back_below a i) (k.back_below b j)));
    }

-- a placement in alike graphs
module _ (s : Settings) (g₀ h₀ g₁ h₁ : Graph) (to₀ back₀ to₁ back₁ : ℕ → ℕ) (k₀ : Alike s g₀ h₀ to₀ back₀) (k₁ : Alike s g₁ h₁ to₁ back₁)
    (φ : ℕ → ℕ) (p : Placement s g₀ g₁ φ) where
  below : (w : ℕ) → w < nodes h₁ → φ (back₁ w) < nodes g₀
  below w i = p.within (back₁ w) (k₁.back_below w i)

  edges₁ : (l a b : ℕ) → a < nodes h₁ → b < nodes h₁ → edges_of s h₁ l a b ≡ edges_of s g₁ l (back₁ a) (back₁ b)
  edges₁ l a b i j = sym ((alike-back s g₁ h₁ to₁ back₁ k₁).same_edges l a b i j)

  edges₀ : (l a b : ℕ) → a < nodes h₁ → b < nodes h₁
      → edges_of s h₀ l (to₀ (φ (back₁ a))) (to₀ (φ (back₁ b))) ≡ edges_of s g₀ l (φ (back₁ a)) (φ (back₁ b))
  edges₀ l a b i j = k₀.same_edges l (φ (back₁ a)) (φ (back₁ b)) (below a i) (below b j)

  carried : Placement s h₀ h₁ (λ w. to₀ (φ (back₁ w)))
  carried =
      record {
        within = λ a i. k₀.to_below (φ (back₁ a)) (below a i);
        apart = λ a b i j e.
            let same : φ (back₁ a) ≡ φ (back₁ b) =
            sym (k₀.back_to (φ (back₁ a)) (below a i)) ∙ ap back₀ e ∙ k₀.back_to (φ (back₁ b)) (below b j) in
            sym (k₁.to_back a i) ∙ ap to₁ (p.apart (back₁ a) (back₁ b) (k₁.back_below a i) (k₁.back_below b j) same) ∙ k₁.to_back b j;
        labels_agree = λ c a i.
            k₀.same_label (φ (back₁ a)) (below a i) ∙ p.labels_agree c (back₁ a) (k₁.back_below a i)
            ∙ (alike-back s g₁ h₁ to₁ back₁ k₁).same_label a i;
        at_least = λ a b l i j.
            rw (edges₁ l a b i j, edges₀ l a b i j) (p.at_least (back₁ a) (back₁ b) l (k₁.back_below a i) (k₁.back_below b j));
        equal = λ c a b l i j.
            rw (edges₁ l a b i j, edges₀ l a b i j) (p.equal c (back₁ a) (back₁ b) l (k₁.back_below a i) (k₁.back_below b j));
      }

  -- carried there and back it is itself
  carried-back : (v : ℕ) → v < nodes g₁ → back₀ (to₀ (φ (back₁ (to₁ v)))) ≡ φ v
  carried-back v i = rw (k₁.back_to v i) (k₀.back_to (φ v) (p.within v i))

-- a graph and the graph renumbered
module _ (s : Settings) (plus_plus : Bool) (g : Graph) (file : AcceptedFile g) where
  abbrev order : List ℕ
  order = node_order plus_plus g

  long : length order ≡ nodes g
  long = (order-holds-each-once plus_plus g).0

  renumbered-edges : (l a b : ℕ) → a < nodes g → b < nodes g
      → edges_of s (renumbered order g) l (place a order) (place b order) ≡ edges_of s g l a b
  renumbered-edges l a b i j =
      let k = order-keeps-edges plus_plus g file.edges_within in
      case s.edge_labels
      (λ c. rw (edges-compared s (renumbered order g) l (place a order) (place b order) c, edges-compared s g l a b c)
      (k.labelled_edges l a b i j))
      (λ c. rw (edges-not-compared s (renumbered order g) l (place a order) (place b order) c, edges-not-compared s g l a b c)
      (k.edges a b i j))

  alike : Alike s g (renumbered order g) (λ v. place v order) (λ w. get_or order w 0)
  alike =
      let same = order-keeps-nodes plus_plus g in
      record {
        to_below = λ v i. omega (arith, (place_at v order (order-member plus_plus g v i)).1, long);
        back_below = λ w i.
            distinct-below (nodes g) order (order-distinct plus_plus g) (get_or order w 0) (member-at order w (omega (arith, long)));
        back_to = λ v i. (place_at v order (order-member plus_plus g v i)).0;
        to_back = λ w i. at_place (nodes g) order (order-distinct plus_plus g) w (omega (arith, long));
        same_label = (order-keeps-edges plus_plus g file.edges_within).node_labels;
        same_edges = renumbered-edges;
      }

  labels-renumbered : (es : List Edge) → LabelsBelow 64 es → LabelsBelow 64 (map (renumber_edge order) es)
  labels-renumbered [] h = tt
  labels-renumbered (e ∷ es) h = (h.0, labels-renumbered es h.1)

  renumbered-file : AcceptedFile (renumbered order g)
  unfolding renumbered
  renumbered-file =
      record {
        edges_within = rw (order-keeps-nodes plus_plus g) (order-keeps-within plus_plus g file.edges_within);
        labels_below = labels-renumbered g.edges file.labels_below;
      }

  renumbered-edge-count : length (renumbered order g).edges ≡ length g.edges
  unfolding renumbered
  renumbered-edge-count = length-map g.edges (renumber_edge order)

  renumbered-kind : (renumbered order g).directed ≡ g.directed
  unfolding renumbered
  renumbered-kind = refl

module _ (s : Settings) (g₀ g₁ : Graph) (files : OfOneKind g₀ g₁) where
  abbrev pub h₀ : Graph
  h₀ = renumbered (node_order s.vf2pp g₀) g₀

  abbrev pub h₁ : Graph
  h₁ = renumbered (node_order s.vf2pp g₁) g₁

  pub alike₀ : Alike s g₀ h₀ (λ v. place v (node_order s.vf2pp g₀)) (λ w. get_or (node_order s.vf2pp g₀) w 0)
  alike₀ = alike s s.vf2pp g₀ files.accepted₀

  pub alike₁ : Alike s g₁ h₁ (λ v. place v (node_order s.vf2pp g₁)) (λ w. get_or (node_order s.vf2pp g₁) w 0)
  alike₁ = alike s s.vf2pp g₁ files.accepted₁

  alike₀-back : Alike s h₀ g₀ (λ w. get_or (node_order s.vf2pp g₀) w 0) (λ v. place v (node_order s.vf2pp g₀))
  alike₀-back = alike-back s g₀ h₀ (λ v. place v (node_order s.vf2pp g₀)) (λ w. get_or (node_order s.vf2pp g₀) w 0) alike₀

  alike₁-back : Alike s h₁ g₁ (λ w. get_or (node_order s.vf2pp g₁) w 0) (λ v. place v (node_order s.vf2pp g₁))
  alike₁-back = alike-back s g₁ h₁ (λ v. place v (node_order s.vf2pp g₁)) (λ w. get_or (node_order s.vf2pp g₁) w 0) alike₁

  pub renumbered-placements : Renumbered s g₀ g₁
  unfolding task_of
  renumbered-placements =
      record {
        sound = record {
          accepted₀ = renumbered-file s s.vf2pp g₀ files.accepted₀;
          accepted₁ = renumbered-file s s.vf2pp g₁ files.accepted₁;
          same_kind =
              renumbered-kind s s.vf2pp g₁ files.accepted₁ ∙ files.same_kind ∙ sym
              (renumbered-kind s s.vf2pp g₀ files.accepted₀);
        };
        counts = rw (
          order-keeps-nodes s.vf2pp g₀,
          order-keeps-nodes s.vf2pp g₁,
          renumbered-edge-count s s.vf2pp g₀ files.accepted₀,
          renumbered-edge-count s s.vf2pp g₁ files.accepted₁,
        );
        to_positions = λ φ p. carried s g₀ h₀ g₁ h₁ _ _ _ _ alike₀ alike₁ φ p;
        to_ids = λ ψ p. carried s h₀ g₀ h₁ g₁ _ _ _ _ alike₀-back alike₁-back ψ p;
        ids_again = λ φ p v i. carried-back s g₀ h₀ g₁ h₁ _ _ _ _ alike₀ alike₁ φ p v i;
        positions_again = λ ψ p w i. carried-back s h₀ g₀ h₁ g₁ _ _ _ _ alike₀-back alike₁-back ψ p w i;
      }
