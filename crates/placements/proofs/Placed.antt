-- A whole accepted path is a placement. What an acceptable pair adds to the pairs before it, said of one graph's pairs as it sees
-- them, holds of the other's by exchanging them, and of incoming edges by turning them round.
use Prim.Native.Nat.{ℕ, ◌≤◌, ◌<◌}
use native.Mathlib.Nat.{le_antisymm}
use mathlib.Core.Bool.{Bool, true, false, ◌&&◌}
use mathlib.Core.List.{List, [], ◌∷◌}
use mathlib.Core.Option.{some}
use mathlib.Core.Path.{◌≡◌, refl, sym, ◌∙◌, ap}
use lib.Dec.{eqb}
use lib.ListN.{length, get_or}
use borrow.Author.Tests.{eqb-true, eq-eqb}
use Rattle.basics.specs.Lists.{Distinct, member}
use Rattle.basics.proofs.Tests.{case, option_case, none-not-some, never, and_left, and_right, false-by}
use Rattle.basics.proofs.Distinct.{distinct-all, distinct-below}
use Rattle.packed.specs.Graph.{Graph, nodes}
use Rattle.settings.specs.Settings.{Settings}
use Rattle.graph.specs.Walk.{between, turned}
use Rattle.graph.specs.Within.{Within}
use Rattle.graph.proofs.Walk.{within-turned}
use Rattle.rules.specs.Task.{Task, Pairs, exchanged, mapped, partner}
use Rattle.rules.specs.Acceptable.{implies, covers, matches, linked, labelled, ahead, same_label, each_way, feasible, marked_nodes, acceptable}
use Rattle.rules.specs.Marks.{first_mark, second_mark}
use Rattle.rules.specs.Placement.{edges_of}
use Rattle.rules.specs.Search.{pairs_of, candidate_at, node_of, accepts, accepted_path}
use Rattle.rules.proofs.Laws.{exchanged-twice, partner-nil, partner-own, partner-other, partner-member}
use Rattle.placements.specs.Listed.{whole}
use Rattle.placements.specs.Claims.{Sound, image_in, Places}
use Rattle.placements.proofs.Labels.{edges-turned, edges-undirected, edges-compared, edges-not-compared}
use Rattle.placements.proofs.Tests.{covers-elim, matches-elim}
use Rattle.placements.proofs.Along.{Along, partner-along}
use Rattle.rules.proofs.Stays.{pairs-cons, pairs-nil, exchanged-length, partners-distinct, path-distinct, path-last}

implies-elim : (a b : Bool) → implies a b ≡ true → a ≡ true → b ≡ true
implies-elim true b e h = e
implies-elim false b e h = never false h refl

-- partners

pub partner-mapped : (ps : Pairs) (x y : ℕ) → partner ps x ≡ some y → member x (mapped ps) ≡ true
partner-mapped ps x y e = partner-member ps x ∙ rw e

mapped-partner : {C : Type 0} (ps : Pairs) (x : ℕ) → member x (mapped ps) ≡ true → ((y : ℕ) → partner ps x ≡ some y → C) → C
mapped-partner ps x e f =
    option_case (partner ps x)
    (λ h. let m : false ≡ true = rw h at (sym (partner-member ps x) ∙ e) in never false m refl)
    f

-- where no two have the same partner, a partner's partner is the node itself
partner-back : (n : ℕ) (ps : Pairs) → Distinct n (mapped (exchanged ps)) → (x y : ℕ) → partner ps x ≡ some y
    → partner (exchanged ps) y ≡ some x
partner-back n [] d x y e = none-not-some (sym (partner-nil x) ∙ e)
partner-back n (p ∷ ps) d x y e =
    case (eqb x p.0)
    (λ h.
    let own : p.1 ≡ y = cc (partner-own p.0 p.1 ps x h) in
    partner-own p.1 p.0 (exchanged ps) y (eq-eqb y p.1 (sym own)) ∙ ap some (sym (eqb-true x p.0 h)))
    (λ h.
    let rest = partner-back n ps d.1 x y (sym (partner-other p.0 p.1 ps x h) ∙ e) in
    let away : eqb y p.1 ≡ false = false-by (eqb y p.1)
    (λ z. never (member p.1 (mapped (exchanged ps))) (rw (eqb-true y p.1 z) at (partner-mapped (exchanged ps) y x rest)) d.0.1) in
    partner-other p.1 p.0 (exchanged ps) y away ∙ rest)

-- the tests of one direction, of this graph's edges against the other's, by the settings
edges-least : (s : Settings) (g h : Graph) (ps : Pairs) (v w : ℕ) → Within (nodes g) g.edges
    → covers (nodes g) (between g) (between h) (partner ((v, w) ∷ ps)) v w ≡ true → (s.edge_labels ≡ true → matches g h ps v w ≡ true)
    → (l x y : ℕ) → x < nodes g → partner ((v, w) ∷ ps) x ≡ some y → edges_of s g l v x ≤ edges_of s h l w y
edges-least s g h ps v w within c m l x y i e =
    case s.edge_labels
    (λ k. rw (edges-compared s g l v x k, edges-compared s h l w y k) (matches-elim g h ps v w within (m k) x y l i e))
    (λ k. rw (edges-not-compared s g l v x k, edges-not-compared s h l w y k)
    (covers-elim (nodes g) (between g) (between h) (partner ((v, w) ∷ ps)) v w c x y i e))

-- this graph's edges among nodes with partners are no more than the other's among the partners
abbrev Carries : Settings → Graph → Graph → Pairs → Type 0
Carries s g h ps = (l x y p q : ℕ) → partner ps x ≡ some p → partner ps y ≡ some q → edges_of s g l x y ≤ edges_of s h l p q

-- the edges from the new node, and those into it
pub record New (s : Settings) (g h : Graph) (ps : Pairs) (v w : ℕ) : Type 0 where
  pub from_it : (l x y : ℕ) → x < nodes g → partner ((v, w) ∷ ps) x ≡ some y → edges_of s g l v x ≤ edges_of s h l w y
  pub into_it : (l x y : ℕ) → x < nodes g → partner ((v, w) ∷ ps) x ≡ some y → edges_of s g l x v ≤ edges_of s h l y w

carries-more : (s : Settings) (g h : Graph) (ps : Pairs) (v w : ℕ) → Distinct (nodes g) (mapped ((v, w) ∷ ps)) → New s g h ps v w
    → Carries s g h ps → Carries s g h ((v, w) ∷ ps)
carries-more s g h ps v w d new old l x y p q e f =
    let below : (z r : ℕ) → partner ((v, w) ∷ ps) z ≡ some r → z < nodes g =
    λ z r i. distinct-below (nodes g) (mapped ((v, w) ∷ ps)) d z (partner-mapped ((v, w) ∷ ps) z r i) in
    case (eqb x v)
    (λ a.
    let own : w ≡ p = cc (partner-own v w ps x a) in
    rw (eqb-true x v a, ← own) (new.from_it l y q (below y q f) f))
    (λ a.
    case (eqb y v)
    (λ b.
    let own : w ≡ q = cc (partner-own v w ps y b) in
    rw (eqb-true y v b, ← own) (new.into_it l x p (below x p e) e))
    (λ b. old l x y p q (sym (partner-other v w ps x a) ∙ e) (sym (partner-other v w ps y b) ∙ f)))

module _ (t : Task) (sound : Sound t) where
  abbrev s : Settings
  s = t.settings

  abbrev g₀ : Graph
  g₀ = t.graph₀

  abbrev g₁ : Graph
  g₁ = t.graph₁

  module _ (ps : Pairs) (a b : ℕ) (accepted : acceptable t ps a b ≡ true) where
    is-feasible : (each_way t ps a b (linked t ps a b) && (each_way t ps a b (ahead t ps a b) && (same_label t ps a b && each_way t ps a b (labelled t ps a b)))) ≡ true
    unfolding acceptable feasible
    is-feasible = and_left (feasible t ps a b) (marked_nodes t ps a b first_mark && marked_nodes t ps a b second_mark) accepted

    linked-ways : each_way t ps a b (linked t ps a b) ≡ true
    linked-ways = and_left (each_way t ps a b (linked t ps a b)) _ is-feasible

    rest-feasible : (same_label t ps a b && each_way t ps a b (labelled t ps a b)) ≡ true
    rest-feasible = and_right (each_way t ps a b (ahead t ps a b)) _ (and_right (each_way t ps a b (linked t ps a b)) _ is-feasible)

    labelled-ways : each_way t ps a b (labelled t ps a b) ≡ true
    labelled-ways = and_right (same_label t ps a b) (each_way t ps a b (labelled t ps a b)) rest-feasible

    labels-alike : s.node_labels ≡ true → get_or g₀.labels a 0 ≡ get_or g₁.labels b 0
    unfolding same_label
    labels-alike c =
        eqb-true (get_or g₀.labels a 0) (get_or g₁.labels b 0)
        (implies-elim s.node_labels (eqb (get_or g₀.labels a 0) (get_or g₁.labels b 0))
        (and_left (same_label t ps a b) (each_way t ps a b (labelled t ps a b)) rest-feasible) c)

    -- one direction: graph 1 against graph 0, and graph 0 against graph 1 if induced
    module _ (h₀ h₁ : Graph) (within₀ : Within (nodes h₀) h₀.edges) (within₁ : Within (nodes h₁) h₁.edges)
        (is-linked : linked t ps a b h₀ h₁ ≡ true) (is-labelled : labelled t ps a b h₀ h₁ ≡ true) where
      sought-least : (l x y : ℕ) → x < nodes h₁ → partner ((b, a) ∷ exchanged ps) x ≡ some y → edges_of s h₁ l b x ≤ edges_of s h₀ l a y
      unfolding linked labelled
      sought-least =
          edges-least s h₁ h₀ (exchanged ps) b a within₁
          (and_left (covers (nodes h₁) (between h₁) (between h₀) (partner ((b, a) ∷ exchanged ps)) b a) _ is-linked)
          (λ c. and_right (implies s.induced (matches h₀ h₁ ps a b)) _ (implies-elim s.edge_labels _ is-labelled c))

      searched-least : s.induced ≡ true → (l x y : ℕ) → x < nodes h₀ → partner ((a, b) ∷ ps) x ≡ some y
          → edges_of s h₀ l a x ≤ edges_of s h₁ l b y
      unfolding linked labelled
      searched-least d =
          edges-least s h₀ h₁ ps a b within₀
          (implies-elim s.induced _
          (and_right (covers (nodes h₁) (between h₁) (between h₀) (partner ((b, a) ∷ exchanged ps)) b a) _ is-linked) d)
          (λ c. implies-elim s.induced _
          (and_left (implies s.induced (matches h₀ h₁ ps a b)) _ (implies-elim s.edge_labels _ is-labelled c)) d)

    linked-out : linked t ps a b g₀ g₁ ≡ true
    linked-out = and_left (linked t ps a b g₀ g₁) _ linked-ways

    labelled_out : labelled t ps a b g₀ g₁ ≡ true
    labelled_out = and_left (labelled t ps a b g₀ g₁) _ labelled-ways

    linked-in : g₀.directed ≡ true → linked t ps a b (turned g₀) (turned g₁) ≡ true
    linked-in d = implies-elim g₀.directed _ (and_right (linked t ps a b g₀ g₁) _ linked-ways) d

    labelled-in : g₀.directed ≡ true → labelled t ps a b (turned g₀) (turned g₁) ≡ true
    labelled-in d = implies-elim g₀.directed _ (and_right (labelled t ps a b g₀ g₁) _ labelled-ways) d

    turned₀ : Within (nodes g₀) (turned g₀).edges
    turned₀ = within-turned (nodes g₀) g₀.edges sound.accepted₀.edges_within

    turned₁ : Within (nodes g₁) (turned g₁).edges
    turned₁ = within-turned (nodes g₁) g₁.edges sound.accepted₁.edges_within

    new₁ : New s g₁ g₀ (exchanged ps) b a
    new₁ =
        let out = sought-least g₀ g₁ sound.accepted₀.edges_within sound.accepted₁.edges_within linked-out labelled_out in
        record {
          from_it = out;
          into_it = λ l x y i e. case g₀.directed
              (λ d. rw (edges-turned s g₁ l b x, edges-turned s g₀ l a y) at
              (sought-least (turned g₀) (turned g₁) turned₀ turned₁ (linked-in d) (labelled-in d) l x y i e))
              (λ d. rw (edges-undirected s g₁ l x b (sound.same_kind ∙ d), edges-undirected s g₀ l y a d) (out l x y i e));
        }

    new₀ : s.induced ≡ true → New s g₀ g₁ ps a b
    new₀ k =
        let out = searched-least g₀ g₁ sound.accepted₀.edges_within sound.accepted₁.edges_within linked-out labelled_out k in
        record {
          from_it = out;
          into_it = λ l x y i e. case g₀.directed
              (λ d. rw (edges-turned s g₀ l a x, edges-turned s g₁ l b y) at
              (searched-least (turned g₀) (turned g₁) turned₀ turned₁ (linked-in d) (labelled-in d) k l x y i e))
              (λ d. rw (edges-undirected s g₀ l x a d, edges-undirected s g₁ l y b (sound.same_kind ∙ d)) (out l x y i e));
        }

  -- along an accepted path
  accepts-is : (x : ℕ) (path : List ℕ) → accepted_path t (x ∷ path) ≡ true
      → acceptable t (pairs_of t path) x (node_of (candidate_at t path)) ≡ true
  unfolding accepts
  accepts-is x path e = (path-last t x path e).2

  none-carries : (g h : Graph) → Carries s g h []
  none-carries g h l x y p q e f = none-not-some (sym (partner-nil x) ∙ e)

  carries₁ : (path : List ℕ) → accepted_path t path ≡ true → Carries s g₁ g₀ (exchanged (pairs_of t path))
  carries₁ [] e = rw (pairs-nil t) (none-carries g₁ g₀)
  carries₁ (x ∷ path) e =
      rw (pairs-cons t x path)
      (carries-more s g₁ g₀ (exchanged (pairs_of t path)) (node_of (candidate_at t path)) x
      (rw (pairs-cons t x path) at (partners-distinct t (x ∷ path) e))
      (new₁ (pairs_of t path) x (node_of (candidate_at t path)) (accepts-is x path e)) (carries₁ path (path-last t x path e).0))

  carries₀ : s.induced ≡ true → (path : List ℕ) → accepted_path t path ≡ true → Carries s g₀ g₁ (pairs_of t path)
  carries₀ k [] e = rw (pairs-nil t) (none-carries g₀ g₁)
  carries₀ k (x ∷ path) e =
      rw (pairs-cons t x path)
      (carries-more s g₀ g₁ (pairs_of t path) x (node_of (candidate_at t path)) (rw (pairs-cons t x path) at (path-distinct t (x ∷ path) e))
      (new₀ (pairs_of t path) x (node_of (candidate_at t path)) (accepts-is x path e) k) (carries₀ k path (path-last t x path e).0))

  abbrev Named : ℕ → ℕ → Type 0
  Named x y = s.node_labels ≡ true → get_or g₀.labels x 0 ≡ get_or g₁.labels y 0

  names : (path : List ℕ) → accepted_path t path ≡ true → Along Named (pairs_of t path)
  names [] e = rw (pairs-nil t) tt
  names (x ∷ path) e =
      rw (pairs-cons t x path)
      (labels-alike (pairs_of t path) x (node_of (candidate_at t path)) (accepts-is x path e), names path (path-last t x path e).0)

  -- on a whole path every node has an image
  module _ (path : List ℕ) (accepted : accepted_path t path ≡ true) (is_whole : whole t path ≡ true) where
    pub image : (w : ℕ) → w < nodes g₁ → partner (exchanged (pairs_of t path)) w ≡ some (image_in t path w)
    image w l =
        let us = mapped (exchanged (pairs_of t path)) in
        mapped-partner (exchanged (pairs_of t path)) w
        (distinct-all (nodes g₁) us (partners-distinct t path accepted) (exchanged-length t path ∙ eqb-true (length path) (nodes g₁) is_whole) w l)
        (λ y h. h ∙ rw h)

    image-back : (w : ℕ) → w < nodes g₁ → partner (pairs_of t path) (image_in t path w) ≡ some w
    image-back w l =
        let d : Distinct (nodes g₀) (mapped (exchanged (exchanged (pairs_of t path)))) =
        rw (exchanged-twice (pairs_of t path)) (path-distinct t path accepted) in
        rw (exchanged-twice (pairs_of t path)) at (partner-back (nodes g₀) (exchanged (pairs_of t path)) d w (image_in t path w) (image w l))

    pub path-places : Places t (image_in t path)
    path-places =
        let least : (a b l : ℕ) → a < nodes g₁ → b < nodes g₁ → edges_of s g₁ l a b ≤ edges_of s g₀ l (image_in t path a) (image_in t path b) =
        λ a b l i j. carries₁ path accepted l a b (image_in t path a) (image_in t path b) (image a i) (image b j) in
        record {
          within = λ a i.
              distinct-below (nodes g₀) (mapped (pairs_of t path)) (path-distinct t path accepted) (image_in t path a)
              (partner-mapped (pairs_of t path) (image_in t path a) a (image-back a i));
          apart = λ a b i j e. let p = image-back a i in let q = image-back b j in cc;
          labels_agree = λ c a i. partner-along Named (pairs_of t path) (names path accepted) (image_in t path a) a (image-back a i) c;
          at_least = least;
          equal = λ k a b l i j.
              le_antisymm (least a b l i j)
              (carries₀ k path accepted l (image_in t path a) (image_in t path b) a b (image-back a i) (image-back b j));
        }
