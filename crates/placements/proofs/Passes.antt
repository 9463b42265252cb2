-- Every pair of a placement passes the tests of its turn: along the placement no test finds less in graph 0 than in graph 1, and
-- under Equal it finds as much.
use Prim.Native.Nat.{ℕ, ◌≤◌, ◌<◌}
use native.Mathlib.Nat.{le_of_eq}
use mathlib.Core.Bool.{Bool, true, false, cond, not}
use mathlib.Core.List.{List, ◌∷◌}
use mathlib.Core.Option.{some}
use mathlib.Core.Path.{◌≡◌, refl, sym, ◌∙◌}
use native.Mathlib.Omega.{arith}
use lib.ListN.{get_or}
use borrow.Author.Tests.{eq-eqb, le-leb, not-true}
use Rattle.basics.specs.Lists.{from, count, member}
use Rattle.basics.proofs.Tests.{case, never, and_intro, and_left, and_right, false-by, by-iff}
use Rattle.basics.proofs.Laws.{count-all}
use Rattle.packed.specs.Graph.{Graph, nodes}
use Rattle.graph.specs.Walk.{between, walk, turned}
use Rattle.graph.proofs.Walk.{walk-count}
use Rattle.rules.specs.Task.{Task, agree, counts_agree, Pairs, exchanged, mapped, partner}
use Rattle.rules.specs.Marks.{follows, first_mark, second_mark, OpenList, Out, In, Other, in_list}
use Rattle.rules.specs.Acceptable.{implies, is_new, linked, labelled, ahead, same_label, each_way, feasible, acceptable}
use Rattle.rules.specs.Placement.{Placement}
use Rattle.rules.proofs.Laws.{exchanged-twice}
use Rattle.placements.specs.Claims.{Sound}
use Rattle.placements.proofs.Sums.{sum, sum_same, Into, Apart, sum-into, sum-onto, count-sum}
use Rattle.placements.proofs.Kept.{Keeps, keeps, keeps-turned, equal-nodes}
use Rattle.placements.proofs.Tests.{covers-intro, matches-intro}
use Rattle.placements.proofs.Along.{Flipped, Along, along-exchanged, partner-along, Single, member-along, follows-along}

pub agree-intro : (greater : Bool) (x y : ℕ) → (greater ≡ true → y ≤ x) → (greater ≡ false → x ≡ y) → agree greater x y ≡ true
agree-intro true x y h k = le-leb y x (h refl)
agree-intro false x y h k = eq-eqb x y (k refl)

pub implies-intro : (a b : Bool) → (a ≡ true → b ≡ true) → implies a b ≡ true
implies-intro true b h = h refl
implies-intro false b h = refl

not_carried : (a b : Bool) → (b ≡ true → a ≡ true) → not a ≡ true → not b ≡ true
not_carried a b f e = rw (false-by b (λ t. never a (f t) (not-true a e)))

-- the image of a graph-1 node stands in graph 0
abbrev pub OnImage : (ℕ → ℕ) → ℕ → ℕ → ℕ → Type 0
OnImage φ n x y = (x ≡ φ y) × (y < n)

module _ (t : Task) (φ : ℕ → ℕ) where
  abbrev g₀ : Graph
  g₀ = t.graph₀

  abbrev g₁ : Graph
  g₁ = t.graph₁

  abbrev greater : Bool
  greater = t.settings.greater

  module _ (into : Into (nodes g₁) (nodes g₀) φ) (apart : Apart (nodes g₁) φ) (same_size : greater ≡ false → nodes g₀ ≡ nodes g₁) where
    -- numbers at the nodes that pass two tests, of which φ carries the first into the second
    sums-agree : (f₀ f₁ : ℕ → ℕ) (p₀ p₁ : ℕ → Bool)
        → ((x : ℕ) → x < nodes g₁ → f₁ x ≤ f₀ (φ x)) → (greater ≡ false → (x : ℕ) → x < nodes g₁ → f₁ x ≡ f₀ (φ x))
        → ((x : ℕ) → x < nodes g₁ → p₁ x ≡ true → p₀ (φ x) ≡ true)
        → (greater ≡ false → (x : ℕ) → x < nodes g₁ → p₀ (φ x) ≡ true → p₁ x ≡ true)
        → agree greater (sum (nodes g₀) (λ y. cond (p₀ y) (f₀ y) 0)) (sum (nodes g₁) (λ x. cond (p₁ x) (f₁ x) 0)) ≡ true
    sums-agree f₀ f₁ p₀ p₁ least equal to back =
        agree-intro greater _ _
        (λ e. sum-into (nodes g₁) (nodes g₀) φ (λ y. cond (p₀ y) (f₀ y) 0) (λ x. cond (p₁ x) (f₁ x) 0) into apart
        (λ x l. case (p₁ x) (λ h. rw (h, to x l h) (least x l)) (λ h. rw h (omega arith))))
        (λ e.
        let n = nodes g₁ in
        let onto : Into n n φ = rw (same_size e) at into in
        rw (same_size e)
        (sym (sum-onto n φ (λ y. cond (p₀ y) (f₀ y) 0) onto apart)
        ∙ sum_same n (λ x. cond (p₀ (φ x)) (f₀ (φ x)) 0) (λ x. cond (p₁ x) (f₁ x) 0)
        (λ x l. rw (by-iff (p₀ (φ x)) (p₁ x) (back e x l) (to x l), equal e x l))))

    -- the entries of two walks
    walks-agree : (h₀ h₁ : Graph) → nodes h₀ ≡ nodes g₀ → nodes h₁ ≡ nodes g₁ → Keeps t.settings φ h₀ h₁ → (b : ℕ) → b < nodes g₁
        → (p₀ p₁ : ℕ → Bool)
        → ((x : ℕ) → x < nodes g₁ → p₁ x ≡ true → p₀ (φ x) ≡ true)
        → (greater ≡ false → (x : ℕ) → x < nodes g₁ → p₀ (φ x) ≡ true → p₁ x ≡ true)
        → agree greater (count p₀ (walk h₀ (φ b))) (count p₁ (walk h₁ b)) ≡ true
    walks-agree h₀ h₁ n₀ n₁ k b l p₀ p₁ to back =
        rw (walk-count (nodes g₀) h₀ (φ b) p₀ (rw n₀ at k.within₀), walk-count (nodes g₁) h₁ b p₁ (rw n₁ at k.within₁))
        (sums-agree (between h₀ (φ b)) (between h₁ b) p₀ p₁
        (λ x i. k.least b x (rw n₁ l) (rw n₁ i)) (λ e x i. k.equal e b x (rw n₁ l) (rw n₁ i)) to back)

    -- all nodes
    nodes-agree : (p₀ p₁ : ℕ → Bool)
        → ((x : ℕ) → x < nodes g₁ → p₁ x ≡ true → p₀ (φ x) ≡ true)
        → (greater ≡ false → (x : ℕ) → x < nodes g₁ → p₀ (φ x) ≡ true → p₁ x ≡ true)
        → agree greater (count p₀ (from 0 (nodes g₀))) (count p₁ (from 0 (nodes g₁))) ≡ true
    nodes-agree p₀ p₁ to back =
        rw (count-sum p₀ (nodes g₀), count-sum p₁ (nodes g₁))
        (sums-agree (λ x. 1) (λ x. 1) p₀ p₁ (λ x l. omega arith) (λ e x l. refl) to back)

    abbrev Image : ℕ → ℕ → Type 0
    Image = OnImage φ (nodes g₁)

    image-single : Single Image
    image-single x y z p q = apart y z p.1 q.1 (sym p.0 ∙ q.0)

    node-single : Single (Flipped Image)
    node-single x y z p q = p.0 ∙ sym q.0

    module _ (same_kind : g₁.directed ≡ g₀.directed) (k : Keeps t.settings φ g₀ g₁) (ps : Pairs) (o : Along Image ps) where
      abbrev us₀ : List ℕ
      us₀ = mapped ps

      abbrev us₁ : List ℕ
      us₁ = mapped (exchanged ps)

      -- every number of edges is kept
      abbrev Exact : Type 0
      Exact = (x y : ℕ) → x < nodes g₁ → y < nodes g₁ → between g₁ x y ≡ between g₀ (φ x) (φ y)

      member-to : (x : ℕ) → x < nodes g₁ → member x us₁ ≡ true → member (φ x) us₀ ≡ true
      member-to x l e =
          rw (exchanged-twice ps) at
          (member-along (Flipped Image) node-single (exchanged ps) (along-exchanged Image ps o) x (φ x) (refl, l) e)

      member_back : (x : ℕ) → x < nodes g₁ → member (φ x) us₀ ≡ true → member x us₁ ≡ true
      member_back x l e = member-along Image image-single ps o (φ x) x (refl, l) e

      pub mapped-alike : (x : ℕ) → x < nodes g₁ → member (φ x) us₀ ≡ member x us₁
      mapped-alike x l = by-iff (member (φ x) us₀) (member x us₁) (member_back x l) (member-to x l)

      -- marks, by numbers of edges that φ carries from graph 1 to graph 0, or back
      follows_to : (edges₀ edges₁ : ℕ → ℕ → ℕ) → ((x y : ℕ) → x < nodes g₁ → y < nodes g₁ → edges₁ x y ≤ edges₀ (φ x) (φ y))
          → (x : ℕ) → x < nodes g₁ → follows edges₁ us₁ x ≡ true → follows edges₀ us₀ (φ x) ≡ true
      follows_to edges₀ edges₁ least x l e =
          rw (exchanged-twice ps)
          at (follows-along (Flipped Image) edges₁ edges₀
          (λ u v y z r q h. rw (r.0, q.0) (omega (arith, least u y r.1 q.1)))
          (exchanged ps) (along-exchanged Image ps o) x (φ x) (refl, l) e)

      follows-back : (edges₀ edges₁ : ℕ → ℕ → ℕ) → ((x y : ℕ) → x < nodes g₁ → y < nodes g₁ → edges₁ x y ≡ edges₀ (φ x) (φ y))
          → (x : ℕ) → x < nodes g₁ → follows edges₀ us₀ (φ x) ≡ true → follows edges₁ us₁ x ≡ true
      follows-back edges₀ edges₁ same x l e =
          follows-along Image edges₀ edges₁
          (λ u v y z r q h. let h' : 0 < edges₀ (φ v) (φ z) = rw (r.0, q.0) at h in omega (arith, same v z r.1 q.1))
          ps o (φ x) x (refl, l) e

      first_to : (x : ℕ) → x < nodes g₁ → first_mark g₁ us₁ x ≡ true → first_mark g₀ us₀ (φ x) ≡ true
      first_to x l e = follows_to (between g₀) (between g₁) k.least x l e

      first_back : Exact → (x : ℕ) → x < nodes g₁ → first_mark g₀ us₀ (φ x) ≡ true → first_mark g₁ us₁ x ≡ true
      first_back exact x l e = follows-back (between g₀) (between g₁) exact x l e

      second-to : (x : ℕ) → x < nodes g₁ → second_mark g₁ us₁ x ≡ true → second_mark g₀ us₀ (φ x) ≡ true
      second-to x l e =
          and_intro (sym same_kind ∙ and_left g₁.directed _ e)
          (follows_to (λ u w. between g₀ w u) (λ u w. between g₁ w u) (λ u w i j. k.least w u j i) x l (and_right g₁.directed _ e))

      second_back : Exact → (x : ℕ) → x < nodes g₁ → second_mark g₀ us₀ (φ x) ≡ true → second_mark g₁ us₁ x ≡ true
      second_back exact x l e =
          and_intro (same_kind ∙ and_left g₀.directed _ e)
          (follows-back (λ u w. between g₀ w u) (λ u w. between g₁ w u) (λ u w i j. exact w u j i) x l (and_right g₀.directed _ e))

      free-to : (x : ℕ) → x < nodes g₁ → not (member x us₁) ≡ true → not (member (φ x) us₀) ≡ true
      free-to x l e = not_carried (member x us₁) (member (φ x) us₀) (member_back x l) e

      free_back : (x : ℕ) → x < nodes g₁ → not (member (φ x) us₀) ≡ true → not (member x us₁) ≡ true
      free_back x l e = not_carried (member (φ x) us₀) (member x us₁) (member-to x l) e

      pub list-to : (list : OpenList) (x : ℕ) → x < nodes g₁ → in_list g₁ us₁ list x ≡ true → in_list g₀ us₀ list (φ x) ≡ true
      list-to Out x l e = and_intro (free-to x l (and_left (not (member x us₁)) _ e)) (first_to x l (and_right (not (member x us₁)) _ e))
      list-to In x l e = and_intro (free-to x l (and_left (not (member x us₁)) _ e)) (second-to x l (and_right (not (member x us₁)) _ e))
      list-to Other x l e = free-to x l e

      list_back : Exact → (list : OpenList) (x : ℕ) → x < nodes g₁ → in_list g₀ us₀ list (φ x) ≡ true → in_list g₁ us₁ list x ≡ true
      list_back exact Out x l e =
          and_intro (free_back x l (and_left (not (member (φ x) us₀)) _ e)) (first_back exact x l (and_right (not (member (φ x) us₀)) _ e))
      list_back exact In x l e =
          and_intro (free_back x l (and_left (not (member (φ x) us₀)) _ e)) (second_back exact x l (and_right (not (member (φ x) us₀)) _ e))
      list_back exact Other x l e = free_back x l e

      new-to : Exact → (x : ℕ) → x < nodes g₁ → is_new g₁ us₁ x ≡ true → is_new g₀ us₀ (φ x) ≡ true
      new-to exact x l e =
          and_intro (not_carried (first_mark g₁ us₁ x) (first_mark g₀ us₀ (φ x)) (first_back exact x l)
          (and_left (not (first_mark g₁ us₁ x)) _ e))
          (not_carried (second_mark g₁ us₁ x) (second_mark g₀ us₀ (φ x)) (second_back exact x l) (and_right (not (first_mark g₁ us₁ x)) _ e))

      new-back : (x : ℕ) → x < nodes g₁ → is_new g₀ us₀ (φ x) ≡ true → is_new g₁ us₁ x ≡ true
      new-back x l e =
          and_intro (not_carried (first_mark g₀ us₀ (φ x)) (first_mark g₁ us₁ x) (first_to x l) (and_left (not (first_mark g₀ us₀ (φ x))) _ e))
          (not_carried (second_mark g₀ us₀ (φ x)) (second_mark g₁ us₁ x) (second-to x l) (and_right (not (first_mark g₀ us₀ (φ x))) _ e))

      -- the pair of b and its image
      module _ (b : ℕ) (l : b < nodes g₁) where
        abbrev a : ℕ
        a = φ b

        with-image : Along Image ((a, b) ∷ ps)
        with-image = ((refl, l), o)

        image₀ : (x y : ℕ) → partner ((a, b) ∷ ps) x ≡ some y → Image x y
        image₀ x y e = partner-along Image ((a, b) ∷ ps) with-image x y e

        image₁ : (x y : ℕ) → partner ((b, a) ∷ exchanged ps) x ≡ some y → Image y x
        image₁ x y e = partner-along (Flipped Image) ((b, a) ∷ exchanged ps) (along-exchanged Image ((a, b) ∷ ps) with-image) x y e

        -- the tests of one direction
        module _ (h₀ h₁ : Graph) (n₀ : nodes h₀ ≡ nodes g₀) (n₁ : nodes h₁ ≡ nodes g₁) (k' : Keeps t.settings φ h₀ h₁) where
          linked-passes : linked t ps a b h₀ h₁ ≡ true
          unfolding linked
          linked-passes =
              and_intro
              (covers-intro (nodes h₁) (between h₁) (between h₀) (partner ((b, a) ∷ exchanged ps)) b a
              (λ x y i e. let r = image₁ x y e in rw r.0 (k'.least b x (rw n₁ l) i)))
              (implies-intro t.settings.induced _
              (λ d. covers-intro (nodes h₀) (between h₀) (between h₁) (partner ((a, b) ∷ ps)) a b
              (λ x y i e. let r = image₀ x y e in rw r.0 (le_of_eq (sym (k'.induced d b y (rw n₁ l) (rw n₁ r.1)))))))

          labelled-passes : labelled t ps a b h₀ h₁ ≡ true
          unfolding labelled
          labelled-passes =
              implies-intro t.settings.edge_labels _
              (λ c. and_intro
              (implies-intro t.settings.induced _
              (λ d. matches-intro h₀ h₁ ps a b k'.within₀
              (λ x z y e f. (image₀ x y e).0 ∙ sym (image₀ z y f).0)
              (λ x y m i e. let r = image₀ x y e in rw r.0 (le_of_eq (sym (k'.label_induced c d m b y (rw n₁ l) (rw n₁ r.1)))))))
              (matches-intro h₁ h₀ (exchanged ps) b a k'.within₁
              (λ x z y e f. image-single y x z (image₁ x y e) (image₁ z y f))
              (λ x y m i e. let r = image₁ x y e in rw r.0 (k'.label_least c m b x (rw n₁ l) i))))

          ahead-passes : ahead t ps a b h₀ h₁ ≡ true
          unfolding ahead
          ahead-passes =
              let same = walks-agree h₀ h₁ n₀ n₁ k' b l in
              and_intro
              (rw (count-all (walk h₀ a), count-all (walk h₁ b)) at (same (λ x. true) (λ x. true) (λ x i e. refl) (λ d x i e. refl)))
              (and_intro (same (in_list g₀ us₀ Out) (in_list g₁ us₁ Out) (list-to Out) (λ d. list_back (k.equal d) Out))
              (and_intro (same (in_list g₀ us₀ In) (in_list g₁ us₁ In) (list-to In) (λ d. list_back (k.equal d) In))
              (implies-intro t.settings.induced _
              (λ d. same (is_new g₀ us₀) (is_new g₁ us₁) (new-to (k.induced d)) (λ c. new-back)))))

        each_side : (test : Graph → Graph → Bool)
            → ((h₀ h₁ : Graph) → nodes h₀ ≡ nodes g₀ → nodes h₁ ≡ nodes g₁ → Keeps t.settings φ h₀ h₁ → test h₀ h₁ ≡ true)
            → each_way t ps a b test ≡ true
        each_side test f =
            and_intro (f g₀ g₁ refl refl k)
            (implies-intro g₀.directed _ (λ d. f (turned g₀) (turned g₁) refl refl (keeps-turned t.settings φ g₀ g₁ k)))

        feasible-passes : (t.settings.node_labels ≡ true → get_or g₀.labels a 0 ≡ get_or g₁.labels b 0) → feasible t ps a b ≡ true
        unfolding feasible same_label
        feasible-passes label =
            and_intro (each_side (linked t ps a b) linked-passes)
            (and_intro (each_side (ahead t ps a b) ahead-passes)
            (and_intro (implies-intro t.settings.node_labels _ (λ c. eq-eqb (get_or g₀.labels a 0) (get_or g₁.labels b 0) (label c)))
            (each_side (labelled t ps a b) labelled-passes)))

-- a pair of a placement is acceptable after pairs of the placement
module _ (t : Task) (φ : ℕ → ℕ) (sound : Sound t) (agreed : counts_agree t ≡ true) (p : Placement t.settings t.graph₀ t.graph₁ φ)
    (ps : Pairs) (o : Along (OnImage φ (nodes t.graph₁)) ps) where
  sizes : t.settings.greater ≡ false → nodes t.graph₀ ≡ nodes t.graph₁
  sizes = equal-nodes t.settings t.graph₀ t.graph₁ agreed

  kept : Keeps t.settings φ t.graph₀ t.graph₁
  kept = keeps t.settings t.graph₀ t.graph₁ φ p sound agreed

  pub placed_alike : (x : ℕ) → x < nodes t.graph₁ → member (φ x) (mapped ps) ≡ member x (mapped (exchanged ps))
  placed_alike = mapped-alike t φ p.within p.apart sizes sound.same_kind kept ps o

  pub placed-in-list : (list : OpenList) (x : ℕ) → x < nodes t.graph₁ → in_list t.graph₁ (mapped (exchanged ps)) list x ≡ true
      → in_list t.graph₀ (mapped ps) list (φ x) ≡ true
  placed-in-list = list-to t φ p.within p.apart sizes sound.same_kind kept ps o

  pub placed-acceptable : (b : ℕ) → b < nodes t.graph₁ → acceptable t ps (φ b) b ≡ true
  unfolding acceptable
  placed-acceptable b l =
      let more : Along (OnImage φ (nodes t.graph₁)) ((φ b, b) ∷ ps) = ((refl, l), o) in
      let all = nodes-agree t φ p.within p.apart sizes in
      and_intro (feasible-passes t φ p.within p.apart sizes sound.same_kind kept ps o b l (λ c. p.labels_agree c b l))
      (and_intro
      (all (first_mark t.graph₀ (φ b ∷ mapped ps)) (first_mark t.graph₁ (b ∷ mapped (exchanged ps)))
      (first_to t φ p.within p.apart sizes sound.same_kind kept ((φ b, b) ∷ ps) more)
      (λ e. first_back t φ p.within p.apart sizes sound.same_kind kept ((φ b, b) ∷ ps) more (kept.equal e)))
      (all (second_mark t.graph₀ (φ b ∷ mapped ps)) (second_mark t.graph₁ (b ∷ mapped (exchanged ps)))
      (second-to t φ p.within p.apart sizes sound.same_kind kept ((φ b, b) ∷ ps) more)
      (λ e. second_back t φ p.within p.apart sizes sound.same_kind kept ((φ b, b) ∷ ps) more (kept.equal e))))
