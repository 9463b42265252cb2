-- The listing over ids: a path shows a placement of ids exactly where it shows the placement of positions that belongs to it, and so
-- every placement of ids is listed once; the identity, chains and reverses are.
use Prim.Native.Nat.{ℕ, zero, suc, ◌<◌}
use native.Mathlib.Nat.{le_refl}
use mathlib.Core.Bool.{Bool, true, false}
use mathlib.Core.List.{List, [], ◌∷◌, map, map-map}
use mathlib.Core.Path.{◌≡◌, refl, sym, ◌∙◌, ap}
use native.Mathlib.Omega.{arith}
use lib.Dec.{eqb}
use lib.ListN.{length, get_or}
use borrow.Author.Tests.{eqb-true, eq-eqb, le-leb}
use Rattle.basics.specs.Lists.{from, place}
use Rattle.basics.proofs.Tests.{never, and_intro, and_left, and_right, by-iff}
use Rattle.basics.proofs.Laws.{from-none, from_suc, map-from-same}
use Rattle.packed.specs.Graph.{Graph, nodes}
use Rattle.settings.specs.Settings.{Settings}
use Rattle.order.specs.Order.{node_order}
use Rattle.order.proofs.Once.{order-holds-each-once}
use Rattle.order.proofs.Renumbered.{order-keeps-nodes}
use Rattle.rules.specs.Task.{Task, task_of, agree, graphs_agree}
use Rattle.rules.specs.Placement.{Placement}
use Rattle.rules.specs.Search.{map_of, continue, map_of_ids}
use Rattle.placements.specs.Listed.{whole, listed}
use Rattle.placements.specs.Claims.{OfOneKind, reverse, on_positions, image_in, Places, MapShows, shows, id_image, shows_ids, ListingOfIds, SymmetriesListed}
use Rattle.placements.proofs.Tests.{all-intro, all-elim}
use Rattle.placements.proofs.Symmetries.{identity, chained, counts-chained, reversed}
use Rattle.placements.proofs.Renumbered.{Alike, alike₀, alike₁, renumbered-placements}
use Rattle.placements.proofs.Accepted.{every-map-places}
use Rattle.placements.proofs.Once.{count-each, listed_once}
use Rattle.placements.proofs.Listing.{all_placed, each_map}

pub map-shows : (t : Task) → MapShows t
unfolding map_of
map-shows t path = refl

-- f at a list's elements is f at what stands at its places
shifted : {A : Type 0} (f : ℕ → A) (k i : ℕ) → map (λ j. f (suc j)) (from i k) ≡ map f (from (suc i) k)
shifted f zero i = rw (from-none i, from-none (suc i))
shifted f (suc k) i = rw (from_suc i k, from_suc (suc i) k) (ap (λ l. f (suc i) ∷ l) (shifted f k (suc i)))

map-places : {A : Type 0} (f : ℕ → A) (l : List ℕ) → map (λ i. f (get_or l i 0)) (from 0 (length l)) ≡ map f l
map-places f [] = rw (from-none 0)
map-places f (x ∷ l) =
    rw (from_suc 0 (length l)) (ap (λ r. f x ∷ r) (sym (shifted (λ i. f (get_or (x ∷ l) i 0)) (length l) 0) ∙ map-places f l))

module _ (s : Settings) (g₀ g₁ : Graph) (files : OfOneKind g₀ g₁) where
  abbrev t : Task
  t = task_of s g₀ g₁

  abbrev order₀ : List ℕ
  order₀ = node_order s.vf2pp g₀

  abbrev order₁ : List ℕ
  order₁ = node_order s.vf2pp g₁

  ways₀ : Alike s g₀ t.graph₀ (λ v. place v order₀) (λ w. get_or order₀ w 0)
  unfolding task_of
  ways₀ = alike₀ s g₀ g₁ files

  ways₁ : Alike s g₁ t.graph₁ (λ v. place v order₁) (λ w. get_or order₁ w 0)
  unfolding task_of
  ways₁ = alike₁ s g₀ g₁ files

  same_size : nodes t.graph₁ ≡ nodes g₁
  unfolding task_of
  same_size = order-keeps-nodes s.vf2pp g₁

  pairs-show : (path : List ℕ) → map_of_ids s g₀ g₁ path ≡ map (λ v. (id_image s g₀ g₁ path v, v)) order₁
  pairs-show path =
      let pair : ℕ → ℕ × ℕ = λ v. (id_image s g₀ g₁ path v, v) in
      let long : length order₁ ≡ nodes t.graph₁ = (order-holds-each-once s.vf2pp g₁).0 ∙ sym same_size in
      rw (map-shows t path)
      (map-map (λ p. (get_or order₀ p.0 0, get_or order₁ p.1 0)) (λ w. (image_in t path w, w)) (from 0 (nodes t.graph₁))
      ∙ map-from-same (λ w. (get_or order₀ (image_in t path w) 0, get_or order₁ w 0)) (λ w. pair (get_or order₁ w 0)) (nodes t.graph₁)
      (λ w l. ap (λ z. (get_or order₀ (image_in t path z) 0, get_or order₁ w 0)) (sym (ways₁.to_back w l)))
      ∙ (rw long at (map-places pair order₁)))

  -- a path that shows ψ at positions shows φ at ids where ψ belongs to φ
  module _ (φ : ℕ → ℕ) (p : Placement s g₀ g₁ φ) (path : List ℕ) (q : Places t (image_in t path)) where
    ids-where : shows t (on_positions s g₀ g₁ φ) path ≡ true → shows_ids s g₀ g₁ φ path ≡ true
    ids-where e =
        all-intro (λ v. eqb (id_image s g₀ g₁ path v) (φ v)) (nodes g₁) 0
        (λ v h l.
        let i : v < nodes g₁ = omega arith in
        let w = place v order₁ in
        let here =
        eqb-true (image_in t path w) (on_positions s g₀ g₁ φ w)
        (all-elim (λ w. eqb (image_in t path w) (on_positions s g₀ g₁ φ w)) (nodes t.graph₁) 0 e w (omega arith)
        (omega (arith, ways₁.to_below v i))) in
        eq-eqb (id_image s g₀ g₁ path v) (φ v)
        (ap (λ x. get_or order₀ x 0) (here ∙ ap (λ x. place (φ x) order₀) (ways₁.back_to v i)) ∙ ways₀.back_to (φ v) (p.within v i)))

    where-ids : shows_ids s g₀ g₁ φ path ≡ true → shows t (on_positions s g₀ g₁ φ) path ≡ true
    where-ids e =
        all-intro (λ w. eqb (image_in t path w) (on_positions s g₀ g₁ φ w)) (nodes t.graph₁) 0
        (λ w h l.
        let i : w < nodes t.graph₁ = omega arith in
        let v = get_or order₁ w 0 in
        let here =
        eqb-true (id_image s g₀ g₁ path v) (φ v)
        (all-elim (λ v. eqb (id_image s g₀ g₁ path v) (φ v)) (nodes g₁) 0 e v (omega arith) (omega (arith, ways₁.back_below w i))) in
        let place_is : get_or order₀ (image_in t path w) 0 ≡ φ v =
        ap (λ x. get_or order₀ (image_in t path x) 0) (sym (ways₁.to_back w i)) ∙ here in
        eq-eqb (image_in t path w) (on_positions s g₀ g₁ φ w)
        (sym (ways₀.to_back (image_in t path w) (q.within w i)) ∙ ap (λ x. place x order₀) place_is))

  module _ (agreed : graphs_agree s g₀ g₁ ≡ true) where
    pub listing-of-ids : ListingOfIds s g₀ g₁
    unfolding task_of
    listing-of-ids =
        let k = renumbered-placements s g₀ g₁ files in
        record {
          pairs = pairs-show;
          all_place =
              each_map (λ path. (whole t path ≡ true) × Places t (image_in t path)) (λ path. Placement s g₀ g₁ (id_image s g₀ g₁ path))
              (listed t)
              (λ path m. k.to_ids (image_in t path) m.1) (all_placed t k.sound);
          each_once = λ φ p.
              count-each (λ path. (whole t path ≡ true) × Places t (image_in t path)) (shows_ids s g₀ g₁ φ) (shows t (on_positions s g₀ g₁ φ))
              (listed t) (all_placed t k.sound)
              (λ path m. by-iff (shows_ids s g₀ g₁ φ path) (shows t (on_positions s g₀ g₁ φ) path) (where-ids φ p path m.1)
              (ids-where φ p path m.1))
              ∙ listed_once t (on_positions s g₀ g₁ φ) k.sound (k.counts ∙ agreed) (k.to_positions φ p);
          found_places = λ b r e f. k.to_ids (image_in t (continue t b r).record'.path) (every-map-places t k.sound b r e f);
        }

agree-own : (greater : Bool) (x : ℕ) → agree greater x x ≡ true
agree-own true x = le-leb x x (le_refl x)
agree-own false x = eq-eqb x x refl

agree-back : (greater : Bool) (x y : ℕ) → greater ≡ false → agree greater x y ≡ true → agree greater y x ≡ true
agree-back true x y e h = never true refl e
agree-back false x y e h = eq-eqb y x (sym (eqb-true x y h))

pub counts-back : (s : Settings) (g₀ g₁ : Graph) → s.greater ≡ false → graphs_agree s g₀ g₁ ≡ true → graphs_agree s g₁ g₀ ≡ true
counts-back s g₀ g₁ e h =
    let here = agree s.greater (nodes g₀) (nodes g₁) in
    let there = agree s.greater (length g₀.edges) (length g₁.edges) in
    and_intro (agree-back s.greater (nodes g₀) (nodes g₁) e (and_left here there h))
    (agree-back s.greater (length g₀.edges) (length g₁.edges) e (and_right here there h))

pub counts-own : (s : Settings) (g : Graph) → graphs_agree s g g ≡ true
counts-own s g = and_intro (agree-own s.greater (nodes g)) (agree-own s.greater (length g.edges))

pub symmetries-listed : (s : Settings) → SymmetriesListed s
symmetries-listed s =
    record {
      identity_listed = λ g file.
          (listing-of-ids s g g (record { accepted₀ = file; accepted₁ = file; same_kind = refl })
          (counts-own s g)
          ).each_once (λ a. a) (identity s g);
      chain_listed = λ g₀ g₁ g₂ φ ψ f h a b p q.
          (listing-of-ids s g₀ g₂ (record { accepted₀ = f.accepted₀; accepted₁ = h.accepted₁; same_kind = h.same_kind ∙ f.same_kind })
          (counts-chained s g₀ g₁ g₂ a b)
          ).each_once (λ a. φ (ψ a)) (chained s g₀ g₁ g₂ φ ψ p q);
      reverse_listed = λ g₀ g₁ φ e f a p.
          (listing-of-ids s g₁ g₀ (record { accepted₀ = f.accepted₁; accepted₁ = f.accepted₀; same_kind = sym f.same_kind })
          (counts-back s g₀ g₁ e a)
          ).each_once (reverse (nodes g₁) φ) (reversed s g₀ g₁ φ e f a p).is_placement;
    }
