-- Whatever is a placement of two files that are not refused and whose counts agree is listed once: chains, the identity, reverses.
use Prim.Native.Nat.{ℕ}
use mathlib.Core.Bool.{false}
use mathlib.Core.List.{List, map}
use mathlib.Core.Path.{◌≡◌, refl, sym, ◌∙◌, ap, subst}
use Rattle.packed.specs.Graph.{Graph, nodes}
use Rattle.packed.specs.Packed.{graph_of}
use Rattle.settings.specs.Settings.{settings_of, settings_lines}
use Rattle.packed.proofs.First.{none-of-cons}
use Rattle.order.specs.Order.{node_order}
use Rattle.order.proofs.Once.{order-member, order-distinct}
use Rattle.basics.proofs.Distinct.{distinct-below}
use Rattle.rules.specs.Task.{exchange}
use Rattle.rules.specs.Search.{started}
use Rattle.rules.specs.Handed.{handed}
use Rattle.rules.specs.Calls.{or_begun}
use Rattle.placements.specs.Claims.{reverse, id_image}
use Rattle.placements.proofs.Symmetries.{identity, chained, counts-chained, reversed}
use Rattle.placements.proofs.Ids.{counts-own, counts-back}
use Rattle.promises.specs.Sessions.{Map, image}
use Rattle.promises.specs.Promises.{ListingMade, all_of, Begins, CountsAgree, Places, Finds, IsPlacement, maps_of_rules, ListedOnce, ChainedPlacements, IdentityAndReverse}
use Rattle.promises.proofs.Files.{NotRefused, no_line, of-one-kind, file-either}
use Rattle.promises.proofs.Bytes.{image-back}
use Rattle.promises.proofs.Continued.{map_of_path}
use Rattle.promises.proofs.Maps.{placement-same, path-shows, Found', found, found_map, found-placement}
use Rattle.promises.proofs.Listing.{begun-free, from_start, none-there, holds-every-placement}

module _ (f₀ f₁ s : List ℕ) where
  -- with a limit or without, calls that came to None have handed out the whole listing
  pub listing_made : CountsAgree f₀ f₁ s → (l : ListingMade f₀ f₁ s) → (all_of f₀ f₁ s l).maps ≡ maps_of_rules f₀ f₁ s
  listing_made agreed l =
      ap (λ z. z.maps) (from_start f₀ f₁ s l.first_record l.begins l.budgets l.buffer l.long_enough)
      ∙ ap (map (map_of_path f₀ f₁ s))
      (none-there f₀ f₁ s l.first_record l.begins agreed l.budgets l.buffer l.long_enough l.ended).0

  start-begins : NotRefused f₀ f₁ s → Begins f₀ f₁ s (handed started)
  start-begins n = ap or_begun (no_line f₀ f₁ s n)

  pub listed_once : NotRefused f₀ f₁ s → CountsAgree f₀ f₁ s → (φ : ℕ → ℕ) → Places f₀ f₁ s φ → ListedOnce f₀ f₁ s φ
  listed_once n agreed φ p =
      let once = (holds-every-placement f₀ f₁ s n agreed).each_once φ p in
      record {
        not_refused = start-begins n;
        counts_agree = agreed;
        by_the_rules = once;
        by_the_calls = λ l. rw (listing_made agreed l) once;
      }

  -- what a call that finds a map says of it
  module _ (m : Map) (f : Finds f₀ f₁ s m) where
    pub behind : Found' f₀ f₁ s f.buffer₀ f.buffer₁
    behind = found f₀ f₁ s f.record₀ f.record₁ f.budget f.steps f.buffer₀ f.buffer₁ f.says

    pub finds-placement : IsPlacement f₀ f₁ s m
    finds-placement = rw f.is (found-placement f₀ f₁ s f.buffer₀ f.buffer₁ behind)

    pub finds-path : m ≡ map_of_path f₀ f₁ s behind.path
    finds-path = f.is ∙ found_map f₀ f₁ s f.buffer₀ f.buffer₁ behind

-- three files, by two pairs of them
chained-files : (f₀ f₁ f₂ s : List ℕ) → NotRefused f₀ f₁ s → NotRefused f₁ f₂ s → NotRefused f₀ f₂ s
chained-files f₀ f₁ f₂ s n m =
    record {
      no_line₀ = n.no_line₀;
      no_line₁ = m.no_line₁;
      kinds = n.kinds ∙ m.kinds;
      settings_good = m.settings_good;
    }

pub chained-placements : ChainedPlacements
chained-placements =
    record {
      not_refused = λ f₀ f₁ f₂ s h h' b b'.
          start-begins f₀ f₂ s (chained-files f₀ f₁ f₂ s (begun-free f₀ f₁ s h' b') (begun-free f₁ f₂ s h b));
      counts_agree = λ f₀ f₁ f₂ s a b. counts-chained (settings_of s) (graph_of f₀) (graph_of f₁) (graph_of f₂) b a;
      listed_once = λ f₀ f₁ f₂ s inner outer e f.
          let i = behind f₁ f₂ s inner e in
          let o = behind f₀ f₁ s outer f in
          listed_once f₀ f₂ s (chained-files f₀ f₁ f₂ s o.not_refused' i.not_refused')
          (counts-chained (settings_of s) (graph_of f₀) (graph_of f₁) (graph_of f₂) o.agreed i.agreed)
          (λ v. image outer (image inner v))
          (chained (settings_of s) (graph_of f₀) (graph_of f₁) (graph_of f₂) (image outer) (image inner)
          (finds-placement f₀ f₁ s outer f).places (finds-placement f₁ f₂ s inner e).places);
    }

exchanged-files : (f₀ f₁ s : List ℕ) → NotRefused f₀ f₁ s → NotRefused f₁ f₀ s
exchanged-files f₀ f₁ s n =
    record {
      no_line₀ = file-either 1 0 f₁ n.no_line₁;
      no_line₁ = file-either 0 1 f₀ n.no_line₀;
      kinds = sym n.kinds;
      settings_good = n.settings_good;
    }

-- the pairs of a map exchanged are the map turned round
module _ (f₀ f₁ s : List ℕ) (n : NotRefused f₀ f₁ s) (agreed : CountsAgree f₀ f₁ s) (equal : (settings_of s).greater ≡ false) (path : List ℕ) where
  abbrev g₀ : Graph
  g₀ = graph_of f₀

  abbrev g₁ : Graph
  g₁ = graph_of f₁

  abbrev φ : ℕ → ℕ
  φ = id_image (settings_of s) g₀ g₁ path

  abbrev order₁ : List ℕ
  order₁ = node_order (settings_of s).vf2pp g₁

  exchanged-places : Places f₀ f₁ s φ → Places f₁ f₀ s (image (map exchange (map_of_path f₀ f₁ s path)))
  exchanged-places p =
      let r = reversed (settings_of s) g₀ g₁ φ equal (of-one-kind f₀ f₁ s n) agreed p in
      placement-same (settings_of s) g₁ g₀ (reverse (nodes g₁) φ) (image (map exchange (map_of_path f₀ f₁ s path)))
      (λ a l.
      let w = reverse (nodes g₁) φ a in
      sym
      (ap (λ m. image (map exchange m) a) (path-shows f₀ f₁ s n agreed path)
      ∙ image-back φ order₁ w a (order-member (settings_of s).vf2pp g₁ w (r.is_placement.within a l)) (r.there_and_back a l)
      (λ v k m.
      sym (r.back_and_there v (distinct-below (nodes g₁) order₁ (order-distinct (settings_of s).vf2pp g₁) v m))
      ∙ ap (reverse (nodes g₁) φ) k)))
      r.is_placement

pub identity-and-reverse : IdentityAndReverse
unfolding settings_lines
identity-and-reverse =
    record {
      identity = λ f s e g.
          listed_once f f s
          (record { no_line₀ = e; no_line₁ = file-either 0 1 f e; kinds = refl; settings_good = (none-of-cons 8 0 _ _ g).0 })
          (counts-own (settings_of s) (graph_of f)) (λ v. v) (identity (settings_of s) (graph_of f));
      reverse = λ f₀ f₁ s m equal e.
          let f = behind f₀ f₁ s m e in
          subst (λ m. ListedOnce f₁ f₀ s (image (map exchange m))) (sym (finds-path f₀ f₁ s m e))
          (listed_once f₁ f₀ s (exchanged-files f₀ f₁ s f.not_refused')
          (counts-back (settings_of s) (graph_of f₀) (graph_of f₁) equal f.agreed)
          (image (map exchange (map_of_path f₀ f₁ s f.path)))
          (exchanged-places f₀ f₁ s f.not_refused' f.agreed equal f.path f.places));
    }
