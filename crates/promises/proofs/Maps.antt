-- Each map handed out is a placement: the path behind it shows a placement of ids, and the bytes show the path's map.
use Prim.Native.Nat.{ℕ, ◌*◌, ◌≤◌, ◌<◌}
use mathlib.Core.Bool.{true}
use mathlib.Core.List.{List, map}
use mathlib.Core.Path.{◌≡◌, sym, ◌∙◌, ap}
use native.Mathlib.Omega.{arith}
use lib.ListN.{length}
use Rattle.basics.proofs.Tests.{case, and_right}
use Rattle.packed.specs.Graph.{Graph, nodes}
use Rattle.packed.specs.Packed.{node_count, graph_of}
use Rattle.settings.specs.Settings.{Settings, settings_of}
use Rattle.packed.proofs.Accepted.{nodes-of-graph}
use Rattle.order.specs.Order.{node_order}
use Rattle.order.specs.Paper.{written}
use Rattle.order.proofs.Once.{order-member, order-holds-each-once}
use Rattle.rules.specs.Task.{counts_agree, graphs_agree}
use Rattle.rules.specs.Search.{Found, None, continue}
use Rattle.rules.specs.Handed.{Handed, record_of, zero_beyond}
use Rattle.rules.specs.Calls.{filled, went, continue_says}
use Rattle.rules.specs.Placement.{Placement}
use Rattle.placements.specs.Claims.{id_image, ListingOfIds}
use Rattle.placements.proofs.Renumbered.{renumbered-placements}
use Rattle.placements.proofs.Listing.{no_map}
use Rattle.placements.proofs.Ids.{listing-of-ids}
use Rattle.promises.specs.Sessions.{map_in, image}
use Rattle.promises.specs.Promises.{CountsAgree, Places, IsPlacement, EveryMapIsAPlacement}
use Rattle.promises.proofs.Files.{NotRefused, not_refused, of-one-kind}
use Rattle.promises.proofs.Bytes.{showing, image-at, seconds, written-rest, written-length}
use Rattle.promises.proofs.Continued.{t, map_bytes, map_of_path, map-bytes, map-read-off, went-goes, went-parts}

-- a placement is what it does to graph 1's nodes
pub placement-same : (s : Settings) (g₀ g₁ : Graph) (φ ψ : ℕ → ℕ) → ((v : ℕ) → v < nodes g₁ → φ v ≡ ψ v)
    → Placement s g₀ g₁ φ → Placement s g₀ g₁ ψ
placement-same s g₀ g₁ φ ψ h p =
    record {
      within = λ a l. rw (← h a l) (p.within a l);
      apart = λ a b l m e. p.apart a b l m (h a l ∙ e ∙ sym (h b m));
      labels_agree = λ c a l. rw (← h a l) (p.labels_agree c a l);
      at_least = λ a b label l m. rw (← h a l, ← h b m) (p.at_least a b label l m);
      equal = λ c a b label l m. rw (← h a l, ← h b m) (p.equal c a b label l m);
    }

module _ (f₀ f₁ s : List ℕ) where
  abbrev g₀ : Graph
  g₀ = graph_of f₀

  abbrev g₁ : Graph
  g₁ = graph_of f₁

  abbrev order₁ : List ℕ
  order₁ = node_order (settings_of s).vf2pp g₁

  pub counts-of-task : NotRefused f₀ f₁ s → counts_agree (t f₀ f₁ s) ≡ graphs_agree (settings_of s) g₀ g₁
  counts-of-task n = (renumbered-placements (settings_of s) g₀ g₁ (of-one-kind f₀ f₁ s n)).counts

  pub listing-ids : NotRefused f₀ f₁ s → CountsAgree f₀ f₁ s → ListingOfIds (settings_of s) g₀ g₁
  listing-ids n agreed = listing-of-ids (settings_of s) g₀ g₁ (of-one-kind f₀ f₁ s n) agreed

  module _ (n : NotRefused f₀ f₁ s) (agreed : CountsAgree f₀ f₁ s) where
    pub path-shows : (path : List ℕ) → map_of_path f₀ f₁ s path ≡ showing (id_image (settings_of s) g₀ g₁ path) order₁
    path-shows path = (listing-ids n agreed).pairs path

    pub path-image : (path : List ℕ) (v : ℕ) → v < nodes g₁ → image (map_of_path f₀ f₁ s path) v ≡ id_image (settings_of s) g₀ g₁ path v
    path-image path v l =
        rw (path-shows path) (image-at (id_image (settings_of s) g₀ g₁ path) order₁ v (order-member (settings_of s).vf2pp g₁ v l))

    pub path-placement : (path : List ℕ) → Places f₀ f₁ s (id_image (settings_of s) g₀ g₁ path) → IsPlacement f₀ f₁ s (map_of_path f₀ f₁ s path)
    path-placement path p =
        let ordered : map (λ p. p.1) (map_of_path f₀ f₁ s path) ≡ order₁ =
        ap (map (λ p. p.1)) (path-shows path) ∙ seconds (id_image (settings_of s) g₀ g₁ path) order₁ in
        record {
          places = placement-same (settings_of s) g₀ g₁ _ _ (λ v l. sym (path-image path v l)) p;
          in_order = ordered;
          each_once = λ v l. rw ordered ((order-holds-each-once (settings_of s).vf2pp g₁).1 v (omega (arith, nodes-of-graph f₁)));
        }

  none_found : None ≡ Found → ⊥
  none_found e = let z : ◌≡◌ {A = ℕ} 0 1 = cc in omega arith

  -- what a call that finds a map had before it, and what it leaves
  pub record Found' (buffer buffer' : List ℕ) : Type 0 where
    pub not_refused' : NotRefused f₀ f₁ s
    pub agreed : CountsAgree f₀ f₁ s
    pub long : 2 * node_count f₁ ≤ length buffer
    pub path : List ℕ
    pub filled_with : buffer' ≡ written (map_bytes f₀ f₁ s path) buffer
    pub places : Places f₀ f₁ s (id_image (settings_of s) g₀ g₁ path)

  pub found : (h h' : Handed) (budget steps : ℕ) (buffer buffer' : List ℕ)
      → continue_says f₀ f₁ s h budget buffer ≡ went Found steps h' buffer' → Found' buffer buffer'
  found h h' budget steps buffer buffer' e =
      let goes = went-goes f₀ f₁ s h budget buffer Found steps h' buffer' e in
      let w = continue (t f₀ f₁ s) budget (record_of h) in
      let parts = went-parts _ _ _ _ _ _ _ _ goes.1 in
      let is_found : w.answer ≡ Found = parts.0 in
      let n = not_refused f₀ f₁ s goes.0.no_line in
      let agreed : counts_agree (t f₀ f₁ s) ≡ true =
      case (counts_agree (t f₀ f₁ s)) (λ a. a)
      (λ a. absurd (none_found (sym (ap (λ w. w.answer) (no_map (t f₀ f₁ s) a budget (record_of h))) ∙ is_found))) in
      let ids-agree : CountsAgree f₀ f₁ s = sym (counts-of-task n) ∙ agreed in
      record {
        not_refused' = n;
        agreed = ids-agree;
        long = goes.0.long;
        path = w.record'.path;
        filled_with = sym parts.3 ∙ ap (λ a. filled (settings_of s) g₀ g₁ a w.record'.path buffer) is_found;
        places =
            (listing-ids n ids-agree).found_places budget (record_of h)
            (and_right (zero_beyond h.depth h.path) _ goes.0.record_accepted) is_found;
      }

  module _ (buffer buffer' : List ℕ) (f : Found' buffer buffer') where
    pub found_map : map_in (node_count f₁) buffer' ≡ map_of_path f₀ f₁ s f.path
    found_map = rw f.filled_with (map-read-off f₀ f₁ s f.path buffer)

    pub found-placement : IsPlacement f₀ f₁ s (map_in (node_count f₁) buffer')
    found-placement = rw found_map (path-placement f.not_refused' f.agreed f.path f.places)

pub every-map-is-a-placement : EveryMapIsAPlacement
every-map-is-a-placement f₀ f₁ s h h' budget steps buffer buffer' e =
    let f = found f₀ f₁ s h h' budget steps buffer buffer' e in
    let bytes = map_bytes f₀ f₁ s f.path in
    let size = map-bytes f₀ f₁ s f.path in (
      found-placement f₀ f₁ s buffer buffer' f,
      rw f.filled_with (written-length bytes buffer (omega (arith, f.long))),
      rw (f.filled_with, ← size) (written-rest bytes buffer),
    )
