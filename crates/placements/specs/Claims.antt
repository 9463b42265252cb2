-- What is claimed of placements and of the search for them (document 01, "Placement" and "The search").
use Rattle.std.specs.Prelude.{ℕ, zero, suc, ◌+◌, ◌-◌, ◌*◌, ◌≤◌, ◌<◌, min, Bool, true, false, cond, List, [], ◌∷◌, ◌++◌, map, ◌≡◌, eqb, ltb, length, get_or}
use Rattle.std.proofs.Math.Option.{some}
use Rattle.basics.specs.Lists.{from, count, total, place}
use Rattle.packed.specs.Graph.{Edge, Graph, nodes}
use Rattle.packed.specs.Refusals.{graph, reading}
use Rattle.settings.specs.Settings.{Settings, settings_of, bad_settings}
use Rattle.graph.specs.Within.{Within}
use Rattle.order.specs.Order.{node_order}
use Rattle.rules.specs.Task.{Task, task_of, graphs_agree, counts_agree, exchanged, partner}
use Rattle.rules.specs.Acceptable.{all}
use Rattle.rules.specs.Search.{Record, started, pairs_of, image_of, map_of, map_of_ids, Answer, Found, None, Limit, Paused, continue, accepted_record}
use Rattle.rules.specs.Placement.{Placement}
use Rattle.placements.specs.Listed.{whole, listed, steps_of, accepted_of}
use Rattle.placements.specs.Calls.{Called, calls, unlimited, after, accepted_in, found_in}

-- What two accepted files of one kind ensure

abbrev pub LabelsBelow : ℕ → List Edge → Type 0
LabelsBelow n [] = Unit
LabelsBelow n (e ∷ es) = (e.label < n) × LabelsBelow n es

-- edges name nodes, and a label has 6 bits
pub record AcceptedFile (g : Graph) : Type 0 where
  pub edges_within : Within (nodes g) g.edges
  pub labels_below : LabelsBelow 64 g.edges

pub record OfOneKind (g₀ g₁ : Graph) : Type 0 where
  pub accepted₀ : AcceptedFile g₀
  pub accepted₁ : AcceptedFile g₁
  pub same_kind : g₁.directed ≡ g₀.directed

abbrev pub Sound : Task → Type 0
Sound t = OfOneKind t.graph₀ t.graph₁

-- such files are what is read without a refusal, once the kinds don't differ
abbrev pub FilesEnsure : Type 0
FilesEnsure =
    (bytes₀ bytes₁ : List ℕ)
    (g₀ g₁ : Graph) → reading 0 bytes₀ ≡ graph g₀ → reading 1 bytes₁ ≡ graph g₁ → g₁.directed ≡ g₀.directed → OfOneKind g₀ g₁

-- and settings that are not refused have a limit of at most its maximum, if they have one
abbrev pub SettingsEnsure : Type 0
SettingsEnsure = (bytes : List ℕ) (limit : ℕ) → bad_settings bytes ≡ false → (settings_of bytes).limit ≡ some limit → limit ≤ 4294967294

-- Placements among themselves

abbrev pub Identity : Type 0
Identity = (s : Settings) (g : Graph) → Placement s g g (λ a. a)

abbrev pub Chained : Type 0
Chained =
    (s : Settings) (g₀ g₁ g₂ : Graph) (φ ψ : ℕ → ℕ) → Placement s g₀ g₁ φ → Placement s g₁ g₂ ψ → Placement s g₀ g₂ (λ a. φ (ψ a))

abbrev pub CountsChained : Type 0
CountsChained =
    (s : Settings) (g₀ g₁ g₂ : Graph) → graphs_agree s g₀ g₁ ≡ true → graphs_agree s g₁ g₂ ≡ true → graphs_agree s g₀ g₂ ≡ true

-- under Greater a placement implies that the counts agree: each node and each edge of the block has one of its own on the board
abbrev pub CountsImplied : Type 0
CountsImplied =
    (s : Settings) (g₀ g₁ : Graph) (φ : ℕ → ℕ) → s.greater ≡ true → OfOneKind g₀ g₁ → Placement s g₀ g₁ φ → graphs_agree s g₀ g₁ ≡ true

-- the node that φ sends to a
unfoldable pub reverse : ℕ → (ℕ → ℕ) → ℕ → ℕ
unfolding from place
reverse n φ a = place a (map φ (from 0 n))

-- under Equal a placement can be turned round
pub record Reverse (s : Settings) (g₀ g₁ : Graph) (φ : ℕ → ℕ) : Type 0 where
  pub is_placement : Placement s g₁ g₀ (reverse (nodes g₁) φ)
  pub there_and_back : (a : ℕ) → a < nodes g₀ → φ (reverse (nodes g₁) φ a) ≡ a
  pub back_and_there : (a : ℕ) → a < nodes g₁ → reverse (nodes g₁) φ (φ a) ≡ a

abbrev pub Reversed : Type 0
Reversed =
    (s : Settings) (g₀ g₁ : Graph) (φ : ℕ → ℕ) → s.greater ≡ false → OfOneKind g₀ g₁ → graphs_agree s g₀ g₁ ≡ true
    → Placement s g₀ g₁ φ → Reverse s g₀ g₁ φ

-- Ids and positions: both graphs are renumbered by their own order

module _ (s : Settings) (g₀ g₁ : Graph) where
  -- a map of ids, seen at positions, and back
  abbrev pub on_positions : (ℕ → ℕ) → ℕ → ℕ
  on_positions φ w = place (φ (get_or (node_order s.vf2pp g₁) w 0)) (node_order s.vf2pp g₀)

  abbrev pub on_ids : (ℕ → ℕ) → ℕ → ℕ
  on_ids ψ v = get_or (node_order s.vf2pp g₀) (ψ (place v (node_order s.vf2pp g₁))) 0

  pub record Renumbered : Type 0 where
    pub sound : Sound (task_of s g₀ g₁)
    pub counts : counts_agree (task_of s g₀ g₁) ≡ graphs_agree s g₀ g₁
    pub to_positions : (φ : ℕ → ℕ) → Placement s g₀ g₁ φ → Placement s (task_of s g₀ g₁).graph₀ (task_of s g₀ g₁).graph₁ (on_positions φ)
    pub to_ids : (ψ : ℕ → ℕ) → Placement s (task_of s g₀ g₁).graph₀ (task_of s g₀ g₁).graph₁ ψ → Placement s g₀ g₁ (on_ids ψ)
    -- and nothing is lost on the way
    pub ids_again : (φ : ℕ → ℕ) → Placement s g₀ g₁ φ → (v : ℕ) → v < nodes g₁ → on_ids (on_positions φ) v ≡ φ v
    pub positions_again : (ψ : ℕ → ℕ) → Placement s (task_of s g₀ g₁).graph₀ (task_of s g₀ g₁).graph₁ ψ
        → (w : ℕ) → w < nodes (task_of s g₀ g₁).graph₁ → on_positions (on_ids ψ) w ≡ ψ w

-- The search finds placements

module _ (t : Task) where
  -- the image of a graph-1 position in the map that a path shows
  abbrev pub image_in : List ℕ → ℕ → ℕ
  image_in path w = image_of (partner (exchanged (pairs_of t path)) w)

  abbrev pub Places : (ℕ → ℕ) → Type 0
  Places φ = Placement t.settings t.graph₀ t.graph₁ φ

  -- the pairs that Found hands out, over positions
  abbrev pub MapShows : Type 0
  MapShows = (path : List ℕ) → map_of t path ≡ map (λ w. (image_in path w, w)) (from 0 (nodes t.graph₁))

  -- whatever the limit and the budgets, from an accepted record only accepted ones follow
  pub record AcceptedStays : Type 0 where
    pub at_start : accepted_record t started ≡ true
    pub onward : (budget : ℕ) (r : Record) → accepted_record t r ≡ true → accepted_record t (continue t budget r).record' ≡ true

  -- and each map found is a placement
  abbrev pub EveryMapPlaces : Type 0
  EveryMapPlaces =
      (budget : ℕ) (r : Record) → accepted_record t r ≡ true → (continue t budget r).answer ≡ Found
      → Places (image_in (continue t budget r).record'.path)

-- The listing

-- each element of a list
abbrev pub Each : {A : Type 0} → (A → Type 0) → List A → Type 0
Each P [] = Unit
Each P (x ∷ xs) = P x × Each P xs

-- a path shows φ where all images are equal
abbrev pub shows : Task → (ℕ → ℕ) → List ℕ → Bool
shows t φ path = all (λ w. eqb (image_in t path w) (φ w)) (from 0 (nodes t.graph₁))

-- n!/(n-k)!, the product of k numbers from n downward
unfoldable pub falling : ℕ → ℕ → ℕ
falling n zero = 1
falling n (suc k) = n * falling (n - 1) k

-- the sum of n!/(n-j)! for j from 0 to k
abbrev pub permutations : ℕ → ℕ → ℕ
permutations n k = total (falling n) (from 0 (suc k))

-- what `Listed` defines of a task is the same without a limit
pub record LimitPlaysNoPart (t : Task) : Type 0 where
  pub same_maps : listed (unlimited t) ≡ listed t
  pub same_steps : steps_of (unlimited t) ≡ steps_of t
  pub same_accepted : accepted_of (unlimited t) ≡ accepted_of t

-- where counts don't agree, there is no map
abbrev pub NoMap : Task → Type 0
NoMap t = (budget : ℕ) (r : Record) → continue t budget r ≡ record { answer = None; steps = 0; record' = r }

-- a call makes no more steps than its budget, and pauses only once they are made; the next call goes on as if it had not paused
pub record Budgets (t : Task) : Type 0 where
  pub within : (budget : ℕ) (r : Record) → (continue t budget r).steps ≤ budget
  pub paused_used : (budget : ℕ) (r : Record) → (continue t budget r).answer ≡ Paused → (continue t budget r).steps ≡ budget
  pub goes_on : (budget more : ℕ) (r : Record) → (continue t budget r).answer ≡ Paused
      → ((continue t (budget + more) r).answer ≡ (continue t more (continue t budget r).record').answer)
      × ((continue t (budget + more) r).steps ≡ budget + (continue t more (continue t budget r).record').steps)
      × ((continue t (budget + more) r).record' ≡ (continue t more (continue t budget r).record').record')

-- Calls from Start, whatever the budgets and the limit, by what the search without a limit does in as many steps

abbrev pub called : (t : Task) → List ℕ → Called t
called t budgets = calls t budgets started

pub record FromStart (t : Task) (c : Called t) : Type 0 where
  -- the maps are the first ones of the listing
  pub first_maps : (rest : List (List ℕ)) × (c.maps ++ rest ≡ listed t)
  pub found : c.maps ≡ found_in (unlimited t) c.steps started
  -- the accepted count is the number of pairs accepted
  pub accepted : c.record'.accepted ≡ min (accepted_in (unlimited t) c.steps started) 4294967295
  -- over the limit nothing else changes
  pub path_there : (c.ending ≡ some Limit → ⊥) → c.record'.path ≡ (after (unlimited t) c.steps started).path
  pub top_there : (c.ending ≡ some Limit → ⊥) → c.record'.top ≡ (after (unlimited t) c.steps started).top
  pub steps_most : c.steps ≤ steps_of t
  pub steps_within : c.steps ≤ (nodes t.graph₀ + 2) * permutations (nodes t.graph₀) (nodes t.graph₁)

-- budgets change neither the maps nor their order nor the ending, nor anything else of what all calls together come to
abbrev pub BudgetsAlike : Task → Type 0
BudgetsAlike t =
    (budgets others : List ℕ) (a b : Answer) → (called t budgets).ending ≡ some a → (called t others).ending ≡ some b
    → called t budgets ≡ called t others

abbrev pub AtLeastOne : List ℕ → Type 0
AtLeastOne budgets = Each (λ b. 1 ≤ b) budgets

-- without a limit, where counts agree, the listing is all placements
pub record Listing (t : Task) : Type 0 where
  pub all_place : Each (λ path. (whole t path ≡ true) × Places t (image_in t path)) (listed t)
  pub each_once : (φ : ℕ → ℕ) → Places t φ → count (shows t φ) (listed t) ≡ 1
  pub calls_first : (budgets : List ℕ) → FromStart t (called t budgets)
  pub calls_whole : (budgets : List ℕ) (a : Answer) → (called t budgets).ending ≡ some a
      → (a ≡ None) × ((called t budgets).maps ≡ listed t) × ((called t budgets).steps ≡ steps_of t)
  pub calls_end : (budgets : List ℕ) → AtLeastOne budgets → steps_of t < length budgets → (called t budgets).ending ≡ some None
  pub budgets_alike : BudgetsAlike t
  pub steps_within : steps_of t ≤ (nodes t.graph₀ + 2) * permutations (nodes t.graph₀) (nodes t.graph₁)

-- a limit has at most its maximum
abbrev pub LimitMost : Task → Type 0
LimitMost t = (limit : ℕ) → t.settings.limit ≡ some limit → limit ≤ 4294967294

-- with a limit, the ending is Limit exactly where the search without one accepts more pairs
pub record Limited (t : Task) (limit : ℕ) : Type 0 where
  pub calls_first : (budgets : List ℕ) → FromStart t (called t budgets)
  pub accepted_exact : (budgets : List ℕ) → (called t budgets).record'.accepted ≡ accepted_in (unlimited t) (called t budgets).steps started
  pub ending : (budgets : List ℕ) (a : Answer) → (called t budgets).ending ≡ some a → a ≡ cond (ltb limit (accepted_of t)) Limit None
  pub ended_none : (budgets : List ℕ) → (called t budgets).ending ≡ some None
      → ((called t budgets).maps ≡ listed t) × ((called t budgets).steps ≡ steps_of t)
  -- it ends at the step that accepts one pair more than the limit
  pub ended_limit : (budgets : List ℕ) → (called t budgets).ending ≡ some Limit
      → (s : ℕ) × ((called t budgets).steps ≡ suc s) × (accepted_in (unlimited t) s started ≡ limit) × (accepted_in (unlimited t) (suc s) started ≡ suc limit)
  pub calls_end : (budgets : List ℕ) → AtLeastOne budgets → steps_of t < length budgets
      → (called t budgets).ending ≡ some (cond (ltb limit (accepted_of t)) Limit None)
  pub budgets_alike : BudgetsAlike t

-- The records that are accepted are those that the search passes on its way from Start, the accepted count aside

pub record Records (t : Task) : Type 0 where
  pub passed_accepted : (s : ℕ) → accepted_record t (after (unlimited t) s started) ≡ true
  pub accepted_passed : (r : Record) → accepted_record t r ≡ true
      → (s : ℕ) × (s ≤ steps_of t) × ((after (unlimited t) s started).path ≡ r.path) × ((after (unlimited t) s started).top ≡ r.top)

-- The same over ids

module _ (s : Settings) (g₀ g₁ : Graph) where
  -- the image of a graph-1 id in the map that a path shows
  abbrev pub id_image : List ℕ → ℕ → ℕ
  id_image path = on_ids s g₀ g₁ (image_in (task_of s g₀ g₁) path)

  abbrev pub shows_ids : (ℕ → ℕ) → List ℕ → Bool
  shows_ids φ path = all (λ v. eqb (id_image path v) (φ v)) (from 0 (nodes g₁))

  pub record ListingOfIds : Type 0 where
    -- in graph 1's node order, each with its image
    pub pairs : (path : List ℕ) → map_of_ids s g₀ g₁ path ≡ map (λ v. (id_image path v, v)) (node_order s.vf2pp g₁)
    pub all_place : Each (λ path. Placement s g₀ g₁ (id_image path)) (listed (task_of s g₀ g₁))
    pub each_once : (φ : ℕ → ℕ) → Placement s g₀ g₁ φ → count (shows_ids φ) (listed (task_of s g₀ g₁)) ≡ 1
    -- whatever the limit and the record
    pub found_places : (budget : ℕ) (r : Record) → accepted_record (task_of s g₀ g₁) r ≡ true
        → (continue (task_of s g₀ g₁) budget r).answer ≡ Found
        → Placement s g₀ g₁ (id_image (continue (task_of s g₀ g₁) budget r).record'.path)

-- a graph is listed in itself, a chain of listed placements is listed, and under Equal the reverse of one
pub record SymmetriesListed (s : Settings) : Type 0 where
  pub identity_listed : (g : Graph) → AcceptedFile g → count (shows_ids s g g (λ a. a)) (listed (task_of s g g)) ≡ 1
  pub chain_listed : (g₀ g₁ g₂ : Graph) (φ ψ : ℕ → ℕ) → OfOneKind g₀ g₁ → OfOneKind g₁ g₂ → graphs_agree s g₀ g₁ ≡ true
      → graphs_agree s g₁ g₂ ≡ true
      → Placement s g₀ g₁ φ → Placement s g₁ g₂ ψ → count (shows_ids s g₀ g₂ (λ a. φ (ψ a))) (listed (task_of s g₀ g₂)) ≡ 1
  pub reverse_listed : (g₀ g₁ : Graph) (φ : ℕ → ℕ) → s.greater ≡ false → OfOneKind g₀ g₁ → graphs_agree s g₀ g₁ ≡ true
      → Placement s g₀ g₁ φ → count (shows_ids s g₁ g₀ (reverse (nodes g₁) φ)) (listed (task_of s g₁ g₀)) ≡ 1
