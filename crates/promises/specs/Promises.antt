-- What the outer calls promise of files and node ids (document 01, all of it), each promise a statement by itself. Files, settings,
-- maps and buffers are lists of bytes; what the calls answer stands in the rules' `Calls`, sessions of them in `Sessions`.
use Rattle.std.specs.Prelude.{ℕ, suc, ◌+◌, ◌*◌, ◌≤◌, ◌<◌, min, Bool, true, false, cond, List, Result, ◌++◌, map, ◌↔◌, ◌⊎◌, ◌≡◌, eqb, ltb, length, get_or, drop}
use Rattle.std.proofs.Math.Option.{Option, none, some}
use Rattle.basics.specs.Lists.{count}
use Rattle.packed.specs.Packed.{kind, node_count, graph_of}
use Rattle.packed.specs.Refusals.{Refused, first, file_lines, reading}
use Rattle.settings.specs.Settings.{settings_of, settings_lines}
use Rattle.settings.specs.Table.{NotSettings}
use Rattle.packed.specs.Table.{Says}
use Rattle.packed.specs.Paper.{number_of, summary, read_paper}
use Rattle.packed.specs.declared.Refusal.{Refusal}
use Rattle.packed.specs.declared.Refused as code
use Rattle.packed.specs.declared.Summary.{Summary}
use Rattle.order.specs.Order.{node_order}
use Rattle.order.specs.Paper.{order_says, order_paper}
use Rattle.rules.specs.Task.{Task, task_of, graphs_agree, exchange}
use Rattle.rules.specs.Search.{started, map_of_ids, Answer, Found, None, Limit, Paused}
use Rattle.rules.specs.Handed.{Handed, handed, accepted_handed}
use Rattle.rules.specs.Calls.{begun, refused, start_says, ContinueSays, went, turned_away, continue_says, CheckSays, yes, no, rejected, check_lines, CheckTells}
use Rattle.rules.specs.Placement.{Placement}
use Rattle.placements.specs.Listed.{listed}
use Rattle.placements.specs.Calls.{without_limit, unlimited, after, accepted_in, found_in}
use Rattle.placements.specs.Claims.{Each, AtLeastOne, permutations}
use Rattle.promises.specs.Sessions.{Map, map_in, image, shows, Ending, Answered, Session, session}

-- the buffer that Continue needs
abbrev pub LongEnough : List ℕ → List ℕ → Type 0
LongEnough f₁ buffer = 2 * node_count f₁ ≤ length buffer

-- (N0 + 2) times the sum of N0!/(N0-k)! for k from 0 to N1
abbrev pub most_steps : List ℕ → List ℕ → ℕ
most_steps f₀ f₁ = (node_count f₀ + 2) * permutations (node_count f₀) (node_count f₁)

module _ (f₀ f₁ s : List ℕ) where
  abbrev pub search : Task
  search = task_of (settings_of s) (graph_of f₀) (graph_of f₁)

  -- Start answers a record: neither the files nor the settings are refused
  abbrev pub Begins : Handed → Type 0
  Begins h = start_says f₀ f₁ s ≡ begun h

  abbrev pub CountsAgree : Type 0
  CountsAgree = graphs_agree (settings_of s) (graph_of f₀) (graph_of f₁) ≡ true

  abbrev pub Places : (ℕ → ℕ) → Type 0
  Places φ = Placement (settings_of s) (graph_of f₀) (graph_of f₁) φ

  -- Found, with this map in the buffer
  pub record Finds (m : Map) : Type 0 where
    pub record₀ : Handed
    pub record₁ : Handed
    pub budget : ℕ
    pub steps : ℕ
    pub buffer₀ : List ℕ
    pub buffer₁ : List ℕ
    pub says : continue_says f₀ f₁ s record₀ budget buffer₀ ≡ went Found steps record₁ buffer₁
    pub is : m ≡ map_in (node_count f₁) buffer₁

  -- a map that is a placement, its pairs in graph 1's node order, each graph-1 id once
  pub record IsPlacement (m : Map) : Type 0 where
    pub places : Places (image m)
    pub in_order : map (λ p. p.1) m ≡ node_order (settings_of s).vf2pp (graph_of f₁)
    pub each_once : (v : ℕ) → v < node_count f₁ → count (λ w. eqb w v) (map (λ p. p.1) m) ≡ 1

  -- calls from Start's record, with a buffer that is long enough, that came to None; and all that they came to
  pub record ListingMade : Type 0 where
    pub first_record : Handed
    pub budgets : List ℕ
    pub buffer : List ℕ
    pub begins : Begins first_record
    pub long_enough : LongEnough f₁ buffer
    pub ended : (session f₀ f₁ s budgets first_record buffer).ending ≡ some (Answered None)

  abbrev pub all_of : ListingMade → Session
  all_of l = session f₀ f₁ s l.budgets l.first_record l.buffer

  -- the maps that the rules' search finds, from the empty path to its end, in its order
  abbrev pub maps_of_rules : List Map
  maps_of_rules = map (map_of_ids (settings_of s) (graph_of f₀) (graph_of f₁)) (listed search)

-- 1. Whatever the record, the budget and the limit, each map handed out is a placement; the rest of the buffer stays

abbrev pub EveryMapIsAPlacement : Type 0
EveryMapIsAPlacement =
    (f₀ f₁ s : List ℕ) (h h' : Handed) (budget steps : ℕ) (buffer buffer' : List ℕ)
    → continue_says f₀ f₁ s h budget buffer ≡ went Found steps h' buffer'
    → IsPlacement f₀ f₁ s (map_in (node_count f₁) buffer')
    × (length buffer' ≡ length buffer)
    × (drop (2 * node_count f₁) buffer' ≡ drop (2 * node_count f₁) buffer)

-- and every map of a session is one that Continue finds
abbrev pub SessionsFind : Type 0
SessionsFind = (f₀ f₁ s budgets buffer : List ℕ) (h : Handed) → Each (Finds f₀ f₁ s) (session f₀ f₁ s budgets h buffer).maps

-- 2. The listing: Continue called from Start's record with any budgets, without a limit, where the counts agree

module _ (f₀ f₁ s : List ℕ) where
  -- every placement exactly once and nothing else, in the order of the rules
  pub record HoldEveryPlacement (maps : List Map) : Type 0 where
    pub all_place : Each (IsPlacement f₀ f₁ s) maps
    pub each_once : (φ : ℕ → ℕ) → Places f₀ f₁ s φ → count (shows (node_count f₁) φ) maps ≡ 1
    pub as_the_rules_order : maps ≡ maps_of_rules f₀ f₁ s

module _ (f₀ f₁ s : List ℕ) (h : Handed) (budgets buffer : List ℕ) where
  abbrev pub calls : Session
  calls = session f₀ f₁ s budgets h buffer

  pub record ListsAllPlacements : Type 0 where
    -- the ending is None, and then the maps handed out are all placements; before it they are the first ones
    pub ends_whole : (e : Ending) → calls.ending ≡ some e → (e ≡ Answered None) × HoldEveryPlacement f₀ f₁ s calls.maps
    pub first_maps : (rest : List Map) × (calls.maps ++ rest ≡ maps_of_rules f₀ f₁ s)
    -- with budgets of 1 or more the ending comes, after at most as many calls as there may be steps, and one
    pub steps_within : calls.steps ≤ most_steps f₀ f₁
    pub ending_comes : AtLeastOne budgets → most_steps f₀ f₁ < length budgets → calls.ending ≡ some (Answered None)
    -- other budgets change neither the maps nor their order nor the ending, nor anything else of what all calls come to
    pub budgets_alike : (others : List ℕ) (e e' : Ending) → calls.ending ≡ some e
        → (session f₀ f₁ s others h buffer).ending ≡ some e' → calls ≡ session f₀ f₁ s others h buffer
    -- the accepted count is the number of pairs accepted; it stays at 4,294,967,295
    pub accepted_counted : calls.handed'.accepted ≡ min (accepted_in (unlimited (search f₀ f₁ s)) calls.steps started) 4294967295

pub record TheListing : Type 0 where
  pub all_placements : (f₀ f₁ s : List ℕ) (h : Handed) (budgets buffer : List ℕ) → Begins f₀ f₁ s h → (settings_of s).limit ≡ none
      → CountsAgree f₀ f₁ s → LongEnough f₁ buffer → ListsAllPlacements f₀ f₁ s h budgets buffer
  -- if the counts don't agree, there is no map: the first answer is None, and nothing changes
  pub no_map : (f₀ f₁ s : List ℕ) (h : Handed) (budget : ℕ) (buffer : List ℕ) → Begins f₀ f₁ s h → (CountsAgree f₀ f₁ s → ⊥)
      → LongEnough f₁ buffer → continue_says f₀ f₁ s h budget buffer ≡ went None 0 h buffer
  -- under Greater they agree wherever there is a placement
  pub counts_implied : (f₀ f₁ s : List ℕ) (h : Handed) (φ : ℕ → ℕ) → Begins f₀ f₁ s h → (settings_of s).greater ≡ true
      → Places f₀ f₁ s φ → CountsAgree f₀ f₁ s

-- 3. With a limit: the first maps of the listing without one, and Limit exactly where that accepts more pairs than the limit

module _ (f₀ f₁ s : List ℕ) (h : Handed) (budgets buffer : List ℕ) where
  -- beside all that calls without a limit came to
  pub record ListsFirstMaps (limit : ℕ) (whole : Session) : Type 0 where
    pub first_maps : (rest : List Map) × ((calls f₀ f₁ s h budgets buffer).maps ++ rest ≡ whole.maps)
    pub ending : (e : Ending) → (calls f₀ f₁ s h budgets buffer).ending ≡ some e
        → e ≡ Answered (cond (ltb limit whole.handed'.accepted) Limit None)
    pub ending_comes : AtLeastOne budgets → most_steps f₀ f₁ < length budgets
        → (calls f₀ f₁ s h budgets buffer).ending ≡ some (Answered (cond (ltb limit whole.handed'.accepted) Limit None))
    pub whole_at_none : (calls f₀ f₁ s h budgets buffer).ending ≡ some (Answered None)
        → ((calls f₀ f₁ s h budgets buffer).maps ≡ whole.maps) × ((calls f₀ f₁ s h budgets buffer).steps ≡ whole.steps)
    -- whatever the ending, the maps are those that the search without a limit finds in as many steps
    pub maps_found : (calls f₀ f₁ s h budgets buffer).maps
        ≡ map (map_of_ids (settings_of s) (graph_of f₀) (graph_of f₁)) (found_in (unlimited (search f₀ f₁ s)) (calls f₀ f₁ s h budgets buffer).steps started)
    pub steps_within : (calls f₀ f₁ s h budgets buffer).steps ≤ most_steps f₀ f₁
    pub one_more_at_limit : (calls f₀ f₁ s h budgets buffer).ending ≡ some (Answered Limit)
        → (calls f₀ f₁ s h budgets buffer).handed'.accepted ≡ suc limit
    -- and Limit comes at the step that accepts the pair which passes the limit
    pub limit_at : (calls f₀ f₁ s h budgets buffer).ending ≡ some (Answered Limit)
        → (k : ℕ) × ((calls f₀ f₁ s h budgets buffer).steps ≡ suc k)
        × (accepted_in (unlimited (search f₀ f₁ s)) k started ≡ limit) × (accepted_in (unlimited (search f₀ f₁ s)) (suc k) started ≡ suc limit)
    -- the accepted count is the number of pairs accepted
    pub accepted_counted : (calls f₀ f₁ s h budgets buffer).handed'.accepted
        ≡ accepted_in (unlimited (search f₀ f₁ s)) (calls f₀ f₁ s h budgets buffer).steps started
    pub budgets_alike : (others : List ℕ) (e e' : Ending) → (calls f₀ f₁ s h budgets buffer).ending ≡ some e
        → (calls f₀ f₁ s h others buffer).ending ≡ some e' → calls f₀ f₁ s h budgets buffer ≡ calls f₀ f₁ s h others buffer

pub record WithALimit : Type 0 where
  -- s' is s but for the limit
  pub first_maps : (f₀ f₁ s s' : List ℕ) (h : Handed) (budgets buffer : List ℕ) (limit : ℕ) (whole : ListingMade f₀ f₁ s')
      → Begins f₀ f₁ s h → (settings_of s).limit ≡ some limit → settings_of s' ≡ without_limit (settings_of s)
      → CountsAgree f₀ f₁ s → LongEnough f₁ buffer → ListsFirstMaps f₀ f₁ s h budgets buffer limit (all_of f₀ f₁ s' whole)
  -- and there are such settings
  pub limit_dropped : (f₀ f₁ s : List ℕ) (h : Handed) → Begins f₀ f₁ s h
      → (s' : List ℕ) × Begins f₀ f₁ s' h × (settings_of s' ≡ without_limit (settings_of s))

-- 4. A block on a module, and the module on a board

module _ (f₀ f₁ s : List ℕ) where
  -- φ stands exactly once in the listing
  pub record ListedOnce (φ : ℕ → ℕ) : Type 0 where
    pub not_refused : Begins f₀ f₁ s (handed started)
    pub counts_agree : CountsAgree f₀ f₁ s
    pub by_the_rules : count (shows (node_count f₁) φ) (maps_of_rules f₀ f₁ s) ≡ 1
    pub by_the_calls : (l : ListingMade f₀ f₁ s) → count (shows (node_count f₁) φ) (all_of f₀ f₁ s l).maps ≡ 1

pub record ChainedPlacements : Type 0 where
  -- two pairs of files that are not refused, and whose counts agree, say the same of the third
  pub not_refused : (board module' block s : List ℕ) (h h' : Handed) → Begins module' block s h → Begins board module' s h'
      → Begins board block s (handed started)
  pub counts_agree : (board module' block s : List ℕ) → CountsAgree module' block s → CountsAgree board module' s → CountsAgree board block s
  -- a map of the block on the module, followed by one of the module on the board, is listed for the block on the board
  pub listed_once : (board module' block s : List ℕ) (inner outer : Map) → Finds module' block s inner → Finds board module' s outer
      → ListedOnce board block s (λ v. image outer (image inner v))

-- 5. Each file on itself; and, under Equal, the reverse of a map for the files exchanged

pub record IdentityAndReverse : Type 0 where
  pub identity : (f s : List ℕ) → first (file_lines 0 f) ≡ none → first (settings_lines s) ≡ none → ListedOnce f f s (λ v. v)
  pub reverse : (f₀ f₁ s : List ℕ) (m : Map) → (settings_of s).greater ≡ false → Finds f₀ f₁ s m
      → ListedOnce f₁ f₀ s (image (map exchange m))

-- 6. Check says yes exactly for a placement, and so for a map of the listing

pub record CheckAgrees : Type 0 where
  pub yes_exactly : (f₀ f₁ s map' : List ℕ)
      → CheckTells f₀ f₁ s map' yes ↔ ((first (check_lines f₀ f₁ s map') ≡ none) × Places f₀ f₁ s (λ v. get_or map' v 0))
  pub no_exactly : (f₀ f₁ s map' : List ℕ)
      → CheckTells f₀ f₁ s map' no ↔ ((first (check_lines f₀ f₁ s map') ≡ none) × (Places f₀ f₁ s (λ v. get_or map' v 0) → ⊥))
  -- where the counts agree, one map of a listing shows what Check says yes to, and none what it says no to
  pub yes_listed : (f₀ f₁ s map' : List ℕ) (l : ListingMade f₀ f₁ s) → first (check_lines f₀ f₁ s map') ≡ none → CountsAgree f₀ f₁ s
      → CheckTells f₀ f₁ s map' yes ↔ (count (shows (node_count f₁) (λ v. get_or map' v 0)) (all_of f₀ f₁ s l).maps ≡ 1)
  pub no_listed : (f₀ f₁ s map' : List ℕ) (l : ListingMade f₀ f₁ s) → first (check_lines f₀ f₁ s map') ≡ none → CountsAgree f₀ f₁ s
      → CheckTells f₀ f₁ s map' no ↔ (count (shows (node_count f₁) (λ v. get_or map' v 0)) (all_of f₀ f₁ s l).maps ≡ 0)

-- 7. No second outcome satisfies what a call's contract says of it (Start and Continue: `calls`, over the code's answers)

pub record OneOutcome : Type 0 where
  pub read : (file : ℕ) (f : List ℕ) (a b : Result Summary code.Refused) → read_paper a ≡ summary (reading file f) → read_paper b ≡ summary (reading file f) → a ≡ b
  pub order : (f : List ℕ) (plus_plus : Bool) (buffer : List ℕ) (a b : Result ℕ code.Refused) (x y : List ℕ)
      → order_paper a x ≡ order_says f plus_plus buffer → order_paper b y ≡ order_says f plus_plus buffer → (a ≡ b) × (x ≡ y)
  pub check : (f₀ f₁ s map' : List ℕ) (a b : CheckSays) → CheckTells f₀ f₁ s map' a → CheckTells f₀ f₁ s map' b → a ≡ b
  -- the paper's values tell the code's cases apart
  pub refusals_apart : (r q : Refusal) → number_of r ≡ number_of q → r ≡ q
  pub reads_apart : (a b : Result Summary code.Refused) → read_paper a ≡ read_paper b → a ≡ b
  pub orders_apart : (a b : Result ℕ code.Refused) (x y : List ℕ) → order_paper a x ≡ order_paper b y → (a ≡ b) × (x ≡ y)

-- 8. A record that is handed out is accepted by the next call; the records that are accepted are those that the search passes

-- the refusal, if a call turns its input away
abbrev pub refusal_of : ContinueSays → Option Refused
refusal_of (went answer steps h buffer) = none
refusal_of (turned_away r h buffer) = some r

module _ (f₀ f₁ s : List ℕ) (h : Handed) where
  -- the next Continue with the same files and settings doesn't refuse with 9, and with a buffer long enough it doesn't refuse at all
  pub record AcceptedNext : Type 0 where
    pub path_bytes : length h.path ≡ 128
    pub not_nine : (budget : ℕ) (buffer : List ℕ) (r : Refused) → refusal_of (continue_says f₀ f₁ s h budget buffer) ≡ some r → r.number ≡ 9 → ⊥
    pub goes : (budget : ℕ) (buffer : List ℕ) → LongEnough f₁ buffer → refusal_of (continue_says f₀ f₁ s h budget buffer) ≡ none

  -- after this many steps from Start, the search without a limit has depth, path and top of this record
  pub record PassedAfter (steps : ℕ) : Type 0 where
    pub within : steps ≤ most_steps f₀ f₁
    pub same_depth : (handed (after (unlimited (search f₀ f₁ s)) steps started)).depth ≡ h.depth
    pub same_path : (handed (after (unlimited (search f₀ f₁ s)) steps started)).path ≡ h.path
    pub same_top : (handed (after (unlimited (search f₀ f₁ s)) steps started)).top ≡ h.top

pub record RecordsMeanSomething : Type 0 where
  pub of_start : (f₀ f₁ s : List ℕ) (h : Handed) → Begins f₀ f₁ s h → AcceptedNext f₀ f₁ s h
  pub of_continue : (f₀ f₁ s : List ℕ) (h h' : Handed) (budget steps : ℕ) (answer : Answer) (buffer buffer' : List ℕ)
      → continue_says f₀ f₁ s h budget buffer ≡ went answer steps h' buffer' → AcceptedNext f₀ f₁ s h'
  -- the accepted count aside; a path has 128 bytes
  pub passed_exactly : (f₀ f₁ s : List ℕ) (h₀ : Handed) → Begins f₀ f₁ s h₀ → CountsAgree f₀ f₁ s
      → (h : Handed) (budget : ℕ) (buffer : List ℕ) → length h.path ≡ 128 → LongEnough f₁ buffer
      → (refusal_of (continue_says f₀ f₁ s h budget buffer) ≡ none) ↔ ((steps : ℕ) × PassedAfter f₀ f₁ s h steps)

-- 9. A call makes at most its budget of steps, and all of them where it pauses; after its end a search answers the same again

pub record StepsAndEnd : Type 0 where
  pub within_budget : (f₀ f₁ s : List ℕ) (h h' : Handed) (budget steps : ℕ) (answer : Answer) (buffer buffer' : List ℕ)
      → continue_says f₀ f₁ s h budget buffer ≡ went answer steps h' buffer' → steps ≤ budget
  pub paused_used : (f₀ f₁ s : List ℕ) (h h' : Handed) (budget steps : ℕ) (buffer buffer' : List ℕ)
      → continue_says f₀ f₁ s h budget buffer ≡ went Paused steps h' buffer' → steps ≡ budget
  -- None after None and Limit after Limit: no step is made, record and buffer are left
  pub none_again : (f₀ f₁ s : List ℕ) (h h' : Handed) (budget steps : ℕ) (buffer buffer' : List ℕ)
      → continue_says f₀ f₁ s h budget buffer ≡ went None steps h' buffer'
      → (more : ℕ) (next : List ℕ) → LongEnough f₁ next → continue_says f₀ f₁ s h' more next ≡ went None 0 h' next
  pub limit_again : (f₀ f₁ s : List ℕ) (h h' : Handed) (budget steps : ℕ) (buffer buffer' : List ℕ)
      → continue_says f₀ f₁ s h budget buffer ≡ went Limit steps h' buffer'
      → (more : ℕ) (next : List ℕ) → LongEnough f₁ next → continue_says f₀ f₁ s h' more next ≡ went Limit 0 h' next
  -- from every start that isn't refused, with or without a limit, an end comes
  pub end_comes : (f₀ f₁ s : List ℕ) (h : Handed) (budgets buffer : List ℕ) → Begins f₀ f₁ s h → LongEnough f₁ buffer
      → AtLeastOne budgets → most_steps f₀ f₁ < length budgets
      → ((session f₀ f₁ s budgets h buffer).ending ≡ some (Answered None)) ⊎ ((session f₀ f₁ s budgets h buffer).ending ≡ some (Answered Limit))
  -- so without a limit a listing can be made
  pub listing_made : (f₀ f₁ s : List ℕ) (h : Handed) → Begins f₀ f₁ s h → (settings_of s).limit ≡ none → ListingMade f₀ f₁ s

-- 10. Each number from 7 on is given exactly when its line says so and no line before it does; 1 to 6 are `packed`'s

abbrev pub refusal : ℕ → Refused
refusal number = record { number = number; file = 0 }

-- no line from 1 to 6 says anything of a file
abbrev pub FilesRead : List ℕ → List ℕ → Type 0
FilesRead f₀ f₁ = ((k : ℕ) → Says k f₀ → ⊥) × ((k : ℕ) → Says k f₁ → ⊥)

-- no line from 1 to 8 says anything
abbrev pub Readable : List ℕ → List ℕ → List ℕ → Type 0
Readable f₀ f₁ s = FilesRead f₀ f₁ × (kind f₀ ≡ kind f₁) × (NotSettings s → ⊥)

pub record NumbersExactly : Type 0 where
  pub begun_exactly : (f₀ f₁ s : List ℕ) → Begins f₀ f₁ s (handed started) ↔ Readable f₀ f₁ s
  pub seven : (f₀ f₁ s : List ℕ) → (start_says f₀ f₁ s ≡ refused (refusal 7)) ↔ (FilesRead f₀ f₁ × (kind f₀ ≡ kind f₁ → ⊥))
  pub eight : (f₀ f₁ s : List ℕ) → (start_says f₀ f₁ s ≡ refused (refusal 8)) ↔ (FilesRead f₀ f₁ × (kind f₀ ≡ kind f₁) × NotSettings s)
  pub nine : (f₀ f₁ s : List ℕ) (h : Handed) (budget : ℕ) (buffer : List ℕ)
      → (refusal_of (continue_says f₀ f₁ s h budget buffer) ≡ some (refusal 9))
      ↔ (Readable f₀ f₁ s × (accepted_handed (search f₀ f₁ s) h ≡ true → ⊥))
  pub ten : (f₀ f₁ s : List ℕ) (h : Handed) (budget : ℕ) (buffer : List ℕ)
      → (refusal_of (continue_says f₀ f₁ s h budget buffer) ≡ some (refusal 10))
      ↔ (Readable f₀ f₁ s × (accepted_handed (search f₀ f₁ s) h ≡ true) × (length buffer < 2 * node_count f₁))
  pub eleven : (f₀ f₁ s map' : List ℕ)
      → CheckTells f₀ f₁ s map' (rejected (refusal 11)) ↔ (Readable f₀ f₁ s × (length map' ≡ node_count f₁ → ⊥))
