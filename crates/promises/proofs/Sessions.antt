-- A session over bytes is the rules' calls over records: the same maps over ids, the same steps and ending, the last record handed
-- over, and the buffer filled by each map in its turn.
use Prim.Native.Nat.{ℕ}
use mathlib.Core.Bool.{true}
use mathlib.Core.List.{List, [], ◌∷◌, map}
use mathlib.Core.Option.{Option, none, some}
use mathlib.Core.Path.{◌≡◌, refl, sym, ◌∙◌, ap}
use native.Mathlib.Omega.{arith}
use Rattle.packed.specs.Packed.{node_count, graph_of}
use Rattle.packed.specs.Refusals.{first}
use Rattle.settings.specs.Settings.{settings_of}
use Rattle.order.specs.Paper.{written}
use Rattle.rules.specs.Search.{Answer, Found, None, Limit, Paused, Record, Went, continue, accepted_record}
use Rattle.rules.specs.Handed.{Handed, handed}
use Rattle.rules.specs.Calls.{pair_lines, filled, ContinueSays, went, turned_away, went_on, continue_says}
use Rattle.placements.specs.Calls.{Called, calls}
use Rattle.placements.specs.Claims.{Each}
use Rattle.placements.proofs.Accepted.{accepted-stays}
use Rattle.placements.proofs.Called.{calls-nil, calls_found, calls-paused, calls-none, calls-limit}
use Rattle.promises.specs.Sessions.{Ending, Answered, Session, before, over, and_then, session}
use Rattle.promises.specs.Promises.{LongEnough, Finds, SessionsFind}
use Rattle.promises.proofs.Bytes.{record-again, accepted-handed, written-length}
use Rattle.promises.proofs.Continued.{t, map_bytes, map_of_path, map-bytes, map-read-off, continue-goes}

abbrev pub endings : Option Answer → Option Ending
endings none = none
endings (some a) = some (Answered a)

module _ (f₀ f₁ s : List ℕ) where
  -- the buffer after these maps
  abbrev pub refilled : List (List ℕ) → List ℕ → List ℕ
  refilled [] buffer = buffer
  refilled (path ∷ paths) buffer = refilled paths (written (map_bytes f₀ f₁ s path) buffer)

  abbrev pub seen : Called (t f₀ f₁ s) → List ℕ → Session
  seen c buffer =
      record {
        maps = map (map_of_path f₀ f₁ s) c.maps;
        steps = c.steps;
        ending = endings c.ending;
        handed' = handed c.record';
        buffer' = refilled c.maps buffer;
      }

  session-nil : (h : Handed) (buffer : List ℕ)
      → session f₀ f₁ s [] h buffer ≡ record { maps = []; steps = 0; ending = none; handed' = h; buffer' = buffer }
  unfolding session
  session-nil h buffer = refl

  pub session-cons : (b : ℕ) (bs : List ℕ) (h : Handed) (buffer : List ℕ)
      → session f₀ f₁ s (b ∷ bs) h buffer ≡ and_then (node_count f₁) (continue_says f₀ f₁ s h b buffer) (session f₀ f₁ s bs)
  unfolding session
  session-cons b bs h buffer = refl

  module _ (free : first (pair_lines f₀ f₁ s) ≡ none) where
    pub continue-handed : (r : Record) (b : ℕ) (buffer : List ℕ) → accepted_record (t f₀ f₁ s) r ≡ true → LongEnough f₁ buffer
        → continue_says f₀ f₁ s (handed r) b buffer
        ≡ went_on (settings_of s) (graph_of f₀) (graph_of f₁) (continue (t f₀ f₁ s) b r) buffer
    continue-handed r b buffer e long =
        continue-goes f₀ f₁ s (handed r) b buffer
        (record { no_line = free; record_accepted = accepted-handed (t f₀ f₁ s) r e; long = long })
        ∙ ap (λ q. went_on (settings_of s) (graph_of f₀) (graph_of f₁) (continue (t f₀ f₁ s) b q) buffer) (record-again r)

    abbrev Seen : List ℕ → Type 0
    Seen budgets =
        (r : Record) (buffer : List ℕ) → accepted_record (t f₀ f₁ s) r ≡ true → LongEnough f₁ buffer
        → session f₀ f₁ s budgets (handed r) buffer ≡ seen (calls (t f₀ f₁ s) budgets r) buffer

    -- one call, by its answer
    module _ (b : ℕ) (bs : List ℕ) (rest : Seen bs) (r : Record) (buffer : List ℕ) (e : accepted_record (t f₀ f₁ s) r ≡ true)
        (long : LongEnough f₁ buffer) where
      abbrev w : Went
      w = continue (t f₀ f₁ s) b r

      abbrev path : List ℕ
      path = w.record'.path

      next-accepted : accepted_record (t f₀ f₁ s) w.record' ≡ true
      next-accepted = (accepted-stays (t f₀ f₁ s)).onward b r e

      abbrev says : Answer → ContinueSays
      says a = went a w.steps (handed w.record') (filled (settings_of s) (graph_of f₀) (graph_of f₁) a path buffer)

      abbrev followed : Answer → Session
      followed a = and_then (node_count f₁) (says a) (session f₀ f₁ s bs)

      by_answer : (a : Answer) → w.answer ≡ a → followed a ≡ seen (calls (t f₀ f₁ s) (b ∷ bs) r) buffer
      by_answer Found k =
          let bytes = map_bytes f₀ f₁ s path in
          let still : LongEnough f₁ (written bytes buffer) =
          omega (arith, written-length bytes buffer (omega (arith, map-bytes f₀ f₁ s path))) in
          ap (λ m. before (m ∷ []) w.steps (session f₀ f₁ s bs (handed w.record') (written bytes buffer)))
          (map-read-off f₀ f₁ s path buffer)
          ∙ ap (before (map_of_path f₀ f₁ s path ∷ []) w.steps) (rest w.record' (written bytes buffer) next-accepted still)
          ∙ ap (λ c. seen c buffer) (sym (calls_found (t f₀ f₁ s) b bs r k))
      by_answer Paused k =
          ap (before [] w.steps) (rest w.record' buffer next-accepted long)
          ∙ ap (λ c. seen c buffer) (sym (calls-paused (t f₀ f₁ s) b bs r k))
      by_answer None k =
          ap (λ a. over (Answered a) w.steps (handed w.record') buffer) (sym k)
          ∙ ap (λ c. seen c buffer) (sym (calls-none (t f₀ f₁ s) b bs r k))
      by_answer Limit k =
          ap (λ a. over (Answered a) w.steps (handed w.record') buffer) (sym k)
          ∙ ap (λ c. seen c buffer) (sym (calls-limit (t f₀ f₁ s) b bs r k))

      one-call : session f₀ f₁ s (b ∷ bs) (handed r) buffer ≡ seen (calls (t f₀ f₁ s) (b ∷ bs) r) buffer
      one-call =
          session-cons b bs (handed r) buffer
          ∙ ap (λ c. and_then (node_count f₁) c (session f₀ f₁ s bs)) (continue-handed r b buffer e long)
          ∙ by_answer w.answer refl

    pub session-seen : (budgets : List ℕ) → Seen budgets
    session-seen [] r buffer e long = session-nil (handed r) buffer ∙ ap (λ c. seen c buffer) (sym (calls-nil (t f₀ f₁ s) r))
    session-seen (b ∷ bs) r buffer e long = one-call b bs (session-seen bs) r buffer e long

  -- whatever a session hands out, Continue finds
  finds-then : (b : ℕ) (bs : List ℕ) → ((h : Handed) (buffer : List ℕ) → Each (Finds f₀ f₁ s) (session f₀ f₁ s bs h buffer).maps)
      → (h : Handed) (buffer : List ℕ) (c : ContinueSays) → continue_says f₀ f₁ s h b buffer ≡ c
      → Each (Finds f₀ f₁ s) (and_then (node_count f₁) c (session f₀ f₁ s bs)).maps
  finds-then b bs rest h buffer (went Found n h' buffer') e = (
    record { record₀ = h; record₁ = h'; budget = b; steps = n; buffer₀ = buffer; buffer₁ = buffer'; says = e; is = refl },
    rest h' buffer',
  )
  finds-then b bs rest h buffer (went Paused n h' buffer') e = rest h' buffer'
  finds-then b bs rest h buffer (went None n h' buffer') e = tt
  finds-then b bs rest h buffer (went Limit n h' buffer') e = tt
  finds-then b bs rest h buffer (turned_away r h' buffer') e = tt

  each-found : (budgets : List ℕ) (h : Handed) (buffer : List ℕ) → Each (Finds f₀ f₁ s) (session f₀ f₁ s budgets h buffer).maps
  each-found [] h buffer = rw (session-nil h buffer) tt
  each-found (b ∷ bs) h buffer =
      rw (session-cons b bs h buffer) (finds-then b bs (each-found bs) h buffer (continue_says f₀ f₁ s h b buffer) refl)

pub sessions-find : SessionsFind
sessions-find f₀ f₁ s budgets buffer h = each-found f₀ f₁ s budgets h buffer
