-- Continue over bytes is the rules' run over the record handed in, where neither files, settings, record nor buffer are turned away;
-- and what it fills in is the map over ids that the path shows.
use Prim.Native.Nat.{ℕ, ◌+◌, ◌*◌}
use mathlib.Core.Bool.{true}
use mathlib.Core.List.{List, [], ◌++◌}
use mathlib.Core.Option.{Option, none, some}
use mathlib.Core.Path.{◌≡◌, refl, sym, ◌∙◌, ap}
use native.Mathlib.Omega.{arith}
use lib.ListN.{length, length-map}
use borrow.Author.Tests.{le-ltb, ltb-false, not-false}
use Rattle.basics.specs.Lists.{from}
use Rattle.basics.proofs.Laws.{from-length}
use Rattle.basics.proofs.Tests.{none-not-some}
use Rattle.packed.specs.Graph.{nodes}
use Rattle.packed.specs.Packed.{node_count, graph_of}
use Rattle.packed.specs.Refusals.{Refused, Line, first}
use Rattle.settings.specs.Settings.{settings_of}
use Rattle.packed.proofs.First.{first-behind, none-of-nil, none-of-cons, none-for-cons, none-of-both}
use Rattle.packed.proofs.Accepted.{nodes-of-graph}
use Rattle.order.specs.Paper.{written}
use Rattle.order.proofs.Renumbered.{order-keeps-nodes}
use Rattle.rules.specs.Task.{Task, task_of}
use Rattle.rules.specs.Search.{Answer, map_of, continue, map_of_ids}
use Rattle.rules.specs.Handed.{Handed, record_of, accepted_handed}
use Rattle.rules.specs.Calls.{pair_lines, id_pairs, ContinueSays, went, went_on, or_went, record_lines, continue_says}
use Rattle.placements.specs.Claims.{permutations}
use Rattle.promises.specs.Sessions.{map_in}
use Rattle.promises.specs.Promises.{search, LongEnough, most_steps, refusal_of}
use Rattle.promises.proofs.Bytes.{map_read, pairs-length}

module _ (f₀ f₁ s : List ℕ) where
  abbrev pub t : Task
  t = search f₀ f₁ s

  pub task-nodes₀ : nodes t.graph₀ ≡ node_count f₀
  unfolding task_of
  task-nodes₀ = order-keeps-nodes (settings_of s).vf2pp (graph_of f₀) ∙ nodes-of-graph f₀

  pub task-nodes₁ : nodes t.graph₁ ≡ node_count f₁
  unfolding task_of
  task-nodes₁ = order-keeps-nodes (settings_of s).vf2pp (graph_of f₁) ∙ nodes-of-graph f₁

  pub most-steps : (nodes t.graph₀ + 2) * permutations (nodes t.graph₀) (nodes t.graph₁) ≡ most_steps f₀ f₁
  most-steps = rw (task-nodes₀, task-nodes₁)

  -- the bytes of a map, and the map read off them
  abbrev pub map_bytes : List ℕ → List ℕ
  map_bytes path = id_pairs (settings_of s) (graph_of f₀) (graph_of f₁) (map_of t path)

  abbrev pub map_of_path : List ℕ → List (ℕ × ℕ)
  map_of_path path = map_of_ids (settings_of s) (graph_of f₀) (graph_of f₁) path

  pub map-length : (path : List ℕ) → length (map_of t path) ≡ node_count f₁
  unfolding map_of
  map-length path = length-map (from 0 (nodes t.graph₁)) _ ∙ from-length 0 (nodes t.graph₁) ∙ task-nodes₁

  pub map-bytes : (path : List ℕ) → length (map_bytes path) ≡ 2 * node_count f₁
  map-bytes path = pairs-length (settings_of s) (graph_of f₀) (graph_of f₁) (map_of t path) ∙ ap (λ n. 2 * n) (map-length path)

  pub map-read-off : (path buffer : List ℕ) → map_in (node_count f₁) (written (map_bytes path) buffer) ≡ map_of_path path
  map-read-off path buffer =
      rw (← map-length path) (map_read (settings_of s) (graph_of f₀) (graph_of f₁) (map_of t path) _)

  -- neither file, settings, record nor buffer are turned away
  pub record Goes (h : Handed) (buffer : List ℕ) : Type 0 where
    pub no_line : first (pair_lines f₀ f₁ s) ≡ none
    pub record_accepted : accepted_handed t h ≡ true
    pub long : LongEnough f₁ buffer

  module _ (h : Handed) (budget : ℕ) (buffer : List ℕ) where
    abbrev goes_on : ContinueSays
    goes_on = went_on (settings_of s) (graph_of f₀) (graph_of f₁) (continue t budget (record_of h)) buffer

    abbrev table_lines : List Line
    table_lines = pair_lines f₀ f₁ s ++ record_lines t h (node_count f₁) buffer

    no_lines : Goes h buffer → first table_lines ≡ none
    no_lines g =
        first-behind (pair_lines f₀ f₁ s) _ g.no_line
        ∙ none-for-cons 9 0 _ _ (rw g.record_accepted) (none-for-cons 10 0 _ [] (le-ltb (length buffer) (2 * node_count f₁) g.long) none-of-nil)

    lines_none : first table_lines ≡ none → Goes h buffer
    lines_none e =
        let a = none-of-both (pair_lines f₀ f₁ s) _ e in
        let b = none-of-cons 9 0 _ _ a.1 in
        let c = none-of-cons 10 0 _ _ b.1 in
        record { no_line = a.0; record_accepted = not-false _ b.0; long = ltb-false (length buffer) (2 * node_count f₁) c.0 }

    pub continue-goes : Goes h buffer → continue_says f₀ f₁ s h budget buffer ≡ goes_on
    continue-goes g = ap (λ o. or_went o (settings_of s) (graph_of f₀) (graph_of f₁) h budget buffer) (no_lines g)

    pub went-goes : (a : Answer) (n : ℕ) (h' : Handed) (buffer' : List ℕ) → continue_says f₀ f₁ s h budget buffer ≡ went a n h' buffer'
        → Goes h buffer × (goes_on ≡ went a n h' buffer')
    went-goes a n h' buffer' e = by_first (first table_lines) refl e
      where
        by_first : (o : Option Refused) → first table_lines ≡ o
            → or_went o (settings_of s) (graph_of f₀) (graph_of f₁) h budget buffer ≡ went a n h' buffer'
            → Goes h buffer × (goes_on ≡ went a n h' buffer')
        by_first none q e = (lines_none q, e)
        by_first (some r) q e = let z : ◌≡◌ {A = ℕ} 0 1 = cc in absurd (omega arith)

    pub goes-unless : refusal_of (continue_says f₀ f₁ s h budget buffer) ≡ none → Goes h buffer
    goes-unless e = by_first (first table_lines) refl e
      where
        by_first : (o : Option Refused) → first table_lines ≡ o
            → refusal_of (or_went o (settings_of s) (graph_of f₀) (graph_of f₁) h budget buffer) ≡ none → Goes h buffer
        by_first none q e = lines_none q
        by_first (some r) q e = none-not-some (sym e)

pub went-parts : (a b : Answer) (n m : ℕ) (h k : Handed) (x y : List ℕ) → went a n h x ≡ went b m k y
    → (a ≡ b) × (n ≡ m) × (h ≡ k) × (x ≡ y)
went-parts a b n m h k x y e = (cc, cc, cc, cc)
