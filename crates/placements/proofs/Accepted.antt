-- From an accepted record only accepted ones follow, and a map that is found is a whole accepted path, and so a placement.
use Prim.Native.Nat.{ℕ}
use mathlib.Core.Bool.{true, false}
use mathlib.Core.List.{List, [], ◌∷◌}
use mathlib.Core.Path.{◌≡◌, refl}
use lib.ListN.{length}
use borrow.Author.Tests.{le-leb}
use Rattle.basics.proofs.Tests.{case, option_case, never, and_intro}
use Rattle.packed.specs.Graph.{nodes}
use Rattle.rules.specs.Task.{Task}
use Rattle.rules.specs.Search.{Top, Outer, Inner, Unwind, Record, started, candidate_at, accepts, above, raised, step, continue, accepted_path, top_offered, accepted_record}
use Rattle.placements.specs.Listed.{whole}
use Rattle.placements.specs.Claims.{Sound, AcceptedStays, EveryMapPlaces}
use Rattle.rules.proofs.Runs.{run-keeps, run-found}
use Rattle.rules.proofs.Stays.{record-passes, outer-offered, onward-offered, path-joined, path-last}
use Rattle.placements.proofs.Paths.{accepted-nil, depth₀, depth₁}
use Rattle.placements.proofs.Placed.{path-places}
use Rattle.placements.proofs.Steps.{step-candidate, step-none, step-taken, step-over, step-passed, step_left, step_end}

module _ (t : Task) where
  -- an accepted path, and an Inner position in the candidate's list
  pub record Good (r : Record) : Type 0 where
    pub path_accepted : accepted_path t r.path ≡ true
    pub offered_top : top_offered t r.path r.top ≡ true

  pub good-accepted : (r : Record) → Good r → accepted_record t r ≡ true
  unfolding accepted_record
  good-accepted r g =
      and_intro (le-leb (length r.path) (nodes t.graph₀) (depth₀ t r.path g.path_accepted))
      (and_intro (le-leb (length r.path) (nodes t.graph₁) (depth₁ t r.path g.path_accepted))
      (and_intro g.path_accepted g.offered_top))

  pub accepted-good : (r : Record) → accepted_record t r ≡ true → Good r
  accepted-good r e =
      let p = record-passes t r e in
      record { path_accepted = p.path_accepted; offered_top = p.offered_top }

  step-good : (path : List ℕ) (top : Top) (k : ℕ) → Good (record { path = path; top = top; accepted = k }) → Good (step t path top k).0
  step-good path Outer k g =
      option_case (candidate_at t path)
      (λ e. rw (step-none t path k e) (record { path_accepted = g.path_accepted; offered_top = refl }))
      (λ c e. rw (step-candidate t path k c e) (record { path_accepted = g.path_accepted; offered_top = outer-offered t path c e }))
  step-good path (Inner x) k g =
      case (accepts t path x)
      (λ e. case (above t.settings.limit (raised k))
      (λ f. rw (step-over t path x k e f) (record { path_accepted = g.path_accepted; offered_top = g.offered_top }))
      (λ f. rw (step-taken t path x k e f)
      (record { path_accepted = path-joined t x path g.path_accepted g.offered_top e; offered_top = refl })))
      (λ e. rw (step-passed t path x k e) (record { path_accepted = g.path_accepted; offered_top = onward-offered t path x }))
  step-good [] Unwind k g = rw (step_end t k) (record { path_accepted = g.path_accepted; offered_top = refl })
  step-good (x ∷ path) Unwind k g =
      rw (step_left t path x k)
      (record { path_accepted = (path-last t x path g.path_accepted).0; offered_top = onward-offered t path x })

  pub steps-keep-good : (r : Record) → Good r → Good (step t r.path r.top r.accepted).0
  steps-keep-good r g =
      step-good r.path r.top r.accepted (record { path_accepted = g.path_accepted; offered_top = g.offered_top })

  pub start-good : Good started
  start-good = record { path_accepted = accepted-nil t; offered_top = refl }

  pub accepted-stays : AcceptedStays t
  accepted-stays =
      record {
        at_start = good-accepted started start-good;
        onward = λ b r e. good-accepted (continue t b r).record' (run-keeps t Good steps-keep-good b 0 r (accepted-good r e));
      }

  -- a step that finds leaves a whole accepted path
  record Map (r : Record) : Type 0 where
    map_accepted : accepted_path t r.path ≡ true
    map_whole : whole t r.path ≡ true

  found_map : (path : List ℕ) (top : Top) (k : ℕ) → accepted_path t path ≡ true → (step t path top k).1 ≡ true → Map (step t path top k).0
  found_map path Outer k g f =
      option_case (candidate_at t path)
      (λ e. rw (step-none t path k e) (record { map_accepted = g; map_whole = rw (step-none t path k e) at f }))
      (λ c e. never false (rw (step-candidate t path k c e) at f) refl)
  found_map path (Inner x) k g f =
      case (accepts t path x)
      (λ e. case (above t.settings.limit (raised k))
      (λ o. never false (rw (step-over t path x k e o) at f) refl)
      (λ o. never false (rw (step-taken t path x k e o) at f) refl))
      (λ e. never false (rw (step-passed t path x k e) at f) refl)
  found_map [] Unwind k g f = never false (rw (step_end t k) at f) refl
  found_map (x ∷ path) Unwind k g f = never false (rw (step_left t path x k) at f) refl

  pub every-map-places : Sound t → EveryMapPlaces t
  every-map-places sound b r e f =
      let m =
      run-found t Good steps-keep-good Map (λ q g h. found_map q.path q.top q.accepted g.path_accepted h) b 0 r
      (accepted-good r e) f in
      path-places t sound (continue t b r).record'.path m.map_accepted m.map_whole
