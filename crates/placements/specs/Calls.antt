-- Continue called again and again, and what the search does when no limit holds it, step by step (document 01, "The search").
use Prim.Native.Nat.{ℕ, zero, suc, ◌+◌}
use Rattle.std.specs.Prelude.{Bool, false}
use Rattle.std.proofs.Math.Bool.{cond}
use mathlib.Core.List.{List, [], ◌∷◌, ◌++◌}
use Rattle.std.proofs.Math.Option.{Option, none, some}
use Rattle.settings.specs.Settings.{Settings}
use Rattle.rules.specs.Task.{Task}
use Rattle.rules.specs.Search.{Top, Outer, Inner, Unwind, Record, accepts, step, Answer, Found, None, Limit, Paused, Went, run, continue}

module _ (t : Task) where
  -- the maps found, the steps made together, the ending if it came, and the record as it is then
  pub record Called : Type 0 where
    pub maps : List (List ℕ)
    pub steps : ℕ
    pub ending : Option (Answer)
    pub record' : Record

  abbrev pub after_call : List (List ℕ) → ℕ → Called → Called
  after_call maps steps c = record { maps = maps ++ c.maps; steps = steps + c.steps; ending = c.ending; record' = c.record' }

  abbrev pub last_call : Went → Called
  last_call w = record { maps = []; steps = w.steps; ending = some w.answer; record' = w.record' }

  -- a call with each budget, until None or Limit
  unfoldable pub calls : List ℕ → Record → Called
  unfolding run
  calls [] r = record { maps = []; steps = 0; ending = none; record' = r }
  calls (budget ∷ budgets) r =
      let w = continue t budget r in
      elim w.answer [
        | Found ↦ after_call (w.record'.path ∷ []) w.steps (calls budgets w.record')
        | Paused ↦ after_call [] w.steps (calls budgets w.record')
        | None ↦ last_call w
        | Limit ↦ last_call w
      ]

-- the same settings, and the same task, without a limit
abbrev pub without_limit : Settings → Settings
without_limit s =
    record {
      greater = s.greater;
      vf2pp = s.vf2pp;
      induced = s.induced;
      node_labels = s.node_labels;
      edge_labels = s.edge_labels;
      limit = none;
    }

abbrev pub unlimited : Task → Task
unlimited t = record { settings = without_limit t.settings; graph₀ = t.graph₀; graph₁ = t.graph₁ }

-- the record after so many steps, the pairs that they accept, and the maps that they find
module _ (t : Task) where
  abbrev pub takes : List ℕ → Top → Bool
  takes path Outer = false
  takes path (Inner x) = accepts t path x
  takes path Unwind = false

  unfoldable pub after : ℕ → Record → Record
  unfolding step
  after zero r = r
  after (suc s) r = after s (step t r.path r.top r.accepted).0

  unfoldable pub accepted_in : ℕ → Record → ℕ
  unfolding step
  accepted_in zero r = 0
  accepted_in (suc s) r = cond (takes r.path r.top) 1 0 + accepted_in s (step t r.path r.top r.accepted).0

  unfoldable pub found_in : ℕ → Record → List (List ℕ)
  unfolding step
  found_in zero r = []
  found_in (suc s) r =
      cond (step t r.path r.top r.accepted).1 (r.path ∷ []) [] ++ found_in s (step t r.path r.top r.accepted).0
