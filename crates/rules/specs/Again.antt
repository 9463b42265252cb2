-- Continue again and again, with one budget for all calls together (document 01, "The search"): Continue's tests before each step,
-- but a map that is found does not end it. That this is Continue, called from the record that the last call left, is `again-continues`.
use Prim.Native.Nat.{ℕ, zero, suc, ◌+◌, ◌*◌, ◌-◌}
use Rattle.std.specs.Prelude.{cond, List, [], ◌∷◌, ◌++◌}
use Rattle.std.proofs.Math.Option.{none, some}
use Rattle.basics.specs.Lists.{from, total}
use Rattle.rules.specs.Task.{Task}
use Rattle.rules.specs.Search.{Record, Answer, Found, None, Limit, Paused, step, stops}

-- the paths of the maps found, how it ended, the steps made, and the record as it is then
pub record Again : Type 0 where
  pub maps : List (List ℕ)
  pub ending : Answer
  pub steps : ℕ
  pub record' : Record

abbrev pub ended : Answer → Record → Again
ended a r = record { maps = []; ending = a; steps = 0; record' = r }

-- these maps and steps, and what comes then
abbrev pub ahead_of : List (List ℕ) → ℕ → Again → Again
ahead_of maps steps a = record { maps = maps ++ a.maps; ending = a.ending; steps = steps + a.steps; record' = a.record' }

module _ (t : Task) where
  unfoldable pub again : ℕ → Record → Again
  unfolding step
  again zero r = elim (stops t r) [ some a ↦ ended a r | none ↦ ended Paused r ]
  again (suc b) r =
      elim (stops t r) [
        | some a ↦ ended a r
        | none ↦
            let s = step t r.path r.top r.accepted in
            ahead_of (cond s.1 (s.0.path ∷ []) []) 1 (again b s.0)
      ]

-- the map that an answer hands out
abbrev pub found_at : Answer → Record → List (List ℕ)
found_at Found r = r.path ∷ []
found_at None r = []
found_at Limit r = []
found_at Paused r = []

-- n!/(n-k)!, the product of k numbers from n downward
unfoldable pub falling : ℕ → ℕ → ℕ
falling n zero = 1
falling n (suc k) = n * falling (n - 1) k

-- the sum of n!/(n-j)! for j from 0 to k
abbrev pub permutations : ℕ → ℕ → ℕ
permutations n k = total (falling n) (from 0 (suc k))

-- (N0 + 2) times the sum of N0!/(N0-k)! for k from 0 to N1: from Start all steps together are at most so many
abbrev pub most_steps : ℕ → ℕ → ℕ
most_steps n₀ n₁ = (n₀ + 2) * permutations n₀ n₁
