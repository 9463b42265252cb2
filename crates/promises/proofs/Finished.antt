-- From every start an end comes: with counts that agree by the bound on the steps, and at once where they don't.
use Prim.Native.Nat.{ℕ, zero, suc, ◌*◌, ◌≤◌, ◌<◌}
use mathlib.Core.List.{List, [], ◌∷◌}
use mathlib.Core.Logic.{◌⊎◌, inl, inr}
use mathlib.Core.Option.{none, some}
use mathlib.Core.Path.{◌≡◌, ◌∙◌, ap}
use native.Mathlib.Omega.{arith}
use lib.Dec.{ltb}
use lib.ListN.{length, replicate, length-replicate}
use Rattle.basics.proofs.Tests.{case, option_case, never}
use Rattle.packed.specs.Packed.{node_count, graph_of}
use Rattle.settings.specs.Settings.{settings_of}
use Rattle.rules.specs.Task.{task_of, graphs_agree}
use Rattle.rules.specs.Search.{Answer, None, Limit}
use Rattle.rules.specs.Handed.{Handed}
use Rattle.placements.specs.Listed.{accepted_of}
use Rattle.placements.specs.Claims.{AtLeastOne, Limited}
use Rattle.placements.proofs.Listing.{limited}
use Rattle.promises.specs.Sessions.{Answered, session, and_then}
use Rattle.promises.specs.Promises.{Begins, CountsAgree, LongEnough, most_steps, ListingMade}
use Rattle.promises.proofs.Continued.{t}
use Rattle.promises.proofs.Sessions.{session-cons}
use Rattle.promises.proofs.Listing.{limit-most, steps_most, begun-free, from_start, task-agrees, the-listing}

module _ (f₀ f₁ s : List ℕ) (h : Handed) (b : Begins f₀ f₁ s h) where
  abbrev Ended : List ℕ → List ℕ → Answer → Type 0
  Ended budgets buffer a = (session f₀ f₁ s budgets h buffer).ending ≡ some (Answered a)

  cut : CountsAgree f₀ f₁ s → (limit : ℕ) → (settings_of s).limit ≡ some limit → Limited (t f₀ f₁ s) limit
  unfolding task_of
  cut agreed limit has = limited (t f₀ f₁ s) limit (task-agrees f₀ f₁ s h b agreed) has (limit-most f₀ f₁ s (begun-free f₀ f₁ s h b) limit has)

  module _ (buffer : List ℕ) (long : LongEnough f₁ buffer) where
    -- no call but the first is needed
    differing : (CountsAgree f₀ f₁ s → ⊥) → (budgets : List ℕ) → 1 ≤ length budgets → Ended budgets buffer None
    differing differ [] any = absurd (omega arith)
    differing differ (n ∷ ns) any =
        ap (λ z. z.ending) (session-cons f₀ f₁ s n ns h buffer)
        ∙ ap (λ z. (and_then (node_count f₁) z (session f₀ f₁ s ns)).ending) (the-listing.no_map f₀ f₁ s h n buffer b differ long)

    module _ (budgets : List ℕ) (one : AtLeastOne budgets) (more : most_steps f₀ f₁ < length budgets) where
      unlimited-ends : (settings_of s).limit ≡ none → Ended budgets buffer None
      unlimited-ends free =
          case (graphs_agree (settings_of s) (graph_of f₀) (graph_of f₁))
          (λ agreed. (the-listing.all_placements f₀ f₁ s h budgets buffer b free agreed long).ending_comes one more)
          (λ differ. differing (λ a. never _ a differ) budgets (omega arith))

      limited-ends : (limit : ℕ) → (settings_of s).limit ≡ some limit → Ended budgets buffer None ⊎ Ended budgets buffer Limit
      limited-ends limit has =
          case (graphs_agree (settings_of s) (graph_of f₀) (graph_of f₁))
          (λ agreed. case (ltb limit (accepted_of (t f₀ f₁ s)))
          (λ over. inr (rw (from_start f₀ f₁ s h b budgets buffer long, (cut agreed limit has).calls_end budgets one (omega (arith, steps_most f₀ f₁ s)), over)))
          (λ within. inl (rw (from_start f₀ f₁ s h b budgets buffer long, (cut agreed limit has).calls_end budgets one (omega (arith, steps_most f₀ f₁ s)), within))))
          (λ differ. inl (differing (λ a. never _ a differ) budgets (omega arith)))

      pub end_comes : Ended budgets buffer None ⊎ Ended budgets buffer Limit
      end_comes = option_case (settings_of s).limit (λ free. inl (unlimited-ends free)) limited-ends

ones : (n : ℕ) → AtLeastOne (replicate n 1)
ones zero = tt
ones (suc n) = (omega arith, ones n)

-- with as many budgets of 1 as there may be steps, and one
pub listing_made : (f₀ f₁ s : List ℕ) (h : Handed) → Begins f₀ f₁ s h → (settings_of s).limit ≡ none → ListingMade f₀ f₁ s
listing_made f₀ f₁ s h b free =
    let calls = suc (most_steps f₀ f₁) in
    let long : LongEnough f₁ (replicate (2 * node_count f₁) 0) = omega (arith, length-replicate {A = ℕ} (2 * node_count f₁) 0) in
    record {
      first_record = h;
      budgets = replicate calls 1;
      buffer = replicate (2 * node_count f₁) 0;
      begins = b;
      long_enough = long;
      ended = unlimited-ends f₀ f₁ s h b _ long (replicate calls 1) (ones calls) (omega (arith, length-replicate {A = ℕ} calls 1)) free;
    }
