-- Steps and the end, over bytes: what the rules' run says of its budget, and that a record at which it was stopped stops it again.
use Prim.Native.Nat.{ℕ, ◌≤◌}
use mathlib.Core.List.{List}
use mathlib.Core.Path.{◌≡◌, sym, ◌∙◌, ap}
use native.Mathlib.Omega.{arith}
use Rattle.basics.proofs.Tests.{and_right}
use Rattle.packed.specs.Packed.{graph_of}
use Rattle.settings.specs.Settings.{settings_of}
use Rattle.rules.specs.Search.{Answer, Found, None, Limit, Paused, Went, continue}
use Rattle.rules.specs.Handed.{Handed, record_of, handed, zero_beyond}
use Rattle.rules.specs.Calls.{went, went_on, continue_says}
use Rattle.rules.proofs.Runs.{run-stops, run-ended}
use Rattle.placements.proofs.Accepted.{accepted-stays}
use Rattle.placements.proofs.Budgets.{budgets}
use Rattle.promises.specs.Promises.{LongEnough, StepsAndEnd}
use Rattle.promises.proofs.Continued.{t, Goes, went-goes, went-parts}
use Rattle.promises.proofs.Sessions.{continue-handed}
use Rattle.promises.proofs.Finished.{end_comes, listing_made}

none-not-found : None ≡ Found → ⊥
none-not-found e = let z : ◌≡◌ {A = ℕ} 0 1 = cc in omega arith

none-not-paused : None ≡ Paused → ⊥
none-not-paused e = let z : ◌≡◌ {A = ℕ} 0 1 = cc in omega arith

limit-not-found : Limit ≡ Found → ⊥
limit-not-found e = let z : ◌≡◌ {A = ℕ} 0 1 = cc in omega arith

limit-not-paused : Limit ≡ Paused → ⊥
limit-not-paused e = let z : ◌≡◌ {A = ℕ} 0 1 = cc in omega arith

module _ (f₀ f₁ s : List ℕ) (h h' : Handed) (budget steps : ℕ) where
  abbrev made : Went
  made = continue (t f₀ f₁ s) budget (record_of h)

  module _ (answer : Answer) (buffer buffer' : List ℕ)
      (says : continue_says f₀ f₁ s h budget buffer ≡ went answer steps h' buffer') where
    goes : Goes f₀ f₁ s h buffer
    goes = (went-goes f₀ f₁ s h budget buffer answer steps h' buffer' says).0

    parts : (made.answer ≡ answer) × (made.steps ≡ steps) × (handed made.record' ≡ h')
    parts = let p = went-parts _ _ _ _ _ _ _ _ (went-goes f₀ f₁ s h budget buffer answer steps h' buffer' says).1 in (p.0, p.1, p.2)

    at_most : steps ≤ budget
    at_most = omega (arith, parts.1, (budgets (t f₀ f₁ s)).within budget (record_of h))

    -- the next call is stopped where this one was
    again : (answer ≡ Found → ⊥) → (answer ≡ Paused → ⊥) → (more : ℕ) (next : List ℕ) → LongEnough f₁ next
        → continue_says f₀ f₁ s h' more next
        ≡ went_on (settings_of s) (graph_of f₀) (graph_of f₁) (record { answer = answer; steps = 0; record' = made.record' }) next
    again open' unpaused more next long =
        let stopped = run-ended (t f₀ f₁ s) budget 0 (record_of h) answer open' unpaused parts.0 in
        let good = and_right (zero_beyond h.depth h.path) _ goes.record_accepted in
        ap (λ k. continue_says f₀ f₁ s k more next) (sym parts.2)
        ∙ continue-handed f₀ f₁ s goes.no_line made.record' more next ((accepted-stays (t f₀ f₁ s)).onward budget (record_of h) good) long
        ∙ ap (λ w. went_on (settings_of s) (graph_of f₀) (graph_of f₁) w next) (run-stops (t f₀ f₁ s) more 0 made.record' answer stopped)

pub steps-and-end : StepsAndEnd
steps-and-end =
    record {
      within_budget = at_most;
      paused_used = λ f₀ f₁ s h h' budget steps buffer buffer' says.
          let p = parts f₀ f₁ s h h' budget steps Paused buffer buffer' says in sym p.1 ∙ (budgets (t f₀ f₁ s)).paused_used budget (record_of h) p.0;
      none_again = λ f₀ f₁ s h h' budget steps buffer buffer' says more next long.
          again f₀ f₁ s h h' budget steps None buffer buffer' says none-not-found none-not-paused more next long
          ∙ ap (λ k. went None 0 k next) (parts f₀ f₁ s h h' budget steps None buffer buffer' says).2;
      limit_again = λ f₀ f₁ s h h' budget steps buffer buffer' says more next long.
          again f₀ f₁ s h h' budget steps Limit buffer buffer' says limit-not-found limit-not-paused more next long
          ∙ ap (λ k. went Limit 0 k next) (parts f₀ f₁ s h h' budget steps Limit buffer buffer' says).2;
      end_comes = λ f₀ f₁ s h budgets buffer b long one more. end_comes f₀ f₁ s h b buffer long budgets one more;
      listing_made = listing_made;
    }
