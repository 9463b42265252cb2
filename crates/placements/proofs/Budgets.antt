-- A budget bounds the steps of its call, and a call that pauses has made them all: what the next call does is what this one would
-- have done with a larger budget.
use Prim.Native.Nat.{ℕ, zero, suc, ◌+◌}
use mathlib.Core.Path.{◌≡◌, refl, ◌∙◌, ap}
use native.Mathlib.Omega.{arith}
use Rattle.basics.proofs.Tests.{case, option_case}
use Rattle.rules.specs.Task.{Task}
use Rattle.rules.specs.Search.{Record, step, Found, Paused, stops, Went, run, continue}
use Rattle.placements.specs.Claims.{Budgets}
use Rattle.rules.proofs.Runs.{run-stops, run-pauses, run-finds, run-goes-on, run-within, stops-not-paused}

module _ (t : Task) where
  abbrev stepped : Record → Record
  stepped r = (step t r.path r.top r.accepted).0

  -- a call whose count of steps begins at n more
  record Later (n : ℕ) (w v : Went) : Type 0 where
    same_answer : w.answer ≡ v.answer
    more_steps : w.steps ≡ n + v.steps
    same_record : w.record' ≡ v.record'

  later : (b n m : ℕ) (r : Record) → Later n (run t b (n + m) r) (run t b m r)
  later zero n m r =
      option_case (stops t r)
      (λ e. rw (run-pauses t (n + m) r e, run-pauses t m r e) (record { same_answer = refl; more_steps = refl; same_record = refl }))
      (λ a e. rw (run-stops t 0 (n + m) r a e, run-stops t 0 m r a e)
      (record { same_answer = refl; more_steps = refl; same_record = refl }))
  later (suc b) n m r =
      option_case (stops t r)
      (λ e. case (step t r.path r.top r.accepted).1
      (λ f. rw (run-finds t b (n + m) r e f, run-finds t b m r e f)
      (record { same_answer = refl; more_steps = omega arith; same_record = refl }))
      (λ f.
      let same : suc (n + m) ≡ n + suc m = omega arith in
      rw (run-goes-on t b (n + m) r e f, run-goes-on t b m r e f, same) (later b n (suc m) (stepped r))))
      (λ a e. rw (run-stops t (suc b) (n + m) r a e, run-stops t (suc b) m r a e)
      (record { same_answer = refl; more_steps = refl; same_record = refl }))

  run-used : (b n : ℕ) (r : Record) → (run t b n r).answer ≡ Paused → (run t b n r).steps ≡ n + b
  run-used zero n r p =
      option_case (stops t r) (λ e. rw (run-pauses t n r e) (omega arith))
      (λ a e. absurd (stops-not-paused t r a e (rw (run-stops t 0 n r a e) at p)))
  run-used (suc b) n r p =
      option_case (stops t r)
      (λ e. case (step t r.path r.top r.accepted).1
      (λ f. let z : Found ≡ Paused = rw (run-finds t b n r e f) at p in absurd (let w : ◌≡◌ {A = ℕ} 0 1 = cc in omega arith))
      (λ f. rw (run-goes-on t b n r e f) (omega (arith, run-used b (suc n) (stepped r) (rw (run-goes-on t b n r e f) at p)))))
      (λ a e. absurd (stops-not-paused t r a e (rw (run-stops t (suc b) n r a e) at p)))

  -- with a larger budget it goes on where it paused
  run_more : (b m n : ℕ) (r : Record) → (run t b n r).answer ≡ Paused → run t (b + m) n r ≡ run t m (n + b) (run t b n r).record'
  run_more zero m n r p =
      let none_first : 0 + m ≡ m = omega arith in
      let same : n + 0 ≡ n = omega arith in
      option_case (stops t r)
      (λ e. rw (none_first, same, run-pauses t n r e))
      (λ a e. absurd (stops-not-paused t r a e (rw (run-stops t 0 n r a e) at p)))
  run_more (suc b) m n r p =
      let one-first : suc b + m ≡ suc (b + m) = omega arith in
      let same : n + suc b ≡ suc n + b = omega arith in
      option_case (stops t r)
      (λ e. case (step t r.path r.top r.accepted).1
      (λ f. let z : Found ≡ Paused = rw (run-finds t b n r e f) at p in absurd (let w : ◌≡◌ {A = ℕ} 0 1 = cc in omega arith))
      (λ f. rw (one-first, same, run-goes-on t (b + m) n r e f, run-goes-on t b n r e f)
      (run_more b m (suc n) (stepped r) (rw (run-goes-on t b n r e f) at p))))
      (λ a e. absurd (stops-not-paused t r a e (rw (run-stops t (suc b) n r a e) at p)))

  pub budgets : Budgets t
  budgets =
      record {
        within = λ b r. omega (arith, run-within t b 0 r);
        paused_used = λ b r p. omega (arith, run-used b 0 r p);
        goes_on = λ b m r p.
            let same : 0 + b ≡ b + 0 = omega arith in
            let next = (continue t b r).record' in
            let more : continue t (b + m) r ≡ run t m (b + 0) next = rw same at (run_more b m 0 r p) in
            let l = later m b 0 next in (
              ap (λ w. w.answer) more ∙ l.same_answer,
              ap (λ w. w.steps) more ∙ l.more_steps,
              ap (λ w. w.record') more ∙ l.same_record,
            );
      }
