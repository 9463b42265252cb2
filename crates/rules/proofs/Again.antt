-- Continue again and again with one budget is Continue, called from the record that the last call left: a call's steps are the first
-- ones of the whole.
use Prim.Native.Nat.{ℕ, zero, suc, ◌+◌, ◌-◌, ◌≤◌}
use mathlib.Core.Bool.{true, false}
use mathlib.Core.List.{List, [], ◌∷◌, ◌++◌, append-nil}
use mathlib.Core.Option.{none, some}
use mathlib.Core.Path.{◌≡◌, refl, sym, ◌∙◌, ap}
use native.Mathlib.Omega.{arith}
use Rattle.basics.proofs.Tests.{case, option_case}
use Rattle.rules.specs.Task.{Task}
use Rattle.rules.specs.Search.{Record, Answer, Found, None, Limit, Paused, stops, step, Went, run, continue}
use Rattle.rules.specs.Again.{Again, ended, ahead_of, again, found_at}
use Rattle.rules.proofs.Runs.{run-stops, run-pauses, run-finds, run-goes-on, stops-not-found, stops-not-paused}

module _ (t : Task) where
  abbrev stepped : Record → Record
  stepped r = (step t r.path r.top r.accepted).0

  pub again-stops : (b : ℕ) (r : Record) (a : Answer) → stops t r ≡ some a → again t b r ≡ ended a r
  unfolding again
  again-stops zero r a e = rw (e, again)
  again-stops (suc b) r a e = rw (e, again)

  pub again-pauses : (r : Record) → stops t r ≡ none → again t 0 r ≡ ended Paused r
  unfolding again
  again-pauses r e = rw (e, again)

  pub again-finds : (b : ℕ) (r : Record) → stops t r ≡ none → (step t r.path r.top r.accepted).1 ≡ true
      → again t (suc b) r ≡ ahead_of ((stepped r).path ∷ []) 1 (again t b (stepped r))
  unfolding again
  again-finds b r e f = rw (e, again, f)

  pub again-goes-on : (b : ℕ) (r : Record) → stops t r ≡ none → (step t r.path r.top r.accepted).1 ≡ false
      → again t (suc b) r ≡ ahead_of [] 1 (again t b (stepped r))
  unfolding again
  again-goes-on b r e f = rw (e, again, f)

  -- what is known of `again` one step on, is known of it here
  again-later : (b : ℕ) (r : Record) (done : List (List ℕ)) (k : ℕ) (rest : Again) → stops t r ≡ none
      → (step t r.path r.top r.accepted).1 ≡ false → again t b (stepped r) ≡ ahead_of done k rest
      → again t (suc b) r ≡ ahead_of done (suc k) rest
  again-later b r done k rest e f same =
      let one : 1 + (k + rest.steps) ≡ suc k + rest.steps = omega arith in
      again-goes-on b r e f ∙ ap (ahead_of [] 1) same ∙ ap (λ n. record { maps = done ++ rest.maps; ending = rest.ending; steps = n; record' = rest.record' }) one

  ahead-of-none : (a : Again) → ahead_of [] 0 a ≡ a
  ahead-of-none a = let e : 0 + a.steps ≡ a.steps = omega arith in rw e

  pub run-least : (b n : ℕ) (r : Record) → n ≤ (run t b n r).steps
  run-least zero n r =
      option_case (stops t r) (λ e. rw (run-pauses t n r e) (omega arith)) (λ a e. rw (run-stops t 0 n r a e) (omega arith))
  run-least (suc b) n r =
      option_case (stops t r)
      (λ e. case (step t r.path r.top r.accepted).1
      (λ f. rw (run-finds t b n r e f) (omega arith))
      (λ f. rw (run-goes-on t b n r e f) (omega (arith, run-least b (suc n) (stepped r)))))
      (λ a e. rw (run-stops t (suc b) n r a e) (omega arith))

  -- the map that an answer of the tests hands out: none
  found-at-stop : (r q : Record) (a : Answer) → stops t r ≡ some a → found_at a q ≡ []
  found-at-stop r q Found e = absurd (stops-not-found t r Found e refl)
  found-at-stop r q None e = refl
  found-at-stop r q Limit e = refl
  found-at-stop r q Paused e = refl

  -- a call of k steps, and then what is left of the budget
  abbrev Then : ℕ → Record → ℕ → Went → Type 0
  Then m r k w = again t (k + m) r ≡ ahead_of (found_at w.answer w.record') k (again t m w.record')

  then-stops : (m : ℕ) (r : Record) (a : Answer) (k n : ℕ) → stops t r ≡ some a → k ≡ 0 → Then m r k (record { answer = a; steps = n; record' = r })
  then-stops m r a k n e z = let s : 0 + m ≡ m = omega arith in rw (z, s, found-at-stop r r a e) (sym (ahead-of-none (again t m r)))

  run-then : (b n m : ℕ) (r : Record) (k : ℕ) → (run t b n r).steps ≡ n + k → Then m r k (run t b n r)
  run-then zero n m r k s =
      option_case (stops t r)
      (λ e. let z : k ≡ 0 = omega (arith, rw (run-pauses t n r e) at s) in
      let p : 0 + m ≡ m = omega arith in
      rw (run-pauses t n r e, z, p) (sym (ahead-of-none (again t m r))))
      (λ a e. let z : k ≡ 0 = omega (arith, rw (run-stops t 0 n r a e) at s) in rw (run-stops t 0 n r a e) (then-stops m r a k n e z))
  run-then (suc b) n m r k s =
      option_case (stops t r)
      (λ e. case (step t r.path r.top r.accepted).1
      (λ f. let z : k ≡ 1 = omega (arith, rw (run-finds t b n r e f) at s) in
      let p : 1 + m ≡ suc m = omega arith in
      rw (run-finds t b n r e f, z, p) (again-finds m r e f))
      (λ f. let s' : (run t b (suc n) (stepped r)).steps ≡ n + k = rw (run-goes-on t b n r e f) at s in
      let l = run-least b (suc n) (stepped r) in
      let q : suc n + (k - 1) ≡ n + k = omega arith in
      let i : suc (k - 1) ≡ k = omega arith in
      let p : k + m ≡ suc (k - 1 + m) = omega arith in
      let w = run t b (suc n) (stepped r) in
      rw (run-goes-on t b n r e f, p)
      (again-later (k - 1 + m) r (found_at w.answer w.record') (k - 1) (again t m w.record') e f
      (run-then b (suc n) m (stepped r) (k - 1) (s' ∙ sym q))
      ∙ ap (λ j. ahead_of (found_at w.answer w.record') j (again t m w.record')) i)))
      (λ a e. let z : k ≡ 0 = omega (arith, rw (run-stops t (suc b) n r a e) at s) in rw (run-stops t (suc b) n r a e) (then-stops m r a k n e z))

  pub again-continues : (budget more : ℕ) (r : Record) → Then more r (continue t budget r).steps (continue t budget r)
  again-continues budget more r = run-then budget 0 more r (continue t budget r).steps (omega arith)

  -- a budget in two parts
  pub again-parts : (a b : ℕ) (r : Record)
      → again t (a + b) r ≡ ahead_of (again t a r).maps (again t a r).steps (again t b (again t a r).record')
  again-parts zero b r =
      let s : 0 + b ≡ b = omega arith in
      option_case (stops t r)
      (λ e. rw (again-pauses r e, s) (sym (ahead-of-none (again t b r))))
      (λ a e. rw (again-stops 0 r a e, s) (sym (ahead-of-none (again t b r))))
  again-parts (suc a) b r =
      let s : suc a + b ≡ suc (a + b) = omega arith in
      let here = again t a (stepped r) in
      let there = again t b here.record' in
      let sum : 1 + (here.steps + there.steps) ≡ 1 + here.steps + there.steps = omega arith in
      option_case (stops t r)
      (λ e. case (step t r.path r.top r.accepted).1
      (λ f. rw (s, again-finds (a + b) r e f, again-finds a r e f, again-parts a b (stepped r), sum))
      (λ f. rw (s, again-goes-on (a + b) r e f, again-goes-on a r e f, again-parts a b (stepped r), sum)))
      (λ c e. rw (again-stops (suc a + b) r c e, again-stops (suc a) r c e, again-stops b r c e) (sym (ahead-of-none (ended c r))))

  -- no more steps than the budget, and all of them where it pauses
  pub again-within : (b : ℕ) (r : Record) → (again t b r).steps ≤ b
  again-within zero r =
      option_case (stops t r) (λ e. rw (again-pauses r e) (omega arith)) (λ a e. rw (again-stops 0 r a e) (omega arith))
  again-within (suc b) r =
      option_case (stops t r)
      (λ e. case (step t r.path r.top r.accepted).1
      (λ f. rw (again-finds b r e f) (omega (arith, again-within b (stepped r))))
      (λ f. rw (again-goes-on b r e f) (omega (arith, again-within b (stepped r)))))
      (λ a e. rw (again-stops (suc b) r a e) (omega arith))

  pub again-used : (b : ℕ) (r : Record) → (again t b r).ending ≡ Paused → (again t b r).steps ≡ b
  again-used zero r p = omega (arith, again-within zero r)
  again-used (suc b) r p =
      option_case (stops t r)
      (λ e. case (step t r.path r.top r.accepted).1
      (λ f. rw (again-finds b r e f) (omega (arith, again-used b (stepped r) (rw (again-finds b r e f) at p))))
      (λ f. rw (again-goes-on b r e f) (omega (arith, again-used b (stepped r) (rw (again-goes-on b r e f) at p)))))
      (λ a e. absurd (stops-not-paused t r a e (rw (again-stops (suc b) r a e) at p)))

  -- where it did not pause it was stopped, and stays so
  pub again-stopped : (b : ℕ) (r : Record) (a : Answer) → (again t b r).ending ≡ a → (a ≡ Paused → ⊥) → stops t (again t b r).record' ≡ some a
  again-stopped zero r a is goes =
      option_case (stops t r)
      (λ e. absurd (goes (sym (rw (again-pauses r e) at is))))
      (λ c e. rw (again-stops 0 r c e) (e ∙ ap some (rw (again-stops 0 r c e) at is)))
  again-stopped (suc b) r a is goes =
      option_case (stops t r)
      (λ e. case (step t r.path r.top r.accepted).1
      (λ f. rw (again-finds b r e f) (again-stopped b (stepped r) a (rw (again-finds b r e f) at is) goes))
      (λ f. rw (again-goes-on b r e f) (again-stopped b (stepped r) a (rw (again-goes-on b r e f) at is) goes)))
      (λ c e. rw (again-stops (suc b) r c e) (e ∙ ap some (rw (again-stops (suc b) r c e) at is)))

  -- so a larger budget changes nothing
  pub again-enough : (b more : ℕ) (r : Record) → ((again t b r).ending ≡ Paused → ⊥) → again t (b + more) r ≡ again t b r
  again-enough b more r goes =
      let here = again t b r in
      let stopped = again-stopped b r here.ending refl goes in
      let sum : here.steps + 0 ≡ here.steps = omega arith in
      again-parts b more r
      ∙ rw (again-stops more here.record' here.ending stopped, append-nil here.maps, sum)
