-- Where no limit holds it, a search is a matter of its number of steps: the record that they come to, the pairs that they accept,
-- the maps that they find.
use Prim.Native.Nat.{ℕ, zero, suc, ◌+◌, ◌≤◌}
use mathlib.Core.Bool.{Bool, true, false, cond}
use mathlib.Core.List.{List, [], ◌∷◌, ◌++◌}
use mathlib.Core.Option.{none}
use mathlib.Core.Path.{◌≡◌, refl, ◌∙◌, ap}
use native.Mathlib.Omega.{arith}
use Rattle.rules.specs.Task.{Task}
use Rattle.rules.specs.Search.{Top, Outer, Inner, Unwind, Record, onward, above, raised, step}
use Rattle.placements.specs.Calls.{takes, after, accepted_in, found_in}
use Rattle.placements.proofs.Steps.{step-candidate, step-none, step-taken, step-passed, step_left}
use Rattle.placements.proofs.Searched.{Search, nothing, opened, closed, found, taken, passed, left}

module _ (u : Task) where
  abbrev pub stepped : Record → Record
  stepped r = (step u r.path r.top r.accepted).0

  pub after_more : (s : ℕ) (r : Record) → after u (suc s) r ≡ after u s (stepped r)
  unfolding after
  after_more s r = refl

module _ (u : Task) (free : u.settings.limit ≡ none) where
  never-above : (k : ℕ) → above u.settings.limit k ≡ false
  never-above k = rw free

  pub record Comes (r : Record) (s m : ℕ) (o : List (List ℕ)) (end : List ℕ) (last : Top) : Type 0 where
    pub path_is : (after u s r).path ≡ end
    pub top_is : (after u s r).top ≡ last
    pub accepted_is : accepted_in u s r ≡ m
    pub found_is : found_in u s r ≡ o

  -- one step, and what comes then
  one_more : (r q : Record) (s m : ℕ) (o : List (List ℕ)) (end : List ℕ) (last : Top) (t f : Bool)
      → step u r.path r.top r.accepted ≡ (q, f) → takes u r.path r.top ≡ t
      → Comes q s m o end last → Comes r (suc s) (cond t 1 0 + m) (cond f (r.path ∷ []) [] ++ o) end last
  unfolding accepted_in found_in
  one_more r q s m o end last t f e h c =
      let next : after u (suc s) r ≡ after u s q = after_more u s r ∙ ap (λ z. after u s z.0) e in
      record {
        path_is = ap (λ z. z.path) next ∙ c.path_is;
        top_is = ap (λ z. z.top) next ∙ c.top_is;
        accepted_is = rw (e, h, c.accepted_is);
        found_is = rw (e, c.found_is);
      }

  comes-now : (r : Record) → Comes r 0 0 [] r.path r.top
  unfolding after accepted_in found_in
  comes-now r = record { path_is = refl; top_is = refl; accepted_is = refl; found_is = refl }

  counted : {r : Record} {s m m' : ℕ} {o : List (List ℕ)} {end : List ℕ} {last : Top} → m ≡ m' → Comes r s m o end last
      → Comes r s m' o end last
  counted e c = rw (← e) c

  pub comes : {path end : List ℕ} {top last : Top} {s m : ℕ} {o : List (List ℕ)} → Search u path top s m o end last
      → (k : ℕ) → Comes (record { path = path; top = top; accepted = k }) s m o end last
  comes (nothing {path} {top}) k = comes-now (record { path = path; top = top; accepted = k })
  comes (opened {path} {end} {last} {s} {m} {o} {c} e x) k =
      counted (omega arith)
      (one_more (record { path = path; top = Outer; accepted = k })
      (record { path = path; top = Inner c.node₀; accepted = k }) s m o end last false false (step-candidate u path k c e) refl
      (comes x k))
  comes (closed {path} {end} {last} {s} {m} {o} e w x) k =
      counted (omega arith)
      (one_more (record { path = path; top = Outer; accepted = k })
      (record { path = path; top = Unwind; accepted = k }) s m o end last false false (rw w at (step-none u path k e)) refl (comes x k))
  comes (found {path} {end} {last} {s} {m} {o} e w x) k =
      counted (omega arith)
      (one_more (record { path = path; top = Outer; accepted = k })
      (record { path = path; top = Unwind; accepted = k }) s m o end last false true (rw w at (step-none u path k e)) refl (comes x k))
  comes (taken {path} {end} {last} {s} {m} {x = a} {o} e x) k =
      counted (omega arith)
      (one_more (record { path = path; top = Inner a; accepted = k })
      (record { path = a ∷ path; top = Outer; accepted = raised k }) s m o end last true false
      (step-taken u path a k e (never-above (raised k))) e (comes x (raised k)))
  comes (passed {path} {end} {last} {s} {m} {x = a} {o} e x) k =
      counted (omega arith)
      (one_more (record { path = path; top = Inner a; accepted = k })
      (record { path = path; top = onward u path a; accepted = k }) s m o end last false false (step-passed u path a k e) e (comes x k))
  comes (left {path} {end} {last} {s} {m} {x = a} {o} x) k =
      counted (omega arith)
      (one_more (record { path = a ∷ path; top = Unwind; accepted = k })
      (record { path = path; top = onward u path a; accepted = k }) s m o end last false false (step_left u path a k) refl (comes x k))

-- more steps accept no fewer pairs
pub accepted-more : (u : Task) (s d : ℕ) (r : Record) → accepted_in u s r ≤ accepted_in u (s + d) r
unfolding accepted_in
accepted-more u zero d r = omega arith
accepted-more u (suc s) d r =
    let e : suc s + d ≡ suc (s + d) = omega arith in
    rw e (omega (arith, accepted-more u s d (step u r.path r.top r.accepted).0))
