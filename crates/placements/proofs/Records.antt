-- The search passes every accepted record. From Outer on an accepted path it comes to each node that is tried there, and from a node
-- whose pair is acceptable to Outer on the longer path; the steps before, there and after add up to those of the whole search.
use Prim.Native.Nat.{ℕ, zero, suc, ◌+◌, ◌-◌, ◌≤◌}
use mathlib.Core.Bool.{true}
use mathlib.Core.List.{List, [], ◌∷◌, ◌++◌}
use mathlib.Core.Option.{some}
use mathlib.Core.Path.{◌≡◌, refl, sym, ◌∙◌}
use native.Mathlib.Omega.{arith}
use lib.ListN.{length}
use Rattle.basics.specs.Lists.{from, keep, total, member}
use Rattle.basics.proofs.Tests.{case, none-not-some, never}
use Rattle.basics.proofs.Laws.{total-cons, member-nil, member-cases, member-head, member-tail, member-kept, from_member}
use Rattle.packed.specs.Graph.{nodes}
use Rattle.rules.specs.Task.{Task}
use Rattle.rules.specs.Marks.{Candidate, head}
use Rattle.rules.specs.Search.{Top, Outer, Inner, Unwind, Record, started, pairs_of, candidate_at, inner_or, onward, accepts, offered, accepted_path, top_offered}
use Rattle.placements.specs.Listed.{tried, steps_from, steps_of}
use Rattle.placements.specs.Calls.{unlimited, after}
use Rattle.placements.specs.Claims.{Records}
use Rattle.placements.proofs.Candidates.{in_list₀}
use Rattle.rules.proofs.Stays.{offered-in-list, path-joined, path-last}
use Rattle.placements.proofs.Paths.{accepted-nil, tried-offered, depth₁, no-candidate}
use Rattle.placements.proofs.Accepted.{Good, good-accepted, accepted-good, steps-keep-good, start-good}
use Rattle.placements.proofs.Searched.{Search, nothing, opened, taken, passed, left, then, next-kept, tried-list, tried-first, onward-next, steps_at, steps-more, below}
use Rattle.placements.proofs.Unlimited.{accepts-same, offered-same, search-unlimited}
use Rattle.placements.proofs.Trace.{comes, stepped}

module _ (t : Task) where
  -- the search comes there from Start in so many steps
  record Made (path : List ℕ) (top : Top) (s : ℕ) : Type 0 where
    pairs : ℕ
    maps : List (List ℕ)
    search : Search t [] Outer s pairs maps path top

  made_then : {path next : List ℕ} {top turn : Top} {s n m : ℕ} {o : List (List ℕ)} → Made path top s → Search t path top n m o next turn
      → Made next turn (s + n)
  made_then {m} {o} x y = record { pairs = x.pairs + m; maps = x.maps ++ o; search = then t x.search y }

  made_in : {path : List ℕ} {top : Top} {s n : ℕ} → s ≡ n → Made path top s → Made path top n
  made_in e x = rw (← e) x

  -- at a node that is tried, with so many steps left once it has been
  record Tries (k : ℕ) (path : List ℕ) (x rest : ℕ) : Type 0 where
    steps : ℕ
    made : Made path (Inner x) steps
    left_over : ℕ
    sum : steps + (steps_at t k path x + (left_over + rest)) ≡ steps_of t

  -- Outer on a path, with so many steps left from its Unwind on
  record Stage (k : ℕ) (path : List ℕ) : Type 0 where
    steps : ℕ
    made : Made path Outer steps
    rest : ℕ
    sum : steps + (steps_from t k path + rest) ≡ steps_of t

  module _ (k : ℕ) (path : List ℕ) (accepted : accepted_path t path ≡ true) (deep : nodes t.graph₁ ≤ suc k + length path) (c : Candidate) (e : candidate_at t path ≡ some c) where
    -- from a node that is tried to the next
    past : (a : ℕ) (r : List ℕ) → offered t path a ≡ true
        → keep (in_list₀ t (pairs_of t path) c.list) (from (suc a) (nodes t.graph₀ - suc a)) ≡ r
        → (s : ℕ) → Made path (Inner a) s → Made path (inner_or (head r)) (s + steps_at t k path a)
    past a r o h s made =
        rw (← onward-next t path c a r e h)
        (case (accepts t path a)
        (λ f.
        let whole =
        below t path (onward t path a) k (a ∷ path) (path-joined t a path accepted o f) (omega arith) 1 0 [] (left nothing) in
        let here : steps_at t k path a ≡ suc (suc (steps_from t k (a ∷ path))) = rw f in
        made_in (omega arith) (made_then made (taken f whole)))
        (λ f.
        let here : steps_at t k path a ≡ 1 = rw f in
        made_in (omega arith) (made_then made (passed f nothing))))

    tries-in : (i : ℕ) (r : List ℕ) → keep (in_list₀ t (pairs_of t path) c.list) (from i (nodes t.graph₀ - i)) ≡ r
        → ((y : ℕ) → member y r ≡ true → offered t path y ≡ true)
        → (s rest : ℕ) → Made path (inner_or (head r)) s → s + (total (steps_at t k path) r + rest) ≡ steps_of t
        → (x : ℕ) → member x r ≡ true → Tries k path x rest
    tries-in i [] h o s rest made sum x m = never (member x []) m (member-nil x)
    tries-in i (a ∷ r) h o s rest made sum x m =
        let others = next-kept (in_list₀ t (pairs_of t path) c.list) (nodes t.graph₀) i a r h in
        member-cases x a r m
        (λ z. rw z (record {
          steps = s;
          made = made;
          left_over = total (steps_at t k path) r;
          sum = omega
              (arith, total-cons (steps_at t k path) a r);
        }))
        (λ later.
        tries-in (suc a) r others (λ y l. o y (member-tail y a r l)) (s + steps_at t k path a) rest
        (past a r (o a (member-head a r)) others s made)
        (omega (arith, total-cons (steps_at t k path) a r)) x later)

    tries : (g : Stage (suc k) path) (x : ℕ) → member x (tried t path) ≡ true → Tries k path x g.rest
    tries g x m =
        let n = nodes t.graph₀ in
        let list = tried-list t path c e in
        let whole_run : n - 0 ≡ n = omega arith in
        let first = tried-first t path c e in
        let made : Made path (inner_or (head (tried t path))) (g.steps + 1) = rw first (made_then g.made (opened e nothing)) in
        tries-in 0 (tried t path) (rw whole_run (sym list)) (tried-offered t path) (g.steps + 1) g.rest made
        (omega (arith, g.sum, steps-more t k path)) x m

  offered-tried : (path : List ℕ) (x : ℕ) → offered t path x ≡ true → member x (tried t path) ≡ true
  unfolding tried
  offered-tried path x o =
      let less = (offered-in-list t path x o).less in
      member-kept (offered t path) x (from 0 (nodes t.graph₀)) o (from_member (nodes t.graph₀) 0 x (omega arith) (omega arith))

  tries-at : (k : ℕ) (path : List ℕ) → accepted_path t path ≡ true → nodes t.graph₁ ≤ suc k + length path
      → (g : Stage (suc k) path) (x : ℕ) → offered t path x ≡ true → Tries k path x g.rest
  tries-at k path a deep g x o =
      let i = offered-in-list t path x o in
      tries k path a deep i.candidate' i.is g x (offered-tried path x o)

  -- there is a pair less to come with each that is there
  stage : (k : ℕ) (path : List ℕ) → accepted_path t path ≡ true → k + length path ≡ nodes t.graph₁ → Stage k path
  stage k [] a deep =
      let same : k ≡ nodes t.graph₁ = omega arith in
      record { steps = 0; made = record { pairs = 0; maps = []; search = nothing }; rest = 0; sum = rw same (omega arith) }
  stage k (x ∷ path) a deep =
      let shorter = (path-last t x path a).0 in
      let g = stage (suc k) path shorter (omega arith) in
      let f = (path-last t x path a).2 in
      let here : steps_at t k path x ≡ suc (suc (steps_from t k (x ∷ path))) = rw f in
      let y = tries-at k path shorter (omega arith) g x (path-last t x path a).1 in
      record {
        steps = y.steps + 1;
        made = made_then y.made (taken f nothing);
        rest = suc (y.left_over + g.rest);
        sum = omega (arith, y.sum);
      }

  -- an accepted record's path and top
  record Passed (path : List ℕ) (top : Top) : Type 0 where
    steps : ℕ
    made : Made path top steps
    most : steps ≤ steps_of t

  passes : (path : List ℕ) (top : Top) → accepted_path t path ≡ true → top_offered t path top ≡ true → Passed path top
  passes path Outer a o =
      let g = stage (nodes t.graph₁ - length path) path a (omega (arith, depth₁ t path a)) in
      record { steps = g.steps; made = g.made; most = omega (arith, g.sum) }
  passes path Unwind a o =
      let k = nodes t.graph₁ - length path in
      let deep = depth₁ t path a in
      let g = stage k path a (omega arith) in
      let whole = below t path Unwind k path a (omega arith) 0 0 [] nothing in
      record { steps = g.steps + (steps_from t k path + 0); made = made_then g.made whole; most = omega (arith, g.sum) }
  passes path (Inner x) a o =
      inner (nodes t.graph₁ - length path) (omega (arith, depth₁ t path a))
    where
      inner : (k : ℕ) → k + length path ≡ nodes t.graph₁ → Passed path (Inner x)
      inner zero deep =
          none-not-some (sym (no-candidate t path a (omega arith)) ∙ (offered-in-list t path x o).is)
      inner (suc k) deep =
          let g = stage (suc k) path a deep in
          let y = tries-at k path a (omega arith) g x o in
          record { steps = y.steps; made = y.made; most = omega (arith, y.sum) }

  -- and only accepted ones are passed
  after-good : (s : ℕ) (r : Record) → Good (unlimited t) r → Good (unlimited t) (after (unlimited t) s r)
  unfolding after
  after-good zero r g = g
  after-good (suc s) r g = after-good s (stepped (unlimited t) r) (steps-keep-good (unlimited t) r g)

  path-same : (path : List ℕ) → accepted_path (unlimited t) path ≡ true → accepted_path t path ≡ true
  path-same [] e = accepted-nil t
  path-same (x ∷ path) e =
      path-joined t x path (path-same path (path-last (unlimited t) x path e).0)
      (sym (offered-same t path x) ∙ (path-last (unlimited t) x path e).1)
      (sym (accepts-same t path x) ∙ (path-last (unlimited t) x path e).2)

  top-same : (path : List ℕ) (top : Top) → top_offered (unlimited t) path top ≡ true → top_offered t path top ≡ true
  top-same path Outer e = refl
  top-same path (Inner x) e = sym (offered-same t path x) ∙ e
  top-same path Unwind e = refl

  pub records : Records t
  records =
      record {
        passed_accepted = λ s.
            let r = after (unlimited t) s started in
            let g = after-good s started (start-good (unlimited t)) in
            good-accepted t r
            (record { path_accepted = path-same r.path g.path_accepted; offered_top = top-same r.path r.top g.offered_top });
        accepted_passed = λ r e.
            let g = accepted-good t r e in
            let p = passes r.path r.top g.path_accepted g.offered_top in
            let c = comes (unlimited t) refl (search-unlimited t p.made.search) 0 in
            (p.steps, p.most, c.path_is, c.top_is);
      }
