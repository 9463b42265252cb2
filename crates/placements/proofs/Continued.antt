-- Calls of Continue, whatever their budgets and the limit. Between two steps the record stands at a point of the one search: what
-- has been made leads there from Start, what is left leads on to the end, and together they are the listing.
use Prim.Native.Nat.{ℕ, zero, suc, ◌+◌, ◌≤◌, ◌<◌, min}
use mathlib.Core.Bool.{true, false}
use mathlib.Core.List.{List, [], ◌∷◌, ◌++◌, append-nil, append_assoc}
use mathlib.Core.Option.{some}
use mathlib.Core.Path.{◌≡◌, refl, sym, ◌∙◌, ap}
use native.Mathlib.Omega.{arith}
use lib.Dec.{ltb}
use borrow.Author.Tests.{ltb-true, ltb-false}
use Rattle.basics.proofs.Tests.{case, option_case, never}
use Rattle.rules.specs.Task.{Task, counts_agree}
use Rattle.rules.specs.Search.{Top, Outer, Inner, Unwind, Record, above, raised, step, Found, None, Limit, Paused, is_end, Went, run}
use Rattle.placements.specs.Listed.{listed, steps_of, accepted_of}
use Rattle.placements.specs.Claims.{LimitMost}
use Rattle.rules.proofs.Runs.{outer_goes, inner-goes, run-stops, run-pauses, run-finds, run-goes-on, stops-ended, stops-limited, stops_nowhere}
use Rattle.placements.proofs.Steps.{step-candidate, step-none, step-taken, step-over, step-passed, step_left}
use Rattle.placements.proofs.Searched.{Search, nothing, opened, closed, found, taken, passed, left, retold, then}

raised-counts : (c : ℕ) → min (suc (min c 4294967295)) 4294967295 ≡ min (suc c) 4294967295
raised-counts c = omega arith

module _ (t : Task) where
  -- so many steps and pairs from Start, with these maps
  pub record Point (r : Record) (done : List (List ℕ)) (s c : ℕ) : Type 0 where
    pub rest_steps : ℕ
    pub rest_pairs : ℕ
    pub rest_maps : List (List ℕ)
    pub made : Search t [] Outer s c done r.path r.top
    pub rest : Search t r.path r.top rest_steps rest_pairs rest_maps [] Unwind
    pub steps_sum : s + rest_steps ≡ steps_of t
    pub pairs_sum : c + rest_pairs ≡ accepted_of t
    pub maps_sum : done ++ rest_maps ≡ listed t
    pub counted : r.accepted ≡ min c 4294967295
    pub within : above t.settings.limit r.accepted ≡ false

  -- the limit is exceeded: the pair is acceptable, and one too many
  pub record Exceeded (r : Record) (done : List (List ℕ)) (s c : ℕ) : Type 0 where
    pub limit : ℕ
    pub node : ℕ
    pub rest_maps : List (List ℕ)
    pub limited : t.settings.limit ≡ some limit
    pub steps_before : ℕ
    pub step_here : s ≡ suc steps_before
    pub pair_here : c ≡ suc limit
    pub top_is : r.top ≡ Inner node
    pub before : Search t [] Outer steps_before limit done r.path (Inner node)
    pub made : Search t [] Outer s c done (node ∷ r.path) Outer
    pub steps_most : s ≤ steps_of t
    pub pairs_most : c ≤ accepted_of t
    pub maps_sum : done ++ rest_maps ≡ listed t
    pub counted : r.accepted ≡ c
    pub over : above t.settings.limit r.accepted ≡ true

  -- what a step does at a point
  data Advance (r : Record) (done : List (List ℕ)) (s c : ℕ) : Type 0 where
    at_end : r.path ≡ [] → r.top ≡ Unwind → s ≡ steps_of t → c ≡ accepted_of t → done ≡ listed t → Advance r done s c
    finds : is_end r.path r.top ≡ false → (step t r.path r.top r.accepted).1 ≡ true
        → Point (step t r.path r.top r.accepted).0 (done ++ ((step t r.path r.top r.accepted).0.path ∷ [])) (suc s) c
        → Advance r done s c
    moves : is_end r.path r.top ≡ false → (step t r.path r.top r.accepted).1 ≡ false → (c' : ℕ)
        → Point (step t r.path r.top r.accepted).0 done (suc s) c' → Advance r done s c
    exceeds : is_end r.path r.top ≡ false → (step t r.path r.top r.accepted).1 ≡ false
        → is_end (step t r.path r.top r.accepted).0.path (step t r.path r.top r.accepted).0.top ≡ false
        → Exceeded (step t r.path r.top r.accepted).0 done (suc s) (suc c) → Advance r done s c

  abbrev at : List ℕ → Top → ℕ → Record
  at path top k = record { path = path; top = top; accepted = k }

  point : {path end : List ℕ} {top last : Top} {m n : ℕ} {o : List (List ℕ)} (k s c : ℕ) (done : List (List ℕ))
      → Search t [] Outer s c done path top → Search t path top m n o end last → end ≡ [] → last ≡ Unwind
      → s + m ≡ steps_of t → c + n ≡ accepted_of t → done ++ o ≡ listed t → k ≡ min c 4294967295 → above t.settings.limit k ≡ false
      → Point (at path top k) done s c
  point {m} {n} {o} k s c done made rest e f a b d g w =
      record {
        rest_steps = m;
        rest_pairs = n;
        rest_maps = o;
        made = made;
        rest = rw (e, f) at rest;
        steps_sum = a;
        pairs_sum = b;
        maps_sum = d;
        counted = g;
        within = w;
      }

  -- one step more has been made
  module _ {s c : ℕ} {done : List (List ℕ)} {path : List ℕ} {top : Top} (made : Search t [] Outer s c done path top) where
    made_more : {m : ℕ} {o : List (List ℕ)} {next : List ℕ} {turn : Top} → Search t path top 1 m o next turn
        → Search t [] Outer (suc s) (c + m) (done ++ o) next turn
    made_more x = retold t (omega arith) refl refl (then t made x)

    made_plain : {next : List ℕ} {turn : Top} → Search t path top 1 0 [] next turn → Search t [] Outer (suc s) c done next turn
    made_plain x = retold t refl (omega arith) (append-nil done) (made_more x)

  module _ (most : LimitMost t) where
    -- one pair too many
    exceeded-by : (c k : ℕ) → k ≡ min c 4294967295 → above t.settings.limit k ≡ false
        → above t.settings.limit (raised k) ≡ true
        → {C : Type 0} → ((limit : ℕ) → t.settings.limit ≡ some limit → c ≡ limit → raised k ≡ suc c → C) → C
    exceeded-by c k e w o f =
        option_case t.settings.limit
        (λ h. never (above t.settings.limit (raised k)) o (rw h))
        (λ limit h.
        let below : ltb limit k ≡ false = rw h at w in
        let past : ltb limit (raised k) ≡ true = rw h at o in
        let x = ltb-false limit k below in
        let y = ltb-true limit (raised k) past in
        let z = most limit h in
        f limit h (omega arith) (omega arith))

    advance-at : {path end : List ℕ} {top last : Top} {m n : ℕ} {o : List (List ℕ)} (k s c : ℕ) (done : List (List ℕ))
        → Search t [] Outer s c done path top → Search t path top m n o end last → end ≡ [] → last ≡ Unwind
        → s + m ≡ steps_of t → c + n ≡ accepted_of t → done ++ o ≡ listed t → k ≡ min c 4294967295 → above t.settings.limit k ≡ false
        → Advance (at path top k) done s c
    advance-at k s c done made nothing e f a b d g w = at_end e f (omega arith) (omega arith) (sym (append-nil done) ∙ d)
    advance-at k s c done made (opened {path} {c = x} h y) e f a b d g w =
        let step_is = step-candidate t path k x h in
        moves (outer_goes path) (rw step_is) c
        (rw step_is (point k (suc s) c done (made_plain made (opened h nothing)) y e f (omega arith) b d g w))
    advance-at k s c done made (closed {path} h v y) e f a b d g w =
        let step_is : step t path Outer k ≡ (at path Unwind k, false) = rw v at (step-none t path k h) in
        moves (outer_goes path) (rw step_is) c
        (rw step_is (point k (suc s) c done (made_plain made (closed h v nothing)) y e f (omega arith) b d g w))
    advance-at k s c done made (found {path} {o} h v y) e f a b d g w =
        let step_is : step t path Outer k ≡ (at path Unwind k, true) = rw v at (step-none t path k h) in
        finds (outer_goes path) (rw step_is)
        (rw step_is
        (point k (suc s) c (done ++ (path ∷ [])) (retold t refl (omega arith) refl (made_more made (found h v nothing))) y e f
        (omega arith) b
        (append_assoc done (path ∷ []) o ∙ d) g w))
    advance-at k s c done made (taken {path} {s = m} {m = n} {x} {o} h y) e f a b d g w =
        case (above t.settings.limit (raised k))
        (λ v.
        let step_is = step-over t path x k h v in
        exceeded-by c k g w v
        (λ limit l same up.
        exceeds (inner-goes path x) (rw step_is) (rw step_is (inner-goes path x))
        (rw step_is
        (record {
          limit = limit;
          node = x;
          rest_maps = o;
          limited = l;
          steps_before = s;
          step_here = refl;
          pair_here = ap suc same;
          top_is = refl;
          before = rw same at made;
          made = retold t refl (omega arith) (append-nil done) (made_more made (taken h nothing));
          steps_most = omega arith;
          pairs_most = omega arith;
          maps_sum = d;
          counted = up;
          over = v;
        }))))
        (λ v.
        let step_is = step-taken t path x k h v in
        moves (inner-goes path x) (rw step_is) (suc c)
        (rw step_is
        (point (raised k) (suc s) (suc c) done (retold t refl (omega arith) (append-nil done) (made_more made (taken h nothing))) y e f
        (omega arith) (omega arith)
        d (rw g (raised-counts c)) v)))
    advance-at k s c done made (passed {path} {x} h y) e f a b d g w =
        let step_is = step-passed t path x k h in
        moves (inner-goes path x) (rw step_is) c
        (rw step_is (point k (suc s) c done (made_plain made (passed h nothing)) y e f (omega arith) b d g w))
    advance-at k s c done made (left {path} {x} y) e f a b d g w =
        let step_is = step_left t path x k in
        moves refl (rw step_is) c
        (rw step_is (point k (suc s) c done (made_plain made (left nothing)) y e f (omega arith) b d g w))

    advance : (r : Record) (done : List (List ℕ)) (s c : ℕ) → Point r done s c → Advance r done s c
    advance r done s c p =
        advance-at r.accepted s c done p.made p.rest refl refl p.steps_sum p.pairs_sum p.maps_sum p.counted p.within

    -- what one call comes to, from a point with s steps behind it and n of them in this call
    pub data Ran (b n : ℕ) (done : List (List ℕ)) (s : ℕ) (w : Went) : Type 0 where
      ran_none : w.answer ≡ None → w.steps + s ≡ n + steps_of t → done ≡ listed t → w.record'.path ≡ [] → w.record'.top ≡ Unwind
          → w.record'.accepted ≡ min (accepted_of t) 4294967295 → above t.settings.limit w.record'.accepted ≡ false
          → Ran b n done s w
      ran_limit : w.answer ≡ Limit → (s' c : ℕ) → Exceeded w.record' done s' c → w.steps + s ≡ n + s' → Ran b n done s w
      ran_found : w.answer ≡ Found → (s' c : ℕ) → Point w.record' (done ++ (w.record'.path ∷ [])) s' c → w.steps + s ≡ n + s'
          → n < w.steps → Ran b n done s w
      ran_paused : w.answer ≡ Paused → (s' c : ℕ) → Point w.record' done s' c → w.steps + s ≡ n + s' → w.steps ≡ n + b
          → Ran b n done s w

    ran-later : (b n : ℕ) (done : List (List ℕ)) (s : ℕ) (w : Went) → Ran b (suc n) done (suc s) w → Ran (suc b) n done s w
    ran-later b n done s w (ran_none a e d p q c o) = ran_none a (omega arith) d p q c o
    ran-later b n done s w (ran_limit a s' c x e) = ran_limit a s' c x (omega arith)
    ran-later b n done s w (ran_found a s' c x e l) = ran_found a s' c x (omega arith) (omega arith)
    ran-later b n done s w (ran_paused a s' c x e l) = ran_paused a s' c x (omega arith) (omega arith)

    module _ (agreed : counts_agree t ≡ true) where
      -- a call at a point, where what a smaller budget comes to after a step is known
      abbrev Onward : ℕ → ℕ → Record → List (List ℕ) → ℕ → Type 0
      Onward b n r done s =
          (c : ℕ) → Point (step t r.path r.top r.accepted).0 done (suc s) c → Ran b (suc n) done (suc s)
          (run t b (suc n) (step t r.path r.top r.accepted).0)

      module _ (n : ℕ) (r : Record) (done : List (List ℕ)) (s c : ℕ) (p : Point r done s c) where
        run_end : (b : ℕ) → r.path ≡ [] → r.top ≡ Unwind → s ≡ steps_of t → c ≡ accepted_of t → done ≡ listed t
            → Ran b n done s (run t b n r)
        run_end b e f x y z =
            rw (run-stops t b n r None (stops-ended t r agreed (rw (e, f))))
            (ran_none refl (omega arith) z e f (p.counted ∙ ap (λ k. min k 4294967295) y) p.within)

        run-used : is_end r.path r.top ≡ false → Ran 0 n done s (run t 0 n r)
        run-used e = rw (run-pauses t n r (stops_nowhere t r agreed e p.within)) (ran_paused refl s c p (omega arith) (omega arith))

        run_none : Advance r done s c → Ran 0 n done s (run t 0 n r)
        run_none (at_end e f x y z) = run_end 0 e f x y z
        run_none (finds e f q) = run-used e
        run_none (moves e f c' q) = run-used e
        run_none (exceeds e f g q) = run-used e

        run-some : (b : ℕ) → Onward b n r done s → Advance r done s c → Ran (suc b) n done s (run t (suc b) n r)
        run-some b on (at_end e f x y z) = run_end (suc b) e f x y z
        run-some b on (finds e f q) =
            rw (run-finds t b n r (stops_nowhere t r agreed e p.within) f) (ran_found refl (suc s) c q (omega arith) (omega arith))
        run-some b on (moves e f c' q) =
            rw (run-goes-on t b n r (stops_nowhere t r agreed e p.within) f)
            (ran-later b n done s (run t b (suc n) (step t r.path r.top r.accepted).0) (on c' q))
        run-some b on (exceeds e f g q) =
            let next = (step t r.path r.top r.accepted).0 in
            rw (run-goes-on t b n r (stops_nowhere t r agreed e p.within) f, run-stops t b (suc n) next Limit (stops-limited t next agreed g q.over))
            (ran_limit refl (suc s) (suc c) q (omega arith))

      pub run-from : (b n : ℕ) (r : Record) (done : List (List ℕ)) (s c : ℕ) → Point r done s c → Ran b n done s (run t b n r)
      run-from zero n r done s c p = run_none n r done s c p (advance r done s c p)
      run-from (suc b) n r done s c p =
          run-some n r done s c p b (λ c' q. run-from b (suc n) (step t r.path r.top r.accepted).0 done (suc s) c' q)
          (advance r done s c p)
