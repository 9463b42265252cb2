-- Calls of Continue, one after the other: each goes on from the point at which the last one stopped, until None or Limit.
use Prim.Native.Nat.{ℕ, ◌+◌, ◌≤◌, min}
use mathlib.Core.Bool.{true, false}
use mathlib.Core.List.{List, [], ◌∷◌, ◌++◌, append-nil, append_assoc}
use mathlib.Core.Option.{none, some}
use mathlib.Core.Path.{◌≡◌, refl, sym, ◌∙◌, ap}
use native.Mathlib.Omega.{arith}
use lib.ListN.{length}
use borrow.Author.Tests.{le-ltb}
use Rattle.basics.proofs.Tests.{option_case}
use Rattle.rules.specs.Task.{Task, counts_agree}
use Rattle.rules.specs.Search.{Unwind, Record, started, above, Found, None, Limit, Paused, continue}
use Rattle.placements.specs.Listed.{listed, steps_of, accepted_of}
use Rattle.placements.specs.Calls.{Called, after_call, last_call, calls}
use Rattle.placements.specs.Claims.{AtLeastOne, LimitMost}
use Rattle.placements.proofs.Searched.{nothing, searched}
use Rattle.placements.proofs.Continued.{Point, Exceeded, Ran, ran_none, ran_limit, ran_found, ran_paused, run-from}

module _ (t : Task) where
  pub calls-nil : (r : Record) → calls t [] r ≡ record { maps = []; steps = 0; ending = none; record' = r }
  unfolding calls
  calls-nil r = refl

  module _ (b : ℕ) (bs : List ℕ) (r : Record) where
    pub calls_found : (continue t b r).answer ≡ Found
        → calls t (b ∷ bs) r ≡ after_call t ((continue t b r).record'.path ∷ []) (continue t b r).steps (calls t bs (continue t b r).record')
    unfolding calls
    calls_found e = rw (e, calls)

    pub calls-paused : (continue t b r).answer ≡ Paused
        → calls t (b ∷ bs) r ≡ after_call t [] (continue t b r).steps (calls t bs (continue t b r).record')
    unfolding calls
    calls-paused e = rw (e, calls)

    pub calls-none : (continue t b r).answer ≡ None → calls t (b ∷ bs) r ≡ last_call t (continue t b r)
    unfolding calls
    calls-none e =
        rw (e, calls) (λ i. record { maps = []; steps = (continue t b r).steps; ending = some (e i); record' = (continue t b r).record' })

    pub calls-limit : (continue t b r).answer ≡ Limit → calls t (b ∷ bs) r ≡ last_call t (continue t b r)
    unfolding calls
    calls-limit e =
        rw (e, calls) (λ i. record { maps = []; steps = (continue t b r).steps; ending = some (e i); record' = (continue t b r).record' })

  -- what calls come to, from a point with s steps and these maps behind it
  pub data Ends (budgets : List ℕ) (done : List (List ℕ)) (s : ℕ) (w : Called t) : Type 0 where
    ends_open : w.ending ≡ none → (s' c : ℕ) → Point t w.record' (done ++ w.maps) s' c → w.steps + s ≡ s'
        → (AtLeastOne budgets → length budgets ≤ w.steps) → Ends budgets done s w
    ends_none : w.ending ≡ some None → done ++ w.maps ≡ listed t → w.steps + s ≡ steps_of t → w.record'.path ≡ []
        → w.record'.top ≡ Unwind
        → w.record'.accepted ≡ min (accepted_of t) 4294967295 → above t.settings.limit w.record'.accepted ≡ false
        → Ends budgets done s w
    ends_limit : w.ending ≡ some Limit → (s' c : ℕ) → Exceeded t w.record' (done ++ w.maps) s' c → w.steps + s ≡ s'
        → Ends budgets done s w

  -- a call more in front, which finds these maps
  ends_more : (b : ℕ) (budgets : List ℕ) (done maps : List (List ℕ)) (s n s' : ℕ) (w : Called t) → n + s ≡ s' → (1 ≤ b → 1 ≤ n)
      → Ends budgets (done ++ maps) s' w → Ends (b ∷ budgets) done s (after_call t maps n w)
  ends_more b budgets done maps s n s' w e l (ends_open a s'' c p q h) =
      ends_open a s'' c (rw (append_assoc done maps w.maps) at p) (omega arith) (λ o. let x = l o.0 in let y = h o.1 in omega arith)
  ends_more b budgets done maps s n s' w e l (ends_none a d q x y z v) =
      ends_none a (sym (append_assoc done maps w.maps) ∙ d) (omega arith) x y z v
  ends_more b budgets done maps s n s' w e l (ends_limit a s'' c p q) =
      ends_limit a s'' c (rw (append_assoc done maps w.maps) at p) (omega arith)

  module _ (most : LimitMost t) (agreed : counts_agree t ≡ true) where
    abbrev Calls : List ℕ → Type 0
    Calls budgets = (r : Record) (done : List (List ℕ)) (s c : ℕ) → Point t r done s c → Ends budgets done s (calls t budgets r)

    one-call : (b : ℕ) (budgets : List ℕ) → Calls budgets → (r : Record) (done : List (List ℕ)) (s : ℕ)
        → Ran t most b 0 done s (continue t b r) → Ends (b ∷ budgets) done s (calls t (b ∷ budgets) r)
    one-call b budgets rest r done s (ran_none a e d x y z v) =
        rw (calls-none b budgets r a) (ends_none (ap some a) (append-nil done ∙ d) (omega arith) x y z v)
    one-call b budgets rest r done s (ran_limit a s' c p e) =
        rw (calls-limit b budgets r a) (ends_limit (ap some a) s' c (rw (append-nil done) p) (omega arith))
    one-call b budgets rest r done s (ran_found a s' c p e l) =
        let w = continue t b r in
        rw (calls_found b budgets r a)
        (ends_more b budgets done (w.record'.path ∷ []) s w.steps s' (calls t budgets w.record') (omega arith) (λ h. omega arith)
        (rest w.record' (done ++ (w.record'.path ∷ [])) s' c p))
    one-call b budgets rest r done s (ran_paused a s' c p e l) =
        let w = continue t b r in
        rw (calls-paused b budgets r a)
        (ends_more b budgets done [] s w.steps s' (calls t budgets w.record') (omega arith) (λ h. omega arith)
        (rw (append-nil done) (rest w.record' done s' c p)))

    calls-from : (budgets : List ℕ) → Calls budgets
    calls-from [] r done s c p =
        rw (calls-nil r) (ends_open refl s c (rw (append-nil done) p) (omega arith) (λ o. omega arith))
    calls-from (b ∷ budgets) r done s c p = one-call b budgets (calls-from budgets) r done s (run-from t most agreed b 0 r done s c p)

    -- at Start nothing has been done, and all is left
    start-within : above t.settings.limit 0 ≡ false
    start-within = option_case t.settings.limit (λ h. rw h) (λ limit h. rw h (le-ltb limit 0 (omega arith)))

    at_start : Point t started [] 0 0
    at_start =
        record {
          rest_steps = steps_of t;
          rest_pairs = accepted_of t;
          rest_maps = listed t;
          made = nothing;
          rest = searched t;
          steps_sum = omega arith;
          pairs_sum = omega arith;
          maps_sum = refl;
          counted = refl;
          within = start-within;
        }

    pub calls_end : (budgets : List ℕ) → Ends budgets [] 0 (calls t budgets started)
    calls_end budgets = calls-from budgets started [] 0 0 at_start
