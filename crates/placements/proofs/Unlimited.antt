-- The limit plays no part in what is tried and accepted, and so none in the listing.
use Prim.Native.Nat.{ℕ, zero, suc}
use mathlib.Core.List.{List, [], ◌∷◌}
use mathlib.Core.Option.{Option, none, some}
use mathlib.Core.Path.{◌≡◌, refl, sym, ◌∙◌, ap, fun_ext}
use Rattle.basics.specs.Lists.{from, keep, total}
use Rattle.packed.specs.Graph.{nodes}
use Rattle.rules.specs.Task.{Task, Pairs}
use Rattle.rules.specs.Marks.{OpenList, Candidate, candidate, next_from}
use Rattle.rules.specs.Acceptable.{linked, labelled, ahead, same_label, feasible, acceptable}
use Rattle.rules.specs.Search.{Top, pairs_of, candidate_at, node_of, in_its_list, next_top, onward, accepts, offered}
use Rattle.placements.specs.Listed.{joined, tried, or_itself, maps_from, steps_from, pairs_from}
use Rattle.placements.specs.Calls.{unlimited}
use Rattle.placements.specs.Claims.{LimitPlaysNoPart}
use Rattle.rules.proofs.Stays.{pairs-cons, pairs-nil}
use Rattle.placements.proofs.Searched.{steps_at, pairs_at, maps_at, steps-last, pairs-last, maps-last, steps-more, pairs-more, maps-more, Search, nothing, opened, closed, found, taken, passed, left}

module _ (t : Task) where
  candidate-same : (ps : Pairs) → candidate (unlimited t) ps ≡ candidate t ps
  unfolding candidate
  candidate-same ps = refl

  acceptable-same : (ps : Pairs) (a b : ℕ) → acceptable (unlimited t) ps a b ≡ acceptable t ps a b
  unfolding acceptable feasible linked labelled ahead same_label
  acceptable-same ps a b = refl

  next-same : (ps : Pairs) (list : OpenList) (x : ℕ) → next_from (unlimited t) ps list x ≡ next_from t ps list x
  unfolding next_from
  next-same ps list x = refl

  pub pairs-same : (path : List ℕ) → pairs_of (unlimited t) path ≡ pairs_of t path
  pairs-same [] = rw (pairs-nil (unlimited t), pairs-nil t)
  pairs-same (x ∷ path) =
      rw (pairs-cons (unlimited t) x path, pairs-cons t x path, pairs-same path, candidate-same (pairs_of t path))

  pub candidate-at-same : (path : List ℕ) → candidate_at (unlimited t) path ≡ candidate_at t path
  candidate-at-same path = rw (pairs-same path, candidate-same (pairs_of t path))

  pub accepts-same : (path : List ℕ) (x : ℕ) → accepts (unlimited t) path x ≡ accepts t path x
  unfolding accepts
  accepts-same path x =
      rw (candidate-at-same path, pairs-same path, acceptable-same (pairs_of t path) x (node_of (candidate_at t path)))

  next-top-same : (ps : Pairs) (c : Option Candidate) (x : ℕ) → next_top (unlimited t) ps c x ≡ next_top t ps c x
  next-top-same ps none x = refl
  next-top-same ps (some c) x = rw (next-same ps c.list x)

  pub onward-same : (path : List ℕ) (x : ℕ) → onward (unlimited t) path x ≡ onward t path x
  unfolding onward
  onward-same path x = rw (candidate-at-same path, pairs-same path) (next-top-same (pairs_of t path) (candidate_at t path) x)

  in-list-same : (ps : Pairs) (c : Option Candidate) (x : ℕ) → in_its_list (unlimited t) ps c x ≡ in_its_list t ps c x
  in-list-same ps none x = refl
  in-list-same ps (some c) x = refl

  pub offered-same : (path : List ℕ) (x : ℕ) → offered (unlimited t) path x ≡ offered t path x
  unfolding offered
  offered-same path x = rw (candidate-at-same path, pairs-same path) (in-list-same (pairs_of t path) (candidate_at t path) x)

  tried_same : (path : List ℕ) → tried (unlimited t) path ≡ tried t path
  unfolding tried
  tried_same path = ap (λ p. keep p (from 0 (nodes t.graph₀))) (fun_ext (offered-same path))

  steps-same : (k : ℕ) (path : List ℕ) → steps_from (unlimited t) k path ≡ steps_from t k path
  steps-same zero path = steps-last (unlimited t) path ∙ sym (steps-last t path)
  steps-same (suc k) path =
      let each : steps_at (unlimited t) k path ≡ steps_at t k path = fun_ext (λ x. rw (accepts-same path x, steps-same k (x ∷ path))) in
      rw (steps-more (unlimited t) k path, steps-more t k path, tried_same path) (ap (λ f. suc (total f (tried t path))) each)

  accepted-same : (k : ℕ) (path : List ℕ) → pairs_from (unlimited t) k path ≡ pairs_from t k path
  accepted-same zero path = pairs-last (unlimited t) path ∙ sym (pairs-last t path)
  accepted-same (suc k) path =
      let each : pairs_at (unlimited t) k path ≡ pairs_at t k path = fun_ext (λ x. rw (accepts-same path x, accepted-same k (x ∷ path))) in
      rw (pairs-more (unlimited t) k path, pairs-more t k path, tried_same path) (ap (λ f. total f (tried t path)) each)

  or-itself-same : (path l : List ℕ) (maps : List (List ℕ)) → or_itself (unlimited t) path l maps ≡ or_itself t path l maps
  or-itself-same path [] maps = refl
  or-itself-same path (x ∷ l) maps = refl

  maps-same : (k : ℕ) (path : List ℕ) → maps_from (unlimited t) k path ≡ maps_from t k path
  maps-same zero path = maps-last (unlimited t) path ∙ sym (maps-last t path)
  maps-same (suc k) path =
      let each : maps_at (unlimited t) k path ≡ maps_at t k path = fun_ext (λ x. rw (accepts-same path x, maps-same k (x ∷ path))) in
      rw (maps-more (unlimited t) k path, maps-more t k path, tried_same path)
      (or-itself-same path (tried t path) (joined (maps_at (unlimited t) k path) (tried t path))
      ∙ ap (λ f. or_itself t path (tried t path) (joined f (tried t path))) each)

  pub limit-plays-no-part : LimitPlaysNoPart t
  limit-plays-no-part =
      record {
        same_maps = maps-same (nodes t.graph₁) [];
        same_steps = steps-same (nodes t.graph₁) [];
        same_accepted = accepted-same (nodes t.graph₁) [];
      }

  -- a search is one of the unlimited task too
  pub search-unlimited : {path end : List ℕ} {top last : Top} {s m : ℕ} {o : List (List ℕ)} → Search t path top s m o end last
      → Search (unlimited t) path top s m o end last
  search-unlimited nothing = nothing
  search-unlimited (opened {path} e x) = opened (candidate-at-same path ∙ e) (search-unlimited x)
  search-unlimited (closed {path} e w x) = closed (candidate-at-same path ∙ e) w (search-unlimited x)
  search-unlimited (found {path} e w x) = found (candidate-at-same path ∙ e) w (search-unlimited x)
  search-unlimited (taken {path} {x = a} e x) = taken (accepts-same path a ∙ e) (search-unlimited x)
  search-unlimited (passed {path} {end} {last} {s} {m} {x = a} {o} e x) =
      let further : Search (unlimited t) path (onward (unlimited t) path a) s m o end last = rw (onward-same path a) (search-unlimited x) in
      passed (accepts-same path a ∙ e) further
  search-unlimited (left {path} {end} {last} {s} {m} {x = a} {o} x) =
      let further : Search (unlimited t) path (onward (unlimited t) path a) s m o end last = rw (onward-same path a) (search-unlimited x) in
      left further
