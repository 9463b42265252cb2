-- Records that are handed out are accepted, and those that are accepted are the ones that the search passes on its way from Start.
use Prim.Native.Nat.{ℕ, ◌*◌, ◌≤◌}
use mathlib.Core.Bool.{Bool, true, false, cond}
use mathlib.Core.List.{List, ◌++◌}
use mathlib.Core.Option.{none, some}
use mathlib.Core.Path.{◌≡◌, sym, ◌∙◌, ap, subst}
use native.Mathlib.Omega.{arith}
use lib.Dec.{ltb}
use lib.ListN.{length}
use Rattle.basics.proofs.Tests.{and_left, and_right}
use Rattle.packed.specs.Packed.{node_count, graph_of}
use Rattle.packed.specs.Refusals.{Refused, first}
use Rattle.settings.specs.Settings.{settings_of}
use Rattle.packed.proofs.First.{first-behind}
use Rattle.rules.specs.Task.{Task}
use Rattle.rules.specs.Search.{Record, started, accepted_record}
use Rattle.rules.specs.Handed.{Handed, record_of, path_bytes, handed, zero_beyond, accepted_handed}
use Rattle.rules.specs.Calls.{pair_lines, or_went, record_lines, continue_says}
use Rattle.rules.proofs.Stays.{record-passes}
use Rattle.rules.proofs.Handed.{chosen-length}
use Rattle.placements.specs.Calls.{unlimited, after}
use Rattle.placements.proofs.Accepted.{accepted-stays}
use Rattle.placements.proofs.Bound.{steps_within}
use Rattle.placements.proofs.Records.{records}
use Rattle.promises.specs.Promises.{refusal_of, AcceptedNext, PassedAfter, RecordsMeanSomething}
use Rattle.promises.proofs.Files.{not_refused, files-accepted, begins}
use Rattle.promises.proofs.Bytes.{accepted-handed, bytes-again, handed-length}
use Rattle.promises.proofs.Continued.{t, task-nodes₀, most-steps, continue-goes, went-goes, went-parts, goes-unless}

-- an accepted path is no longer than file 0's nodes are many
depth_most : (f₀ f₁ s : List ℕ) → first (pair_lines f₀ f₁ s) ≡ none → (r : Record) → accepted_record (t f₀ f₁ s) r ≡ true → length r.path ≤ 128
depth_most f₀ f₁ s free r e =
    omega (arith, (record-passes (t f₀ f₁ s) r e).deep₀, task-nodes₀ f₀ f₁ s, (files-accepted f₀ f₁ s (not_refused f₀ f₁ s free)).0.nodes_most)

module _ (f₀ f₁ s : List ℕ) (h : Handed) where
  -- with an accepted record only line 10 is left
  accepted-next : first (pair_lines f₀ f₁ s) ≡ none → length h.path ≡ 128 → accepted_handed (t f₀ f₁ s) h ≡ true → AcceptedNext f₀ f₁ s h
  unfolding first
  accepted-next free long e =
      record {
        path_bytes = long;
        not_nine = λ budget buffer r k n.
            let short = ltb (length buffer) (2 * node_count f₁) in
            let left : first (pair_lines f₀ f₁ s ++ record_lines (t f₀ f₁ s) h (node_count f₁) buffer) ≡ cond
            short (some (record { number = 10; file = 0 })) none =
            first-behind (pair_lines f₀ f₁ s) _ free ∙ rw e in
            by-line short budget buffer r left k n;
        goes = λ budget buffer long.
            ap refusal_of (continue-goes f₀ f₁ s h budget buffer (record { no_line = free; record_accepted = e; long = long }));
      }
    where
      by-line : (short : Bool) (budget : ℕ) (buffer : List ℕ) (r : Refused)
          → first (pair_lines f₀ f₁ s ++ record_lines (t f₀ f₁ s) h (node_count f₁) buffer) ≡ cond
          short (some (record { number = 10; file = 0 })) none
          → refusal_of (continue_says f₀ f₁ s h budget buffer) ≡ some r → r.number ≡ 9 → ⊥
      by-line true budget buffer r left k n =
          let z = sym (ap (λ o. refusal_of (or_went o (settings_of s) (graph_of f₀) (graph_of f₁) h budget buffer)) left) ∙ k in
          let same : ◌≡◌ {A = ℕ} 10 r.number = cc z in
          omega arith
      by-line false budget buffer r left k n =
          let z = sym (ap (λ o. refusal_of (or_went o (settings_of s) (graph_of f₀) (graph_of f₁) h budget buffer)) left) ∙ k in
          let w : ◌≡◌ {A = ℕ} 0 1 = cc z in
          omega arith

-- a record handed over
handed-next : (f₀ f₁ s : List ℕ) → first (pair_lines f₀ f₁ s) ≡ none → (r : Record) → accepted_record (t f₀ f₁ s) r ≡ true
    → AcceptedNext f₀ f₁ s (handed r)
handed-next f₀ f₁ s free r e =
    accepted-next f₀ f₁ s (handed r) free (handed-length r.path (depth_most f₀ f₁ s free r e)) (accepted-handed (t f₀ f₁ s) r e)

-- the accepted count plays no part
count-aside : (t : Task) (r : Record) (k : ℕ) → accepted_record t r ≡ true → accepted_record t (record { path = r.path; top = r.top; accepted = k }) ≡ true
unfolding accepted_record
count-aside t r k e = e

module _ (f₀ f₁ s : List ℕ) (free : first (pair_lines f₀ f₁ s) ≡ none) (h : Handed) where
  abbrev passing : ℕ → Record
  passing steps = after (unlimited (t f₀ f₁ s)) steps started

  passed_accepted : (steps : ℕ) → PassedAfter f₀ f₁ s h steps → accepted_handed (t f₀ f₁ s) h ≡ true
  passed_accepted steps p =
      let r : Record = record { path = (passing steps).path; top = (passing steps).top; accepted = h.accepted } in
      let same : handed r ≡ h =
      λ i. record { depth = p.same_depth i; path = p.same_path i; top = p.same_top i; accepted = h.accepted } in
      sym (ap (accepted_handed (t f₀ f₁ s)) same)
      ∙ accepted-handed (t f₀ f₁ s) r
      (count-aside (t f₀ f₁ s) (passing steps) h.accepted ((records (t f₀ f₁ s)).passed_accepted steps))

  accepted_passed : length h.path ≡ 128 → accepted_handed (t f₀ f₁ s) h ≡ true → (steps : ℕ) × PassedAfter f₀ f₁ s h steps
  accepted_passed long e =
      let zeros = and_left (zero_beyond h.depth h.path) (accepted_record (t f₀ f₁ s) (record_of h)) e in
      let good = and_right (zero_beyond h.depth h.path) (accepted_record (t f₀ f₁ s) (record_of h)) e in
      let deep : h.depth ≤ 128 = omega (arith, chosen-length h.depth h.path, depth_most f₀ f₁ s free (record_of h) good) in
      let p = (records (t f₀ f₁ s)).accepted_passed (record_of h) good in (
        p.0,
        record {
          within = omega (arith, p.1, steps_within (t f₀ f₁ s), most-steps f₀ f₁ s);
          same_depth = ap length p.2 ∙ chosen-length h.depth h.path;
          same_path = ap path_bytes p.2 ∙ bytes-again h.depth h.path long deep zeros;
          same_top = p.3;
        },
      )

pub records-mean-something : RecordsMeanSomething
records-mean-something =
    record {
      of_start = λ f₀ f₁ s h b.
          let start = begins f₀ f₁ s h b in
          subst (AcceptedNext f₀ f₁ s) (sym start.1)
          (handed-next f₀ f₁ s start.0 started (accepted-stays (t f₀ f₁ s)).at_start);
      of_continue = λ f₀ f₁ s h h' budget steps a buffer buffer' e.
          let g = went-goes f₀ f₁ s h budget buffer a steps h' buffer' e in
          let good = and_right (zero_beyond h.depth h.path) _ g.0.record_accepted in
          subst (AcceptedNext f₀ f₁ s) (went-parts _ _ _ _ _ _ _ _ g.1).2
          (handed-next f₀ f₁ s g.0.no_line _ ((accepted-stays (t f₀ f₁ s)).onward budget (record_of h) good));
      passed_exactly = λ f₀ f₁ s h₀ b agreed h budget buffer path-long long.
          let free = (begins f₀ f₁ s h₀ b).0 in (
            λ e. accepted_passed f₀ f₁ s free h path-long (goes-unless f₀ f₁ s h budget buffer e).record_accepted,
            λ p.
                ap refusal_of
                (continue-goes f₀ f₁ s h budget buffer
                (record { no_line = free; record_accepted = passed_accepted f₀ f₁ s free h p.0 p.1; long = long })),
          );
    }
