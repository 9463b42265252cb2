-- The listing over bytes: sessions from Start are the rules' calls from Start, whose maps are all placements.
use Prim.Native.Nat.{ℕ, ◌≤◌, min}
use mathlib.Core.Bool.{true, false}
use mathlib.Core.List.{List, [], ◌∷◌, ◌++◌, map}
use mathlib.Core.Option.{Option, none, some}
use mathlib.Core.Path.{◌≡◌, refl, sym, ◌∙◌, ap}
use native.Mathlib.Omega.{arith}
use lib.Dec.{eqb}
use Rattle.basics.proofs.Tests.{false-by, none-not-some}
use Rattle.basics.proofs.Laws.{map-append, count_map, count_same}
use Rattle.packed.specs.Graph.{nodes}
use Rattle.packed.specs.Packed.{node_count, graph_of}
use Rattle.settings.specs.Settings.{settings_of}
use Rattle.packed.proofs.Accepted.{nodes-of-graph}
use Rattle.rules.specs.Task.{Task, task_of, counts_agree}
use Rattle.rules.specs.Search.{Answer, None, Limit, started}
use Rattle.rules.specs.Handed.{Handed}
use Rattle.rules.specs.Calls.{went, went_on, continue_says}
use Rattle.rules.specs.Placement.{Placement}
use Rattle.rules.proofs.Laws.{all-same-from}
use Rattle.placements.specs.Calls.{Called}
use Rattle.placements.specs.Listed.{listed, steps_of, accepted_of}
use Rattle.placements.specs.Claims.{Each, LimitMost, BudgetsAlike, called, FromStart, Listing, id_image, shows_ids}
use Rattle.placements.proofs.Renumbered.{renumbered-placements}
use Rattle.placements.proofs.Accepted.{accepted-stays}
use Rattle.placements.proofs.Bound.{steps_within}
use Rattle.placements.proofs.Greater.{counts_implied}
use Rattle.placements.proofs.Files.{settings-ensure}
use Rattle.placements.proofs.Called.{Ends, ends_open, ends_none, ends_limit, calls_end}
use Rattle.placements.proofs.Listing.{no_map, each_map, listing, first-calls}
use Rattle.promises.specs.Sessions.{Map, image, shows, Ending, Answered, session}
use Rattle.promises.specs.Promises.{ListsAllPlacements, Begins, CountsAgree, LongEnough, IsPlacement, maps_of_rules, most_steps, HoldEveryPlacement, TheListing}
use Rattle.promises.proofs.Files.{NotRefused, not_refused, of-one-kind, begins}
use Rattle.promises.proofs.Continued.{t, most-steps, map_of_path}
use Rattle.promises.proofs.Maps.{counts-of-task, listing-ids, path-image, path-placement}
use Rattle.promises.proofs.Sessions.{endings, seen, continue-handed, session-seen}

-- an ending over bytes is one over the rules
pub ending_of : (o : Option Answer) (e : Ending) → endings o ≡ some e → (a : Answer) × (o ≡ some a) × (e ≡ Answered a)
ending_of none e k = none-not-some k
ending_of (some a) e k = let z : Answered a ≡ e = cc k in (a, refl, sym z)

pub ending-same : (o : Option Answer) (a : Answer) → endings o ≡ some (Answered a) → o ≡ some a
ending-same none a k = none-not-some k
ending-same (some b) a k = let z : b ≡ a = cc k in ap some z

each-of-map : {A B : Type 0} (P : B → Type 0) (f : A → B) (xs : List A) → Each (λ x. P (f x)) xs → Each P (map f xs)
each-of-map P f [] e = tt
each-of-map P f (x ∷ xs) e = (e.0, each-of-map P f xs e.1)

none-limit : None ≡ Limit → ⊥
none-limit e = let z : ◌≡◌ {A = ℕ} 0 1 = cc in omega arith

-- calls that ended with None, with a limit or without, found the whole listing and accepted all of its pairs
pub none-ended : (t : Task) (budgets : List ℕ) (w : Called t) → Ends t budgets [] 0 w → w.ending ≡ some None
    → (w.maps ≡ listed t) × (w.steps ≡ steps_of t) × (w.record'.accepted ≡ min (accepted_of t) 4294967295)
none-ended t budgets w (ends_open a s c p q h) e = none-not-some (sym a ∙ e)
none-ended t budgets w (ends_none a d q x y z v) e = (d, omega arith, z)
none-ended t budgets w (ends_limit a s c p q) e = let k : None ≡ Limit = cc in absurd (none-limit k)

module _ (f₀ f₁ s : List ℕ) where
  module _ (n : NotRefused f₀ f₁ s) (agreed : CountsAgree f₀ f₁ s) where
    pub shown-alike : (φ : ℕ → ℕ) (path : List ℕ)
        → shows (node_count f₁) φ (map_of_path f₀ f₁ s path) ≡ shows_ids (settings_of s) (graph_of f₀) (graph_of f₁) φ path
    shown-alike φ path =
        rw (← nodes-of-graph f₁)
        (all-same-from (λ v. eqb (image (map_of_path f₀ f₁ s path) v) (φ v))
        (λ v. eqb (id_image (settings_of s) (graph_of f₀) (graph_of f₁) path v) (φ v))
        (nodes (graph_of f₁)) 0 (λ v l m. ap (λ x. eqb x (φ v)) (path-image f₀ f₁ s n agreed path v (omega arith))))

    pub holds-every-placement : HoldEveryPlacement f₀ f₁ s (maps_of_rules f₀ f₁ s)
    holds-every-placement =
        let ids = listing-ids f₀ f₁ s n agreed in
        record {
          all_place =
              each-of-map (IsPlacement f₀ f₁ s) (map_of_path f₀ f₁ s) (listed (t f₀ f₁ s))
              (each_map (λ path. Placement (settings_of s) (graph_of f₀) (graph_of f₁) (id_image (settings_of s) (graph_of f₀) (graph_of f₁) path))
              (λ path. IsPlacement f₀ f₁ s (map_of_path f₀ f₁ s path))
              (listed (t f₀ f₁ s)) (path-placement f₀ f₁ s n agreed) ids.all_place);
          each_once = λ φ p.
              count_map (shows (node_count f₁) φ) (map_of_path f₀ f₁ s) (listed (t f₀ f₁ s))
              ∙ count_same (λ path. shows (node_count f₁) φ (map_of_path f₀ f₁ s path)) (shows_ids (settings_of s) (graph_of f₀) (graph_of f₁) φ)
              (listed (t f₀ f₁ s)) (shown-alike φ)
              ∙ ids.each_once φ p;
          as_the_rules_order = refl;
        }

  pub limit-most : NotRefused f₀ f₁ s → LimitMost (t f₀ f₁ s)
  unfolding task_of
  limit-most n limit e = settings-ensure s limit n.settings_good e

  pub steps_most : steps_of (t f₀ f₁ s) ≤ most_steps f₀ f₁
  steps_most = omega (arith, steps_within (t f₀ f₁ s), most-steps f₀ f₁ s)

  module _ (h : Handed) (b : Begins f₀ f₁ s h) where
    pub begun-free : NotRefused f₀ f₁ s
    begun-free = not_refused f₀ f₁ s (begins f₀ f₁ s h b).0

    pub from_start : (budgets buffer : List ℕ) → LongEnough f₁ buffer
        → session f₀ f₁ s budgets h buffer ≡ seen f₀ f₁ s (called (t f₀ f₁ s) budgets) buffer
    from_start budgets buffer long =
        ap (λ h. session f₀ f₁ s budgets h buffer) (begins f₀ f₁ s h b).1
        ∙ session-seen f₀ f₁ s (begins f₀ f₁ s h b).0 budgets started buffer (accepted-stays (t f₀ f₁ s)).at_start long

    -- what budgets don't change of the rules' calls, they don't change of a session
    pub ended-alike : BudgetsAlike (t f₀ f₁ s) → (budgets others buffer : List ℕ) (e e' : Ending) → LongEnough f₁ buffer
        → (session f₀ f₁ s budgets h buffer).ending ≡ some e → (session f₀ f₁ s others h buffer).ending ≡ some e'
        → session f₀ f₁ s budgets h buffer ≡ session f₀ f₁ s others h buffer
    ended-alike alike budgets others buffer e e' long k k' =
        let is = from_start budgets buffer long in
        let other = from_start others buffer long in
        let a = ending_of (called (t f₀ f₁ s) budgets).ending e (sym (ap (λ z. z.ending) is) ∙ k) in
        let a' = ending_of (called (t f₀ f₁ s) others).ending e' (sym (ap (λ z. z.ending) other) ∙ k') in
        is ∙ ap (λ c. seen f₀ f₁ s c buffer) (alike budgets others a.0 a'.0 a.1 a'.1) ∙ sym other

    no-first-map : (CountsAgree f₀ f₁ s → ⊥) → (budget : ℕ) (buffer : List ℕ) → LongEnough f₁ buffer
        → continue_says f₀ f₁ s h budget buffer ≡ went None 0 h buffer
    no-first-map differ budget buffer long =
        let c : counts_agree (t f₀ f₁ s) ≡ false =
        false-by (counts_agree (t f₀ f₁ s)) (λ a. differ (sym (counts-of-task f₀ f₁ s begun-free) ∙ a)) in
        rw (begins f₀ f₁ s h b).1
        (continue-handed f₀ f₁ s (begins f₀ f₁ s h b).0 started budget buffer (accepted-stays (t f₀ f₁ s)).at_start long
        ∙ ap (λ w. went_on (settings_of s) (graph_of f₀) (graph_of f₁) w buffer) (no_map (t f₀ f₁ s) c budget started))

    module _ (agreed : CountsAgree f₀ f₁ s) where
      pub task-agrees : counts_agree (t f₀ f₁ s) ≡ true
      task-agrees = counts-of-task f₀ f₁ s begun-free ∙ agreed

      pub calls_first : (budgets : List ℕ) → FromStart (t f₀ f₁ s) (called (t f₀ f₁ s) budgets)
      calls_first budgets = first-calls (t f₀ f₁ s) task-agrees (limit-most begun-free) budgets

      pub maps-first : (budgets buffer : List ℕ) → LongEnough f₁ buffer
          → (rest : List Map) × ((session f₀ f₁ s budgets h buffer).maps ++ rest ≡ maps_of_rules f₀ f₁ s)
      maps-first budgets buffer long =
          let c = called (t f₀ f₁ s) budgets in
          let r = (calls_first budgets).first_maps in (
            map (map_of_path f₀ f₁ s) r.0,
            ap (λ z. z.maps ++ map (map_of_path f₀ f₁ s) r.0) (from_start budgets buffer long)
                ∙ sym (map-append (map_of_path f₀ f₁ s) c.maps r.0)
                ∙ ap (map (map_of_path f₀ f₁ s)) r.1,
          )

      -- the rules' calls of a session that came to None
      pub none-there : (budgets buffer : List ℕ) → LongEnough f₁ buffer → (session f₀ f₁ s budgets h buffer).ending ≡ some (Answered None)
          → ((called (t f₀ f₁ s) budgets).maps ≡ listed (t f₀ f₁ s))
          × ((called (t f₀ f₁ s) budgets).steps ≡ steps_of (t f₀ f₁ s))
          × ((called (t f₀ f₁ s) budgets).record'.accepted ≡ min (accepted_of (t f₀ f₁ s)) 4294967295)
      none-there budgets buffer long k =
          let c = called (t f₀ f₁ s) budgets in
          none-ended (t f₀ f₁ s) budgets c (calls_end (t f₀ f₁ s) (limit-most begun-free) task-agrees budgets)
          (ending-same c.ending None (sym (ap (λ z. z.ending) (from_start budgets buffer long)) ∙ k))

      pub rules-listing : (settings_of s).limit ≡ none → Listing (t f₀ f₁ s)
      unfolding task_of
      rules-listing free =
          listing (t f₀ f₁ s) (renumbered-placements (settings_of s) (graph_of f₀) (graph_of f₁) (of-one-kind f₀ f₁ s begun-free)).sound
          task-agrees free

      lists-all : (settings_of s).limit ≡ none → (budgets buffer : List ℕ) → LongEnough f₁ buffer → ListsAllPlacements f₀ f₁ s h budgets buffer
      lists-all free budgets buffer long =
          let l = rules-listing free in
          let is = from_start budgets buffer long in
          record {
            ends_whole = λ e k.
                let a = ending_of (called (t f₀ f₁ s) budgets).ending e (sym (ap (λ z. z.ending) is) ∙ k) in
                let w = l.calls_whole budgets a.0 a.1 in (
                  a.2 ∙ ap Answered w.0,
                  rw (is, w.1) (holds-every-placement begun-free agreed),
                );
            first_maps = maps-first budgets buffer long;
            steps_within = rw is (omega (arith, (calls_first budgets).steps_within, most-steps f₀ f₁ s));
            ending_comes = λ one more. rw (is, l.calls_end budgets one (omega (arith, steps_most)));
            budgets_alike = λ others e e' k k'. ended-alike l.budgets_alike budgets others buffer e e' long k k';
            accepted_counted = rw is (calls_first budgets).accepted;
          }

pub the-listing : TheListing
the-listing =
    record {
      all_placements = λ f₀ f₁ s h budgets buffer b free agreed long. lists-all f₀ f₁ s h b agreed free budgets buffer long;
      no_map = λ f₀ f₁ s h budget buffer b differ long. no-first-map f₀ f₁ s h b differ budget buffer long;
      counts_implied =
          λ f₀ f₁ s h φ b greater p. counts_implied (settings_of s) (graph_of f₀) (graph_of f₁) φ greater (of-one-kind f₀ f₁ s (begun-free f₀ f₁ s h b)) p;
    }
