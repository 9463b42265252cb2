-- Sessions with a limit, beside a whole one under the same settings but for the limit.
use Prim.Native.Nat.{ℕ, ◌≤◌, min}
use mathlib.Core.Bool.{cond}
use mathlib.Core.List.{List, map}
use mathlib.Core.Option.{some}
use mathlib.Core.Path.{◌≡◌, sym, ◌∙◌, ap, fun_ext}
use native.Mathlib.Omega.{arith}
use lib.Dec.{ltb}
use borrow.Author.Tests.{ltb-true, lt-ltb}
use Rattle.basics.proofs.Tests.{by-iff}
use Rattle.packed.specs.Graph.{Graph}
use Rattle.packed.specs.Packed.{graph_of}
use Rattle.settings.specs.Settings.{Settings, settings_of}
use Rattle.rules.specs.Task.{Task, task_of}
use Rattle.rules.specs.Search.{Answer, None, Limit, map_of, map_of_ids}
use Rattle.rules.specs.Handed.{Handed}
use Rattle.placements.specs.Listed.{listed, steps_of, accepted_of}
use Rattle.placements.specs.Calls.{Called, unlimited, without_limit}
use Rattle.placements.specs.Claims.{called, Limited}
use Rattle.placements.proofs.Unlimited.{pairs-same, limit-plays-no-part}
use Rattle.placements.proofs.Listing.{limited}
use Rattle.promises.specs.Sessions.{Map, Ending, Answered, Session, session}
use Rattle.promises.specs.Promises.{Begins, CountsAgree, LongEnough, maps_of_rules, ListsFirstMaps, WithALimit}
use Rattle.rules.specs.Calls.{begun, or_begun}
use Rattle.promises.proofs.Files.{begins, no_line}
use Rattle.promises.proofs.Settings.{unlimited_bytes, unlimited-good, unlimited-settings}
use Rattle.promises.proofs.Continued.{t, map_of_path, most-steps}
use Rattle.promises.proofs.Sessions.{seen}
use Rattle.promises.proofs.Listing.{ending_of, ending-same, limit-most, steps_most, begun-free, from_start, task-agrees, maps-first, none-there, ended-alike}

-- the limit plays no part in the listing's maps

map_same : (t : Task) (path : List ℕ) → map_of (unlimited t) path ≡ map_of t path
unfolding map_of
map_same t path = rw (pairs-same t path)

abbrev maps_of : Settings → Graph → Graph → List Map
maps_of set g₀ g₁ = map (map_of_ids set g₀ g₁) (listed (task_of set g₀ g₁))

module _ (set : Settings) (g₀ g₁ : Graph) where
  pairs-unlimited : (path : List ℕ) → map_of_ids (without_limit set) g₀ g₁ path ≡ map_of_ids set g₀ g₁ path
  unfolding task_of
  pairs-unlimited path = rw (map_same (task_of set g₀ g₁) path)

  listed-unlimited : listed (task_of (without_limit set) g₀ g₁) ≡ listed (task_of set g₀ g₁)
  unfolding task_of
  listed-unlimited = (limit-plays-no-part (task_of set g₀ g₁)).same_maps

  maps-unlimited : maps_of (without_limit set) g₀ g₁ ≡ maps_of set g₀ g₁
  maps-unlimited =
      ap (λ f. map f (listed (task_of (without_limit set) g₀ g₁))) (fun_ext pairs-unlimited)
      ∙ ap (map (map_of_ids set g₀ g₁)) listed-unlimited

  steps-unlimited : steps_of (task_of (without_limit set) g₀ g₁) ≡ steps_of (task_of set g₀ g₁)
  unfolding task_of
  steps-unlimited = (limit-plays-no-part (task_of set g₀ g₁)).same_steps

  accepted-unlimited : accepted_of (task_of (without_limit set) g₀ g₁) ≡ accepted_of (task_of set g₀ g₁)
  unfolding task_of
  accepted-unlimited = (limit-plays-no-part (task_of set g₀ g₁)).same_accepted

below-most : (limit k : ℕ) → limit ≤ 4294967294 → ltb limit (min k 4294967295) ≡ ltb limit k
below-most limit k small =
    by-iff (ltb limit (min k 4294967295)) (ltb limit k)
    (λ e. let l = ltb-true limit (min k 4294967295) e in lt-ltb limit k (omega arith))
    (λ e. let l = ltb-true limit k e in lt-ltb limit (min k 4294967295) (omega arith))

module _ (f₀ f₁ s s' : List ℕ) (h h' : Handed) (limit : ℕ) (b : Begins f₀ f₁ s h) (has : (settings_of s).limit ≡ some limit)
    (b' : Begins f₀ f₁ s' h') (but : settings_of s' ≡ without_limit (settings_of s)) (agreed : CountsAgree f₀ f₁ s) where
  agreed' : CountsAgree f₀ f₁ s'
  agreed' = rw but agreed

  small : limit ≤ 4294967294
  unfolding task_of
  small = limit-most f₀ f₁ s (begun-free f₀ f₁ s h b) limit has

  cut : Limited (t f₀ f₁ s) limit
  unfolding task_of
  cut = limited (t f₀ f₁ s) limit (task-agrees f₀ f₁ s h b agreed) has small

  same_maps : maps_of_rules f₀ f₁ s' ≡ maps_of_rules f₀ f₁ s
  same_maps = ap (λ set. maps_of set (graph_of f₀) (graph_of f₁)) but ∙ maps-unlimited (settings_of s) (graph_of f₀) (graph_of f₁)

  same_steps : steps_of (t f₀ f₁ s') ≡ steps_of (t f₀ f₁ s)
  same_steps =
      ap (λ set. steps_of (task_of set (graph_of f₀) (graph_of f₁))) but ∙ steps-unlimited (settings_of s) (graph_of f₀) (graph_of f₁)

  same_accepted : accepted_of (t f₀ f₁ s') ≡ accepted_of (t f₀ f₁ s)
  same_accepted =
      ap (λ set. accepted_of (task_of set (graph_of f₀) (graph_of f₁))) but ∙ accepted-unlimited (settings_of s) (graph_of f₀) (graph_of f₁)

  module _ (all buffer' : List ℕ) (long' : LongEnough f₁ buffer')
      (ended : (session f₀ f₁ s' all h' buffer').ending ≡ some (Answered None)) where
    abbrev whole : Session
    whole = session f₀ f₁ s' all h' buffer'

    whole_is : whole ≡ seen f₀ f₁ s' (called (t f₀ f₁ s') all) buffer'
    whole_is = from_start f₀ f₁ s' h' b' all buffer' long'

    whole-maps : whole.maps ≡ maps_of_rules f₀ f₁ s
    whole-maps =
        ap (λ z. z.maps) whole_is
        ∙ ap (map (map_of_path f₀ f₁ s')) (none-there f₀ f₁ s' h' b' agreed' all buffer' long' ended).0
        ∙ same_maps

    whole-steps : whole.steps ≡ steps_of (t f₀ f₁ s)
    whole-steps =
        ap (λ z. z.steps) whole_is ∙ (none-there f₀ f₁ s' h' b' agreed' all buffer' long' ended).1 ∙ same_steps

    whole-accepted : whole.handed'.accepted ≡ min (accepted_of (t f₀ f₁ s)) 4294967295
    whole-accepted =
        ap (λ z. z.handed'.accepted) whole_is
        ∙ (none-there f₀ f₁ s' h' b' agreed' all buffer' long' ended).2
        ∙ ap (λ k. min k 4294967295) same_accepted

    compared : ltb limit whole.handed'.accepted ≡ ltb limit (accepted_of (t f₀ f₁ s))
    compared = ap (ltb limit) whole-accepted ∙ below-most limit (accepted_of (t f₀ f₁ s)) small

    module _ (budgets buffer : List ℕ) (long : LongEnough f₁ buffer) where
      abbrev part : Called (t f₀ f₁ s)
      part = called (t f₀ f₁ s) budgets

      is : session f₀ f₁ s budgets h buffer ≡ seen f₀ f₁ s part buffer
      is = from_start f₀ f₁ s h b budgets buffer long

      rules-ending : (a : Answer) → (session f₀ f₁ s budgets h buffer).ending ≡ some (Answered a) → part.ending ≡ some a
      rules-ending a k = ending-same part.ending a (sym (ap (λ z. z.ending) is) ∙ k)

      ending-is : (e : Ending) → (session f₀ f₁ s budgets h buffer).ending ≡ some e
          → e ≡ Answered (cond (ltb limit whole.handed'.accepted) Limit None)
      ending-is e k =
          let a = ending_of part.ending e (sym (ap (λ z. z.ending) is) ∙ k) in
          rw compared (a.2 ∙ ap Answered (cut.ending budgets a.0 a.1))

      lists-first : ListsFirstMaps f₀ f₁ s h budgets buffer limit whole
      lists-first =
          record {
            first_maps = let r = maps-first f₀ f₁ s h b agreed budgets buffer long in (r.0, r.1 ∙ sym whole-maps);
            ending = ending-is;
            ending_comes = λ one more. rw (is, compared, cut.calls_end budgets one (omega (arith, steps_most f₀ f₁ s)));
            whole_at_none = λ k.
                let w = cut.ended_none budgets (rules-ending None k) in (
                  ap (λ z. z.maps) is ∙ ap (map (map_of_path f₀ f₁ s)) w.0 ∙ sym whole-maps,
                  ap (λ z. z.steps) is ∙ w.1 ∙ sym whole-steps,
                );
            maps_found = rw is (ap (map (map_of_path f₀ f₁ s)) (cut.calls_first budgets).found);
            steps_within = rw is (omega (arith, (cut.calls_first budgets).steps_within, most-steps f₀ f₁ s));
            limit_at = λ k.
                let w = cut.ended_limit budgets (rules-ending Limit k) in (w.0, ap (λ z. z.steps) is ∙ w.1, w.2, w.3);
            one_more_at_limit = λ k.
                let w = cut.ended_limit budgets (rules-ending Limit k) in rw (is, cut.accepted_exact budgets, w.1) w.3;
            accepted_counted = rw is (cut.accepted_exact budgets);
            budgets_alike = λ others e e' k k'. ended-alike f₀ f₁ s h b cut.budgets_alike budgets others buffer e e' long k k';
          }

pub with-a-limit : WithALimit
with-a-limit =
    record {
      limit_dropped = λ f₀ f₁ s h b.
          let n = begun-free f₀ f₁ s h b in
          let bytes = unlimited_bytes (settings_of s) in
          let start = (begins f₀ f₁ s h b).1 in
          let free = no_line f₀ f₁ bytes
          (record { no_line₀ = n.no_line₀; no_line₁ = n.no_line₁; kinds = n.kinds; settings_good = unlimited-good (settings_of s) }) in
          (bytes, ap or_begun free ∙ ap begun (sym start), unlimited-settings (settings_of s));
      first_maps = λ f₀ f₁ s s' h budgets buffer limit whole b has but agreed long.
          lists-first f₀ f₁ s s' h whole.first_record limit b has whole.begins but agreed whole.budgets whole.buffer
          whole.long_enough whole.ended budgets buffer long;
    }
