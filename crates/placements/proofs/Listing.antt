-- The listing: without a limit it is all placements, each once, whatever the budgets; with a limit it is cut off at the pair that
-- exceeds it.
use Prim.Native.Nat.{ℕ, suc, ◌+◌, ◌-◌, ◌≤◌, ◌<◌, min}
use mathlib.Core.Bool.{true, false, cond}
use mathlib.Core.List.{List, [], ◌∷◌, append-nil}
use mathlib.Core.Option.{Option, none, some}
use mathlib.Core.Path.{◌≡◌, refl, sym, ◌∙◌, ap}
use native.Mathlib.Omega.{arith}
use lib.Dec.{ltb}
use lib.ListN.{length}
use borrow.Author.Tests.{ltb-true, ltb-false, lt-ltb, le-ltb}
use Rattle.basics.proofs.Tests.{case, none-not-some}
use Rattle.rules.specs.Task.{Task, counts_agree}
use Rattle.rules.specs.Search.{Top, Outer, Inner, Record, started, above, Answer, None, Limit}
use Rattle.placements.specs.Listed.{whole, listed, steps_of, accepted_of}
use Rattle.placements.specs.Calls.{Called, calls, unlimited, after, accepted_in, found_in}
use Rattle.placements.specs.Claims.{Sound, Places, image_in, Each, AtLeastOne, LimitMost, NoMap, FromStart, BudgetsAlike, Listing, Limited}
use Rattle.placements.proofs.Placed.{path-places}
use Rattle.rules.proofs.Runs.{run-stops}
use Rattle.placements.proofs.Searched.{Search, searched}
use Rattle.placements.proofs.Bound.{steps_within}
use Rattle.placements.proofs.Once.{Map, listed-maps, listed_once}
use Rattle.placements.proofs.Unlimited.{search-unlimited}
use Rattle.placements.proofs.Trace.{Comes, comes, accepted-more}
use Rattle.placements.proofs.Continued.{Exceeded}
use Rattle.placements.proofs.Called.{Ends, ends_open, ends_none, ends_limit, calls_end}

pub no_map : (t : Task) → counts_agree t ≡ false → NoMap t
no_map t e b r = run-stops t b 0 r None (rw e)

pub each_map : {A : Type 0} (P Q : A → Type 0) (xs : List A) → ((x : A) → P x → Q x) → Each P xs → Each Q xs
each_map P Q [] f e = tt
each_map P Q (x ∷ xs) f e = (f x e.0, each_map P Q xs f e.1)

pub all_placed : (t : Task) → Sound t → Each (λ path. (whole t path ≡ true) × Places t (image_in t path)) (listed t)
all_placed t sound =
    each_map (Map t) (λ path. (whole t path ≡ true) × Places t (image_in t path)) (listed t)
    (λ path m. (m.map_whole, path-places t sound path m.map_accepted m.map_whole)) (listed-maps t)

none-limit : {C : Type 0} (t : Task) (o : Option (Answer)) → o ≡ some None → o ≡ some Limit → C
none-limit t o e f = absurd (let z : ◌≡◌ {A = ℕ} 0 1 = cc in omega arith)

module _ (t : Task) where
  traced : {s m : ℕ} {o : List (List ℕ)} {end : List ℕ} {last : Top} → Search t [] Outer s m o end last
      → Comes (unlimited t) refl started s m o end last
  traced x = comes (unlimited t) refl (search-unlimited t x) 0

  from_start : LimitMost t → (budgets : List ℕ) (w : Called t) → Ends t budgets [] 0 w → FromStart t w
  from_start most budgets w (ends_open a s c p e h) =
      let x = traced p.made in
      let same : w.steps ≡ s = omega arith in
      record {
        first_maps = (p.rest_maps, p.maps_sum);
        found = rw same (sym x.found_is);
        accepted = rw (same, x.accepted_is) p.counted;
        path_there = λ o. rw same (sym x.path_is);
        top_there = λ o. rw same (sym x.top_is);
        steps_most = omega (arith, p.steps_sum);
        steps_within = omega (arith, p.steps_sum, steps_within t);
      }
  from_start most budgets w (ends_none a d e p q k v) =
      let x = traced (searched t) in
      let same : w.steps ≡ steps_of t = omega arith in
      record {
        first_maps = ([], append-nil w.maps ∙ d);
        found = rw same (d ∙ sym x.found_is);
        accepted = rw (same, x.accepted_is) k;
        path_there = λ o. rw same (p ∙ sym x.path_is);
        top_there = λ o. rw same (q ∙ sym x.top_is);
        steps_most = omega arith;
        steps_within = omega (arith, steps_within t);
      }
  from_start most budgets w (ends_limit a s c p e) =
      let x = traced p.made in
      let same : w.steps ≡ s = omega arith in
      let small = most p.limit p.limited in
      record {
        first_maps = (p.rest_maps, p.maps_sum);
        found = rw same (sym x.found_is);
        accepted = rw (same, x.accepted_is) (omega (arith, p.counted, p.pair_here));
        path_there = λ o. absurd (o a);
        top_there = λ o. absurd (o a);
        steps_most = omega (arith, p.steps_most);
        steps_within = omega (arith, p.steps_most, steps_within t);
      }

  -- without more accepted pairs than the limit
  within-limit : (limit c : ℕ) → t.settings.limit ≡ some limit → limit ≤ 4294967294
      → above t.settings.limit (min c 4294967295) ≡ false → c ≤ limit
  within-limit limit c l most v = let x = ltb-false limit (min c 4294967295) (rw l at v) in omega arith

  same-limit : {a b : ℕ} → t.settings.limit ≡ some a → t.settings.limit ≡ some b → a ≡ b
  same-limit e f = cc

  same-called : (w v : Called t) → w.maps ≡ v.maps → w.steps ≡ v.steps → w.ending ≡ v.ending → w.record'.path ≡ v.record'.path
      → w.record'.top ≡ v.record'.top → w.record'.accepted ≡ v.record'.accepted → w ≡ v
  same-called w v a b c d e f =
      λ i. record { maps = a i; steps = b i; ending = c i; record' = record { path = d i; top = e i; accepted = f i } }

  -- the limit is exceeded only once
  exceeded-once : (r q : Record) (done others : List (List ℕ)) (s z c d : ℕ) → Exceeded t r done s c → Exceeded t q others z d → z ≤ s
      → s ≡ z
  exceeded-once r q done others s z c d x y l =
      let u = unlimited t in
      let limit = same-limit x.limited y.limited in
      let before = (traced x.before).accepted_is in
      let there = (traced y.made).accepted_is in
      case (ltb z s)
      (λ e.
      let less = ltb-true z s e in
      let gap : z + (x.steps_before - z) ≡ x.steps_before = omega (arith, x.step_here) in
      let more = rw gap at (accepted-more u z (x.steps_before - z) started) in
      absurd (omega (arith, y.pair_here)))
      (λ e. let most = ltb-false z s e in omega arith)

  alike-limits : (budgets others : List ℕ) (w v : Called t) (s z c d : ℕ) → w.ending ≡ some Limit → v.ending ≡ some Limit
      → Exceeded t w.record' w.maps s c → Exceeded t v.record' v.maps z d → w.steps + 0 ≡ s → v.steps + 0 ≡ z → w ≡ v
  alike-limits budgets others w v s z c d a b x y e f =
      let same : s ≡ z = case (ltb z s)
      (λ h. exceeded-once w.record' v.record' w.maps v.maps s z c d x y (let k = ltb-true z s h in omega arith))
      (λ h. sym (exceeded-once v.record' w.record' v.maps w.maps z s d c y x (ltb-false z s h))) in
      let limit = same-limit x.limited y.limited in
      let before : x.steps_before ≡ y.steps_before = omega (arith, x.step_here, y.step_here) in
      let p = traced x.before in
      let q = traced y.before in
      let top : Inner x.node ≡ Inner y.node = sym p.top_is ∙ ap (λ n. (after (unlimited t) n started).top) before ∙ q.top_is in
      same-called w v
      (sym p.found_is ∙ ap (λ n. found_in (unlimited t) n started) before ∙ q.found_is)
      (omega arith) (a ∙ sym b)
      (sym p.path_is ∙ ap (λ n. (after (unlimited t) n started).path) before ∙ q.path_is)
      (x.top_is ∙ top ∙ sym y.top_is)
      (omega (arith, x.counted, y.counted, x.pair_here, y.pair_here))

  alike : LimitMost t → (budgets others : List ℕ) (w v : Called t) → Ends t budgets [] 0 w → Ends t others [] 0 v
      → (a b : Answer) → w.ending ≡ some a → v.ending ≡ some b → w ≡ v
  alike most budgets others w v (ends_open o s c p e h) y a b i j = none-not-some (sym o ∙ i)
  alike most budgets others w v (ends_none o d e p q k l) (ends_open x s c y z h) a b i j = none-not-some (sym x ∙ j)
  alike most budgets others w v (ends_none o d e p q k l) (ends_none o' d' e' p' q' k' l') a b i j =
      same-called w v (d ∙ sym d') (omega arith) (o ∙ sym o') (p ∙ sym p') (q ∙ sym q') (k ∙ sym k')
  alike most budgets others w v (ends_none o d e p q k l) (ends_limit x s c y z) a b i j =
      absurd (omega
      (arith, within-limit y.limit (accepted_of t) y.limited (most y.limit y.limited) (rw k at l), y.pairs_most, y.pair_here))
  alike most budgets others w v (ends_limit x s c y z) (ends_open o s' c' p e h) a b i j = none-not-some (sym o ∙ j)
  alike most budgets others w v (ends_limit x s c y z) (ends_none o d e p q k l) a b i j =
      absurd (omega
      (arith, within-limit y.limit (accepted_of t) y.limited (most y.limit y.limited) (rw k at l), y.pairs_most, y.pair_here))
  alike most budgets others w v (ends_limit x s c y z) (ends_limit x' s' c' y' z') a b i j =
      alike-limits budgets others w v s s' c c' x x' y y' z z'

  -- calls that have ended
  module _ (budgets : List ℕ) (w : Called t) where
    open-until : Ends t budgets [] 0 w → AtLeastOne budgets → steps_of t < length budgets → {C : Type 0} → (w.ending ≡ some None → C)
        → (w.ending ≡ some Limit → C) → C
    open-until (ends_open o s c p e h) one more f g = absurd (omega (arith, h one, p.steps_sum))
    open-until (ends_none o d e p q k l) one more f g = f o
    open-until (ends_limit o s c p e) one more f g = g o

    whole-none : Ends t budgets [] 0 w → w.ending ≡ some None → (w.maps ≡ listed t) × (w.steps ≡ steps_of t)
    whole-none (ends_open o s c p e h) i = none-not-some (sym o ∙ i)
    whole-none (ends_none o d e p q k l) i = (d, omega arith)
    whole-none (ends_limit o s c p e) i = none-limit t w.ending i o

    free-ending : t.settings.limit ≡ none → Ends t budgets [] 0 w → (a : Answer) → w.ending ≡ some a
        → (a ≡ None) × (w.maps ≡ listed t) × (w.steps ≡ steps_of t)
    free-ending free (ends_open o s c p e h) a i = none-not-some (sym o ∙ i)
    free-ending free (ends_none o d e p q k l) a i = (cc, d, omega arith)
    free-ending free (ends_limit o s c p e) a i = none-not-some (sym free ∙ p.limited)

    module _ (limit : ℕ) (limited : t.settings.limit ≡ some limit) (most : limit ≤ 4294967294) where
      cut-limit : Ends t budgets [] 0 w → w.ending ≡ some Limit
          → (s : ℕ) × (w.steps ≡ suc s) × (accepted_in (unlimited t) s started ≡ limit) × (accepted_in (unlimited t) (suc s) started ≡ suc limit)
      cut-limit (ends_open o s c p e h) i = none-not-some (sym o ∙ i)
      cut-limit (ends_none o d e p q k l) i = none-limit t w.ending o i
      cut-limit (ends_limit o s c p e) i =
          let same = same-limit p.limited limited in
          let here = p.step_here in (
            p.steps_before,
            omega arith,
            (traced p.before).accepted_is ∙ same,
            (rw here at (traced p.made).accepted_is) ∙ p.pair_here
                ∙ ap suc same,
          )

      limited-ending : Ends t budgets [] 0 w → (a : Answer) → w.ending ≡ some a → a ≡ cond (ltb limit (accepted_of t)) Limit None
      limited-ending (ends_open o s c p e h) a i = none-not-some (sym o ∙ i)
      limited-ending (ends_none o d e p q k l) a i =
          let z : a ≡ None = cc in
          z ∙ sym (rw (le-ltb limit (accepted_of t) (within-limit limit (accepted_of t) limited most (rw k at l))))
      limited-ending (ends_limit o s c p e) a i =
          let z : a ≡ Limit = cc in
          let same = same-limit p.limited limited in
          z ∙ sym (rw (lt-ltb limit (accepted_of t) (omega (arith, p.pairs_most, p.pair_here))))

      limited-accepted : Ends t budgets [] 0 w → w.record'.accepted ≡ accepted_in (unlimited t) w.steps started
      limited-accepted (ends_open o s c p e h) =
          let x = traced p.made in
          let same : w.steps ≡ s = omega arith in
          let small = within-limit limit c limited most (rw p.counted at p.within) in
          rw (same, x.accepted_is) (omega (arith, p.counted))
      limited-accepted (ends_none o d e p q k l) =
          let x = traced (searched t) in
          let same : w.steps ≡ steps_of t = omega arith in
          let small = within-limit limit (accepted_of t) limited most (rw k at l) in
          rw (same, x.accepted_is) (omega arith)
      limited-accepted (ends_limit o s c p e) =
          let x = traced p.made in
          let same : w.steps ≡ s = omega arith in
          rw (same, x.accepted_is) p.counted

module _ (t : Task) (agreed : counts_agree t ≡ true) (most : LimitMost t) where
  pub first-calls : (budgets : List ℕ) → FromStart t (calls t budgets started)
  first-calls budgets = from_start t most budgets (calls t budgets started) (calls_end t most agreed budgets)

  pub budgets_alike : BudgetsAlike t
  budgets_alike budgets others =
      alike t most budgets others (calls t budgets started) (calls t others started) (calls_end t most agreed budgets)
      (calls_end t most agreed others)

  module _ (budgets : List ℕ) where
    abbrev called : Called t
    called = calls t budgets started

    ends : Ends t budgets [] 0 called
    ends = calls_end t most agreed budgets

    ended : AtLeastOne budgets → steps_of t < length budgets → {C : Type 0} → ((a : Answer) → called.ending ≡ some a → C) → C
    ended one more f = open-until t budgets called ends one more (f None) (f Limit)

pub listing : (t : Task) → Sound t → counts_agree t ≡ true → t.settings.limit ≡ none → Listing t
listing t sound agreed free =
    let most : LimitMost t = λ limit e. none-not-some (sym free ∙ e) in
    let whole : (budgets : List ℕ) (a : Answer) → (calls t budgets started).ending ≡ some a
    → (a ≡ None) × ((calls t budgets started).maps ≡ listed t) × ((calls t budgets started).steps ≡ steps_of t) =
    λ budgets. free-ending t budgets (calls t budgets started) free (calls_end t most agreed budgets) in
    record {
      all_place = all_placed t sound;
      each_once = λ φ p. listed_once t φ sound agreed p;
      calls_first = first-calls t agreed most;
      calls_whole = whole;
      calls_end = λ budgets one more. ended t agreed most budgets one more (λ a e. e ∙ ap some (whole budgets a e).0);
      budgets_alike = budgets_alike t agreed most;
      steps_within = steps_within t;
    }

pub limited : (t : Task) (limit : ℕ) → counts_agree t ≡ true → t.settings.limit ≡ some limit → limit ≤ 4294967294 → Limited t limit
limited t limit agreed l small =
    let most : LimitMost t = λ other e. let same = same-limit t e l in omega arith in
    let ends : (budgets : List ℕ) → Ends t budgets [] 0 (calls t budgets started) = calls_end t most agreed in
    let comes : (budgets : List ℕ) (a : Answer) → (calls t budgets started).ending ≡ some a → a ≡ cond
    (ltb limit (accepted_of t)) Limit None =
    λ budgets. limited-ending t budgets (calls t budgets started) limit l small (ends budgets) in
    record {
      calls_first = first-calls t agreed most;
      accepted_exact = λ budgets. limited-accepted t budgets (calls t budgets started) limit l small (ends budgets);
      ending = comes;
      ended_none = λ budgets. whole-none t budgets (calls t budgets started) (ends budgets);
      ended_limit = λ budgets. cut-limit t budgets (calls t budgets started) limit l small (ends budgets);
      calls_end = λ budgets one more. ended t agreed most budgets one more (λ a e. e ∙ ap some (comes budgets a e));
      budgets_alike = budgets_alike t agreed most;
    }
