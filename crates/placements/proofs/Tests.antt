-- What the tests of one direction say. `covers` says that no node with a partner has more edges from v than its partner has from
-- w; `matches` says the same of each label's edges, where no two nodes have the same partner.
use Prim.Native.Nat.{ℕ, zero, suc, ◌+◌, ◌≤◌, ◌<◌}
use mathlib.Core.Bool.{Bool, true, false, cond, ◌&&◌}
use mathlib.Core.List.{List, [], ◌∷◌}
use mathlib.Core.Option.{Option, none, some}
use mathlib.Core.Path.{◌≡◌, refl, sym, ◌∙◌, ap}
use native.Mathlib.Omega.{arith}
use lib.Dec.{eqb, leb}
use borrow.Author.Tests.{eqb-true, eqb-false, leb-true, le-leb, eq-eqb}
use Rattle.basics.specs.Lists.{from}
use Rattle.basics.proofs.Tests.{case, never, and_intro, and_left, and_right, eqb_swap}
use Rattle.basics.proofs.Laws.{from-none, from_suc, count-nil, count-cons}
use Rattle.packed.specs.Graph.{Edge, Graph, nodes}
use Rattle.graph.specs.Walk.{joins, leads}
use Rattle.graph.specs.Within.{Within}
use Rattle.graph.proofs.Walk.{Below, leads_to, joins-leads, leads-below}
use Rattle.order.specs.Claims.{labelled_between}
use Rattle.rules.specs.Task.{Pairs, partner}
use Rattle.rules.specs.Acceptable.{all, if_any, covers, labelled_entry, labelled_entries, labelled_walk, carried, matches}
use Rattle.rules.proofs.Laws.{all_nil, all_cons}
use Rattle.rules.proofs.Matching.{same}
use Rattle.placements.proofs.Sums.{sum, sum_same, sum-zero, sum-add, sum_one, sum-at, sum-most-one}
use Rattle.placements.proofs.Labels.{labelled-cons, passing}
use Rattle.placements.proofs.Subset.{occurs, subset-counts}

pub all-intro : (p : ℕ → Bool) (k i : ℕ) → ((x : ℕ) → i ≤ x → x < i + k → p x ≡ true) → all p (from i k) ≡ true
all-intro p zero i h = rw (from-none i) (all_nil p)
all-intro p (suc k) i h =
    rw (from_suc i k, all_cons p i (from (suc i) k))
    (and_intro (h i (omega arith) (omega arith)) (all-intro p k (suc i) (λ x a b. h x (omega arith) (omega arith))))

pub all-elim : (p : ℕ → Bool) (k i : ℕ) → all p (from i k) ≡ true → (x : ℕ) → i ≤ x → x < i + k → p x ≡ true
all-elim p zero i h x a b = absurd (omega arith)
all-elim p (suc k) i h x a b =
    let both = rw (from_suc i k, all_cons p i (from (suc i) k)) at h in
    case (eqb i x)
    (λ e. rw (eqb-true i x e) at (and_left (p i) (all p (from (suc i) k)) both))
    (λ e. let z = eqb-false i x e in all-elim p k (suc i) (and_right (p i) (all p (from (suc i) k)) both) x (omega arith) (omega arith))

if-any : (o : Option ℕ) (p : ℕ → Bool) → ((y : ℕ) → o ≡ some y → p y ≡ true) → if_any o p ≡ true
if-any none p h = refl
if-any (some y) p h = h y refl

module _ (n : ℕ) (edges others : ℕ → ℕ → ℕ) (partners : ℕ → Option ℕ) (v w : ℕ) where
  abbrev Covers : Type 0
  Covers = (x y : ℕ) → x < n → partners x ≡ some y → edges v x ≤ others w y

  pub covers-intro : Covers → covers n edges others partners v w ≡ true
  unfolding covers
  covers-intro h =
      all-intro (λ x. if_any (partners x) (λ y. leb (edges v x) (others w y))) n 0
      (λ x a b. if-any (partners x) (λ y. leb (edges v x) (others w y)) (λ y e. le-leb (edges v x) (others w y) (h x y (omega arith) e)))

  pub covers-elim : covers n edges others partners v w ≡ true → Covers
  unfolding covers
  covers-elim h x y l e =
      let passed = all-elim (λ x. if_any (partners x) (λ y. leb (edges v x) (others w y))) n 0 h x (omega arith) (omega arith) in
      leb-true (edges v x) (others w y) (rw e at passed)

-- a walk's labelled entries, counted: the edges to the node that have the label
entries_none : (directed : Bool) (v : ℕ) → labelled_entries directed v [] ≡ []
unfolding labelled_entries
entries_none directed v = refl

entries-more : (directed : Bool) (v : ℕ) (e : Edge) (es : List Edge)
    → labelled_entries directed v (e ∷ es) ≡ labelled_entry (leads directed v e) e.label (labelled_entries directed v es)
unfolding labelled_entries
entries-more directed v e es = refl

entry-occurs : (y l k : ℕ) (o : Option ℕ) (r : List (ℕ × ℕ))
    → occurs (y, l) (labelled_entry o k r) ≡ cond (eqb l k) (cond (leads_to o y) 1 0) 0 + occurs (y, l) r
entry-occurs y l k none r = case (eqb l k) (λ e. rw e (omega arith)) (λ e. rw e (omega arith))
entry-occurs y l k (some x) r =
    rw (count-cons (same (y, l)) (x, k) r, eqb_swap y x)
    (case (eqb x y)
    (λ e. rw e)
    (λ e. rw e (case (eqb l k) (λ f. rw f) (λ f. rw f))))

walk-occurs : (directed : Bool) (v y l : ℕ) (es : List Edge)
    → occurs (y, l) (labelled_entries directed v es) ≡ passing directed (λ e. eqb e.label l) es v y
walk-occurs directed v y l [] =
    rw (entries_none directed v) (count-nil (same (y, l)) ∙ sym (count-nil (λ e. joins directed v y e && eqb e.label l)))
walk-occurs directed v y l (e ∷ es) =
    rw (entries-more directed v e es, labelled-cons directed l v y e es, joins-leads directed v y e)
    (omega (arith, entry-occurs y l e.label (leads directed v e) (labelled_entries directed v es), walk-occurs directed v y l es))

-- the entries lead to nodes below n
abbrev Leading : ℕ → List (ℕ × ℕ) → Type 0
Leading n [] = Unit
Leading n (x ∷ xs) = (x.0 < n) × Leading n xs

entry-leading : (n : ℕ) (o : Option ℕ) (k : ℕ) (r : List (ℕ × ℕ)) → Below n o → Leading n r → Leading n (labelled_entry o k r)
entry-leading n none k r h i = i
entry-leading n (some x) k r h i = (h, i)

walk-leading : (directed : Bool) (n v : ℕ) (es : List Edge) → Within n es → Leading n (labelled_entries directed v es)
walk-leading directed n v [] h = rw (entries_none directed v) tt
walk-leading directed n v (e ∷ es) h =
    rw (entries-more directed v e es)
    (entry-leading n (leads directed v e) e.label (labelled_entries directed v es) (leads-below directed n v e h.0.0 h.0.1)
    (walk-leading directed n v es h.1))

module _ (partners : ℕ → Option ℕ) where
  carried-nil : carried partners [] ≡ []
  unfolding carried
  carried-nil = refl

  carried-cons : (x : ℕ × ℕ) (xs : List (ℕ × ℕ)) → carried partners (x ∷ xs) ≡ labelled_entry (partners x.0) x.1 (carried partners xs)
  unfolding carried
  carried-cons x xs = refl

  -- an entry carried to y was one to a node whose partner is y
  carried-occurs : (n y l : ℕ) (r : List (ℕ × ℕ)) → Leading n r
      → occurs (y, l) (carried partners r) ≡ sum n (λ x. cond (leads_to (partners x) y) (occurs (x, l) r) 0)
  carried-occurs n y l [] h =
      rw (carried-nil, count-nil (same (y, l)))
      (sym (sum-zero n (λ x. cond (leads_to (partners x) y) (occurs (x, l) []) 0)
      (λ x i. rw (count-nil (same (x, l))) (case (leads_to (partners x) y) (λ e. rw e) (λ e. rw e)))))
  carried-occurs n y l (z ∷ r) h =
      let split = sum_same n (λ x. cond (leads_to (partners x) y) (occurs (x, l) (z ∷ r)) 0)
      (λ x. cond (eqb x z.0) (cond (leads_to (partners x) y && eqb l z.1) 1 0) 0 + cond (leads_to (partners x) y) (occurs (x, l) r) 0)
      (λ x i. rw (count-cons (same (x, l)) z r) (gates (leads_to (partners x) y) (eqb x z.0) (eqb l z.1) (occurs (x, l) r))) in
      rw (carried-cons z r)
      (omega (
        arith,
        entry-occurs y l z.1 (partners z.0) (carried partners r),
        swapped (eqb l z.1) (leads_to (partners z.0) y),
        carried-occurs n y l r h.1,
        sum-add n (λ x. cond (eqb x z.0) (cond (leads_to (partners x) y && eqb l z.1) 1 0) 0)
            (λ x. cond (leads_to (partners x) y) (occurs (x, l) r) 0),
        sum_one n (λ x. cond (leads_to (partners x) y && eqb l z.1) 1 0) z.0 h.0,
      ))
    where
      gates : (a b c : Bool) (m : ℕ) → cond a (cond (b && c) 1 0 + m) 0 ≡ cond b (cond (a && c) 1 0) 0 + cond a m 0
      gates true true c m = refl
      gates true false c m = refl
      gates false true c m = refl
      gates false false c m = refl

      swapped : (a b : Bool) → ◌≡◌ {A = ℕ} (cond a (cond b 1 0) 0) (cond (b && a) 1 0)
      swapped true true = refl
      swapped true false = refl
      swapped false true = refl
      swapped false false = refl

leads-some : (o : Option ℕ) (y : ℕ) → leads_to o y ≡ true → o ≡ some y
leads-some none y e = never false e refl
leads-some (some x) y e = ap some (eqb-true x y e)

module _ (g h : Graph) (ps : Pairs) (v w : ℕ) (within : Within (nodes g) g.edges) where
  abbrev partners : ℕ → Option ℕ
  partners = partner ((v, w) ∷ ps)

  carried-walk : (y l : ℕ)
      → occurs (y, l) (carried partners (labelled_walk g v)) ≡ sum (nodes g) (λ x. cond (leads_to (partners x) y) (labelled_between g l v x) 0)
  carried-walk y l =
      carried-occurs partners (nodes g) y l (labelled_walk g v) (walk-leading g.directed (nodes g) v g.edges within)
      ∙ sum_same (nodes g) (λ x. cond (leads_to (partners x) y) (occurs (x, l) (labelled_walk g v)) 0)
      (λ x. cond (leads_to (partners x) y) (labelled_between g l v x) 0)
      (λ x i. rw (walk-occurs g.directed v x l g.edges))

  abbrev Matches : Type 0
  Matches = (x y l : ℕ) → x < nodes g → partners x ≡ some y → labelled_between g l v x ≤ labelled_between h l w y

  pub matches-intro : ((x z y : ℕ) → partners x ≡ some y → partners z ≡ some y → x ≡ z) → Matches → matches g h ps v w ≡ true
  matches-intro one m =
      (subset-counts (carried partners (labelled_walk g v)) (labelled_walk h w)).1
      (λ z. rw (carried-walk z.0 z.1, walk-occurs h.directed w z.0 z.1 h.edges)
      (sum-most-one (nodes g) (λ x. leads_to (partners x) z.0) (λ x. labelled_between g z.1 v x) (labelled_between h z.1 w z.0)
      (λ x l e. m x z.0 z.1 l (leads-some (partners x) z.0 e))
      (λ x y l k e f. one x y z.0 (leads-some (partners x) z.0 e) (leads-some (partners y) z.0 f))))

  pub matches-elim : matches g h ps v w ≡ true → Matches
  matches-elim e x y l i p =
      let most = (subset-counts (carried partners (labelled_walk g v)) (labelled_walk h w)).0 e (y, l) in
      let own = sum-at (nodes g) (λ x. cond (leads_to (partners x) y) (labelled_between g l v x) 0) x i in
      let here : cond (leads_to (partners x) y) (labelled_between g l v x) 0 ≡ labelled_between g l v x = rw (p, eq-eqb y y refl) in
      omega (arith, carried-walk y l, walk-occurs h.directed w y l h.edges)
