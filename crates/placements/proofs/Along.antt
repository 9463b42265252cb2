-- Pairs along a relation of the two graphs' nodes: a node's partner is related to it, related nodes are mapped alike, and they
-- follow mapped nodes alike where the relation carries the edges over. Said once, and of the other graph by exchanging the pairs.
use Prim.Native.Nat.{ℕ, ◌<◌}
use mathlib.Core.Bool.{Bool, true, false, ◌||◌}
use mathlib.Core.List.{List, [], ◌∷◌}
use mathlib.Core.Option.{some}
use mathlib.Core.Path.{◌≡◌, refl, sym, ◌∙◌}
use lib.Dec.{eqb, ltb}
use borrow.Author.Tests.{eqb-true, ltb-true, lt-ltb}
use Rattle.basics.specs.Lists.{member}
use Rattle.basics.proofs.Tests.{case, never, none-not-some}
use Rattle.basics.proofs.Laws.{any-nil, any-cons, member-nil, member-head, member-tail, member-cases}
use Rattle.rules.specs.Task.{Pairs, exchanged, mapped, partner}
use Rattle.rules.specs.Marks.{follows}
use Rattle.rules.proofs.Laws.{partner-nil, partner-own, partner-other}

pub follows-nil : (edges : ℕ → ℕ → ℕ) (x : ℕ) → follows edges [] x ≡ false
unfolding follows
follows-nil edges x = any-nil (λ u. ltb 0 (edges u x))

pub follows-cons : (edges : ℕ → ℕ → ℕ) (u : ℕ) (us : List ℕ) (x : ℕ) → follows edges (u ∷ us) x ≡ (ltb 0 (edges u x) || follows edges us x)
unfolding follows
follows-cons edges u us x = any-cons (λ u. ltb 0 (edges u x)) u us

pub or_cases : {C : Type 0} (a b : Bool) → (a || b) ≡ true → (a ≡ true → C) → (b ≡ true → C) → C
or_cases true b e f g = f refl
or_cases false b e f g = g e

pub or_right : (a b : Bool) → b ≡ true → (a || b) ≡ true
or_right true b e = refl
or_right false b e = e

abbrev pub Flipped : (ℕ → ℕ → Type 0) → ℕ → ℕ → Type 0
Flipped R y x = R x y

abbrev pub Along : (ℕ → ℕ → Type 0) → Pairs → Type 0
Along R [] = Unit
Along R (p ∷ ps) = R p.0 p.1 × Along R ps

pub along-exchanged : (R : ℕ → ℕ → Type 0) (ps : Pairs) → Along R ps → Along (Flipped R) (exchanged ps)
along-exchanged R [] o = tt
along-exchanged R (p ∷ ps) o = (o.0, along-exchanged R ps o.1)

pub partner-along : (R : ℕ → ℕ → Type 0) (ps : Pairs) → Along R ps → (x y : ℕ) → partner ps x ≡ some y → R x y
partner-along R [] o x y e = none-not-some (sym (partner-nil x) ∙ e)
partner-along R (p ∷ ps) o x y e =
    case (eqb x p.0)
    (λ h.
    let z = eqb-true x p.0 h in
    let w : p.1 ≡ y = cc (partner-own p.0 p.1 ps x h) in
    rw (z, ← w) o.0)
    (λ h. partner-along R ps o.1 x y (sym (partner-other p.0 p.1 ps x h) ∙ e))

-- no node is related to two
abbrev pub Single : (ℕ → ℕ → Type 0) → Type 0
Single R = (x y z : ℕ) → R x y → R x z → y ≡ z

pub member-along : (R : ℕ → ℕ → Type 0) → Single R → (ps : Pairs) → Along R ps → (x y : ℕ) → R x y → member x (mapped ps) ≡ true
    → member y (mapped (exchanged ps)) ≡ true
member-along R single [] o x y r e = never (member x []) e (member-nil x)
member-along R single (p ∷ ps) o x y r e =
    member-cases x p.0 (mapped ps) e
    (λ z. rw (single x y p.1 r (rw z o.0)) (member-head p.1 (mapped (exchanged ps))))
    (λ m. member-tail y p.1 (mapped (exchanged ps)) (member-along R single ps o.1 x y r m))

-- where related nodes carry edges over, the one follows mapped nodes where the other does
pub follows-along : (R : ℕ → ℕ → Type 0) (edges others : ℕ → ℕ → ℕ) → ((u v x y : ℕ) → R u v → R x y → 0 < edges u x → 0 < others v y)
    → (ps : Pairs) → Along R ps → (x y : ℕ) → R x y → follows edges (mapped ps) x ≡ true → follows others (mapped (exchanged ps)) y ≡ true
follows-along R edges others over [] o x y r e = never (follows edges [] x) e (follows-nil edges x)
follows-along R edges others over (p ∷ ps) o x y r e =
    rw (follows-cons others p.1 (mapped (exchanged ps)) y)
    (or_cases (ltb 0 (edges p.0 x)) (follows edges (mapped ps) x) (rw (follows-cons edges p.0 (mapped ps) x) at e)
    (λ h. rw (lt-ltb 0 (others p.1 y) (over p.0 p.1 x y o.0 r (ltb-true 0 (edges p.0 x) h))))
    (λ h. or_right (ltb 0 (others p.1 y)) _ (follows-along R edges others over ps o.1 x y r h)))
