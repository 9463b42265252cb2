-- The first that applies: the line at a place is given exactly when its test holds and no test before it does,
-- and a reading is the graph exactly when no test holds.
use Prim.Native.Nat.{ℕ, zero, suc, ◌+◌, ◌≤◌, ◌<◌}
use mathlib.Core.Bool.{Bool, true, false}
use mathlib.Core.List.{List, [], ◌∷◌, ◌++◌}
use mathlib.Core.Logic.Iff
use mathlib.Core.Logic.{◌↔◌}
use mathlib.Core.Option.{Option, none, some}
use mathlib.Core.Path.{◌≡◌, refl, sym, ◌∙◌}
use native.Mathlib.Nat.{zero-add}
use native.Mathlib.Numerals.{add-one}
use native.Mathlib.Omega.{arith}
use lib.ListN.{get_or}
use Rattle.basics.proofs.Tests.{case, option_case, none-not-some, never}
use Rattle.packed.specs.Graph.{Graph}
use Rattle.packed.specs.Packed.{graph_of}
use Rattle.packed.specs.Refusals.{Refused, Line, line, first, too_short, too_many_nodes, too_many_edges, wrong_length, padding_bit, unknown_node, file_lines, graph, refusal, or_graph, reading}

-- the lines with these tests, numbered from n on
abbrev pub numbered : ℕ → ℕ → List Bool → List Line
numbered n file [] = []
numbered n file (b ∷ bs) = line n file b ∷ numbered (suc n) file bs

-- the test at a place; behind the last line none applies
abbrev pub test : List Bool → ℕ → Bool
test bs i = get_or bs i false

some_number : (r q : Refused) → some r ≡ some q → r.number ≡ q.number
some_number r q e = cc

-- no test holds exactly when no line is given
pub first-none : (n file : ℕ) (bs : List Bool) → (first (numbered n file bs) ≡ none) ↔ ((i : ℕ) → test bs i ≡ false)
unfolding first
first-none n file [] = (λ e i. refl, λ h. refl)
first-none n file (true ∷ bs) = (λ e. none-not-some (sym e), λ h. never true refl (h 0))
first-none n file (false ∷ bs) =
    let later = first-none (suc n) file bs in
    (λ e. elim [ zero ↦ refl | suc i ↦ later.0 e i ], λ h. later.1 (λ i. h (suc i)))

-- no number below the first line's is given
given-from : (n file : ℕ) (bs : List Bool) (r : Refused) → first (numbered n file bs) ≡ some r → n ≤ r.number
unfolding first
given-from n file [] r e = none-not-some e
given-from n file (true ∷ bs) r e = omega (arith, some_number _ r e)
given-from n file (false ∷ bs) r e = omega (arith, given-from (suc n) file bs r e)

-- a line is given exactly when its test is the first that holds
pub first-at : (n file : ℕ) (bs : List Bool) (i : ℕ)
    → (first (numbered n file bs) ≡ some (record { number = i + n; file = file })) ↔ ((test bs i ≡ true) × ((j : ℕ) → j < i → test bs j ≡ false))
unfolding first
first-at n file [] i = (λ e. none-not-some e, λ h. never false h.0 refl)
first-at n file (true ∷ bs) zero = (λ e. (refl, λ j l. absurd (omega arith)), λ h. rw (zero-add n))
first-at n file (true ∷ bs) (suc i) = (λ e. absurd (omega (arith, some_number _ _ e)), λ h. never true refl (h.1 0 (omega arith)))
first-at n file (false ∷ bs) zero = (λ e. absurd (omega (arith, given-from (suc n) file bs _ e)), λ h. never false h.0 refl)
first-at n file (false ∷ bs) (suc i) =
    let z : suc i + n ≡ i + suc n = omega arith in
    let later = first-at (suc n) file bs i in
    rw z (
      λ e. ((later.0 e).0, elim [ zero ↦ λ l. refl | suc j ↦ λ l. (later.0 e).1 j (omega arith) ]),
      λ h. later.1 (h.0, λ j l. h.1 (suc j) (omega arith)),
    )

-- lines in front of others
pub first-before : (ls ms : List Line) (r : Refused) → first ls ≡ some r → first (ls ++ ms) ≡ some r
unfolding first
first-before [] ms r e = none-not-some e
first-before (l ∷ ls) ms r e =
    case l.applies (λ h. rw (h, first) (rw (h, first) at e)) (λ h. rw (h, first) (first-before ls ms r (rw (h, first) at e)))

pub first-behind : (ls ms : List Line) → first ls ≡ none → first (ls ++ ms) ≡ first ms
unfolding first
first-behind [] ms e = refl
first-behind (l ∷ ls) ms e =
    case l.applies (λ h. none-not-some (sym (rw (h, first) at e))) (λ h. rw (h, first) (first-behind ls ms (rw (h, first) at e)))

-- no line of a list applies where none of its parts does
pub none-of-nil : first [] ≡ none
unfolding first
none-of-nil = refl

pub none-of-cons : (number file : ℕ) (b : Bool) (ls : List Line) → first (line number file b ∷ ls) ≡ none → (b ≡ false) × (first ls ≡ none)
unfolding first
none-of-cons number file true ls e = none-not-some (sym e)
none-of-cons number file false ls e = (refl, e)

pub none-for-cons : (number file : ℕ) (b : Bool) (ls : List Line) → b ≡ false → first ls ≡ none → first (line number file b ∷ ls) ≡ none
unfolding first
none-for-cons number file b ls e h = rw (e, first) h

pub none-of-both : (ls ms : List Line) → first (ls ++ ms) ≡ none → (first ls ≡ none) × (first ms ≡ none)
none-of-both ls ms e =
    option_case (first ls)
    (λ h. (h, sym (first-behind ls ms h) ∙ e))
    (λ r h. none-not-some (sym e ∙ first-before ls ms r h))

-- the tests of the table's lines 1 to 6
abbrev pub file_tests : List ℕ → List Bool
file_tests s = too_short s ∷ too_many_nodes s ∷ too_many_edges s ∷ wrong_length s ∷ padding_bit s ∷ unknown_node s ∷ []

pub reading-first : (file : ℕ) (s : List ℕ) → reading file s ≡ or_graph (first (numbered 1 file (file_tests s))) (graph_of s)
unfolding reading file_lines first graph_of
reading-first file s = refl

graph-refusal : {C : Type 0} (g : Graph) (r : Refused) → graph g ≡ refusal r → C
graph-refusal g r e = let z : ◌≡◌ {A = ℕ} 0 1 = cc in absurd (omega arith)

or-graph : (o : Option Refused) (g h : Graph) → (or_graph o g ≡ graph h) ↔ ((o ≡ none) × (g ≡ h))
or-graph none g h = (λ e. (refl, cc), λ p. rw p.1)
or-graph (some r) g h = (λ e. graph-refusal h r (sym e), λ p. none-not-some (sym p.0))

or-refusal : (o : Option Refused) (g : Graph) (r : Refused) → (or_graph o g ≡ refusal r) ↔ (o ≡ some r)
or-refusal none g r = (graph-refusal g r, none-not-some)
or-refusal (some q) g r = (λ e. cc, λ e. cc)

module _ (file : ℕ) (s : List ℕ) where
  pub reading-graph : (g : Graph) → (reading file s ≡ graph g) ↔ (((i : ℕ) → test (file_tests s) i ≡ false) × (graph_of s ≡ g))
  reading-graph g =
      rw reading-first (Iff.trans (or-graph _ (graph_of s) g) (Iff.and (first-none 1 file (file_tests s)) Iff.rfl))

  pub reading-refusal : (i : ℕ)
      → (reading file s ≡ refusal (record { number = suc i; file = file }))
      ↔ ((test (file_tests s) i ≡ true) × ((j : ℕ) → j < i → test (file_tests s) j ≡ false))
  reading-refusal i = rw (← add-one i, reading-first) (Iff.trans (or-refusal _ (graph_of s) _) (first-at 1 file (file_tests s) i))

  pub no_line : (g : Graph) → reading file s ≡ graph g → first (file_lines file s) ≡ none
  unfolding reading
  no_line g e = ((or-graph (first (file_lines file s)) (graph_of s) g).0 e).0

  pub a-line : (r : Refused) → reading file s ≡ refusal r → first (file_lines file s) ≡ some r
  unfolding reading
  a-line r e = (or-refusal (first (file_lines file s)) (graph_of s) r).0 e

  -- the numbers begin at 1
  pub reading-numbers : (r : Refused) → reading file s ≡ refusal r → 1 ≤ r.number
  reading-numbers r e = given-from 1 file (file_tests s) r ((or-refusal _ (graph_of s) r).0 (rw reading-first at e))
