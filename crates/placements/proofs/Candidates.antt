-- Without a candidate a graph has no unmapped node left; with one, what is offered is a node of its list.
use Prim.Native.Nat.{ℕ, ◌-◌, ◌<◌}
use mathlib.Core.Bool.{Bool, false, ◌&&◌}
use mathlib.Core.List.{List, [], ◌∷◌}
use mathlib.Core.Option.{Option, none, some}
use mathlib.Core.Path.{◌≡◌, refl, sym}
use native.Mathlib.Omega.{arith}
use lib.Dec.{ltb}
use Rattle.basics.specs.Lists.{from, keep, member}
use Rattle.basics.proofs.Tests.{never, false-by, none-not-some}
use Rattle.basics.proofs.Laws.{member-nil, member-kept, from_member}
use Rattle.packed.specs.Graph.{nodes}
use Rattle.rules.specs.Task.{Task, Pairs, exchanged, mapped}
use Rattle.rules.specs.Marks.{OpenList, Out, In, Other, in_list, head, least, Candidate, both, or_else, least_of, candidate}
use Rattle.rules.specs.Search.{pairs_of, candidate_at, offered}

head-none : (l : List ℕ) → head l ≡ none → l ≡ []
head-none [] e = refl
head-none (y ∷ l) e = none-not-some (sym e)

pub least-none : (p : ℕ → Bool) (n x : ℕ) → least p n 0 ≡ none → x < n → p x ≡ false
least-none p n x e l =
    false-by (p x)
    (λ h. never (member x [])
    (rw (head-none (keep p (from 0 (n - 0))) e) at
    (member-kept p x (from 0 (n - 0)) h (from_member (n - 0) 0 x (omega arith) (omega arith)))) (member-nil x))

module _ (t : Task) where
  abbrev pub in_list₀ : Pairs → OpenList → ℕ → Bool
  in_list₀ ps list = in_list t.graph₀ (mapped ps) list

  abbrev pub in_list₁ : Pairs → OpenList → ℕ → Bool
  in_list₁ ps list = in_list t.graph₁ (mapped (exchanged ps)) list

  both-none : {C : Type 0} (list : OpenList) (x y : Option ℕ) → both list x y ≡ none → (x ≡ none → C) → (y ≡ none → C) → C
  both-none list none y e f g = f refl
  both-none list (some x) none e f g = g refl
  both-none list (some x) (some y) e f g = none-not-some (sym e)

  or_else_none : (c d : Option Candidate) → or_else c d ≡ none → d ≡ none
  or_else_none none d e = e
  or_else_none (some c) d e = none-not-some (sym e)

  pub candidate-none : {C : Type 0} (ps : Pairs) → candidate t ps ≡ none
      → (((x : ℕ) → x < nodes t.graph₀ → in_list₀ ps Other x ≡ false) → C)
      → (((x : ℕ) → x < nodes t.graph₁ → in_list₁ ps Other x ≡ false) → C) → C
  unfolding candidate
  candidate-none ps e f g =
      both-none Other (least (in_list₀ ps Other) (nodes t.graph₀) 0) (least (in_list₁ ps Other) (nodes t.graph₁) 0)
      (or_else_none (least_of t ps In) (least_of t ps Other)
      (or_else_none (least_of t ps Out) (or_else (least_of t ps In) (least_of t ps Other)) e))
      (λ h. f (λ x l. least-none (in_list₀ ps Other) (nodes t.graph₀) x h l))
      (λ h. g (λ x l. least-none (in_list₁ ps Other) (nodes t.graph₁) x h l))

  pub offered-at : (path : List ℕ) (c : Candidate) (x : ℕ) → candidate_at t path ≡ some c
      → offered t path x ≡ (ltb x (nodes t.graph₀) && in_list₀ (pairs_of t path) c.list x)
  unfolding offered
  offered-at path c x e = rw e

  pub offered-never : (path : List ℕ) (x : ℕ) → candidate_at t path ≡ none → offered t path x ≡ false
  unfolding offered
  offered-never path x e = rw e
