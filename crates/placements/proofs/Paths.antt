-- Accepted paths: their nodes are distinct in either graph, so that few are left to try, and none on a path that is whole.
use Prim.Native.Nat.{ℕ, ◌+◌, ◌≤◌}
use mathlib.Core.Bool.{true, false}
use mathlib.Core.List.{List, [], ◌∷◌, ◌++◌}
use mathlib.Core.Option.{none}
use mathlib.Core.Path.{◌≡◌, refl}
use native.Mathlib.Omega.{arith}
use lib.ListN.{length, length-append}
use borrow.Author.Tests.{eq-eqb}
use Rattle.basics.specs.Lists.{Distinct, from, member}
use Rattle.basics.proofs.Tests.{option_case}
use Rattle.basics.proofs.Laws.{keep-from-none, member-head, member-tail, member-append, member-keep}
use Rattle.basics.proofs.Distinct.{distinct-length, distinct_from, distinct-keep}
use Rattle.packed.specs.Graph.{nodes}
use Rattle.rules.specs.Task.{Task, exchanged, mapped}
use Rattle.rules.specs.Search.{pairs_of, candidate_at, offered, accepted_path}
use Rattle.rules.proofs.Stays.{mapped-length, exchanged-length, offered-in-list, path-distinct, partners-distinct, depth-room}
use Rattle.placements.specs.Listed.{tried, whole}
use Rattle.placements.proofs.Candidates.{offered-never}

distinct_append : (n : ℕ) (us vs : List ℕ) → Distinct n us → Distinct n vs → ((x : ℕ) → member x us ≡ true → member x vs ≡ false)
    → Distinct n (us ++ vs)
distinct_append n [] vs d e h = e
distinct_append n (u ∷ us) vs d e h = (
  (d.0.0, rw (member-append u us vs, d.0.1) (h u (member-head u us))),
  distinct_append n us vs d.1 e
      (λ x m. h x (member-tail x u us m)),
)

module _ (t : Task) where
  pub accepted-nil : accepted_path t [] ≡ true
  unfolding accepted_path
  accepted-nil = refl

  -- depth at most both node counts
  pub depth₀ : (path : List ℕ) → accepted_path t path ≡ true → length path ≤ nodes t.graph₀
  depth₀ path e = omega (arith, distinct-length (nodes t.graph₀) (mapped (pairs_of t path)) (path-distinct t path e), mapped-length t path)

  pub depth₁ : (path : List ℕ) → accepted_path t path ≡ true → length path ≤ nodes t.graph₁
  depth₁ path e = omega (arith, distinct-length (nodes t.graph₁) (mapped (exchanged (pairs_of t path))) (partners-distinct t path e), exchanged-length t path)

  -- what is tried
  pub tried-offered : (path : List ℕ) (x : ℕ) → member x (tried t path) ≡ true → offered t path x ≡ true
  unfolding tried
  tried-offered path x m = (member-keep (offered t path) x (from 0 (nodes t.graph₀)) m).0

  pub tried-distinct : (path : List ℕ) → Distinct (nodes t.graph₀) (tried t path)
  unfolding tried
  tried-distinct path =
      distinct-keep (nodes t.graph₀) (offered t path) (from 0 (nodes t.graph₀))
      (distinct_from (nodes t.graph₀) (nodes t.graph₀) 0 (omega arith))

  pub tried-few : (path : List ℕ) → accepted_path t path ≡ true → length (tried t path) + length path ≤ nodes t.graph₀
  tried-few path e =
      let us = mapped (pairs_of t path) in
      let apart : (x : ℕ) → member x (tried t path) ≡ true → member x us ≡ false =
      λ x m. (offered-in-list t path x (tried-offered path x m)).unmapped in
      omega (
        arith,
        distinct-length (nodes t.graph₀) (tried t path ++ us)
            (distinct_append (nodes t.graph₀) (tried t path) us (tried-distinct path) (path-distinct t path e) apart),
        length-append (tried t path) us,
        mapped-length t path,
      )

  pub tried-none : (path : List ℕ) → candidate_at t path ≡ none → tried t path ≡ []
  unfolding tried
  tried-none path e = keep-from-none (offered t path) (nodes t.graph₀) 0 (λ x l. offered-never t path x e)

  -- a whole path has no candidate
  pub no-candidate : (path : List ℕ) → accepted_path t path ≡ true → nodes t.graph₁ ≤ length path → candidate_at t path ≡ none
  no-candidate path e l =
      option_case (candidate_at t path) (λ h. h) (λ c h. absurd (omega (arith, depth-room t path c e h)))

  pub whole-at : (path : List ℕ) → accepted_path t path ≡ true → nodes t.graph₁ ≤ length path → whole t path ≡ true
  whole-at path e l = eq-eqb (length path) (nodes t.graph₁) (omega (arith, depth₁ path e))
