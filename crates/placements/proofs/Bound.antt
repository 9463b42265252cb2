-- The steps of the search are within the number of document 01: below a path of length l there are at most N0 - l nodes to try.
use Prim.Native.Nat.{ℕ, zero, suc, ◌+◌, ◌-◌, ◌*◌, ◌≤◌}
use native.Mathlib.Nat.{mul-le-mul_right}
use mathlib.Core.Bool.{true}
use mathlib.Core.List.{List, [], ◌∷◌}
use mathlib.Core.Path.{◌≡◌, refl}
use native.Mathlib.Omega.{arith}
use lib.ListN.{length}
use Rattle.basics.specs.Lists.{total, member}
use Rattle.basics.proofs.Tests.{case}
use Rattle.basics.proofs.Laws.{total-nil, total-cons, member-head, member-tail}
use Rattle.packed.specs.Graph.{nodes}
use Rattle.rules.specs.Task.{Task}
use Rattle.rules.specs.Search.{accepts, accepted_path}
use Rattle.placements.specs.Listed.{tried, steps_from, steps_of}
use Rattle.placements.specs.Claims.{falling, permutations}
use Rattle.placements.proofs.Sums.{sum-none, sum-suc}
use Rattle.rules.proofs.Stays.{path-joined}
use Rattle.placements.proofs.Paths.{accepted-nil, tried-offered, tried-few}
use Rattle.placements.proofs.Searched.{steps_at, steps-last, steps-more}

permutations-one : (m : ℕ) → permutations m 0 ≡ 1
unfolding falling
permutations-one m = omega (arith, sum-suc 0 (falling m), sum-none (falling m))

permutations-more : (m k : ℕ) → permutations m (suc k) ≡ permutations m k + falling m (suc k)
permutations-more m k = sum-suc (suc k) (falling m)

falling-more : (m k : ℕ) → falling m (suc k) ≡ m * falling (m - 1) k
unfolding falling
falling-more m k = refl

falling-none : (m : ℕ) → falling m 0 ≡ 1
unfolding falling
falling-none m = refl

-- a first node, and the others from what is left
permutations-first : (m k : ℕ) → permutations m (suc k) ≡ 1 + m * permutations (m - 1) k
permutations-first m zero =
    rw (permutations-more m 0, falling-more m 0, permutations-one m, permutations-one (m - 1), falling-none (m - 1))
permutations-first m (suc k) =
    rw (permutations-more m (suc k), permutations-first m k, falling-more m (suc k), permutations-more (m - 1) k) (omega arith)

node-most : (n m l w p : ℕ) → l ≤ m → m ≤ n → w ≤ l * suc ((n + 2) * p) → suc (suc w) ≤ (n + 2) * (1 + m * p)
node-most n m l w p h i j = omega (arith, mul-le-mul_right (suc ((n + 2) * p)) h)

module _ (t : Task) where
  branches-most : (k : ℕ) (path : List ℕ) (b : ℕ) (r : List ℕ)
      → ((x : ℕ) → member x r ≡ true → accepts t path x ≡ true → suc (steps_from t k (x ∷ path)) ≤ b)
      → total (steps_at t k path) r ≤ length r * suc b
  branches-most k path b [] h = omega (arith, total-nil (steps_at t k path))
  branches-most k path b (x ∷ r) h =
      let rest = branches-most k path b r (λ y m. h y (member-tail y x r m)) in
      case (accepts t path x)
      (λ e.
      let here : steps_at t k path x ≡ suc (suc (steps_from t k (x ∷ path))) = rw e in
      omega (arith, total-cons (steps_at t k path) x r, h x (member-head x r) e))
      (λ e.
      let here : steps_at t k path x ≡ 1 = rw e in
      omega (arith, total-cons (steps_at t k path) x r))

  steps_most : (k : ℕ) (path : List ℕ) → accepted_path t path ≡ true
      → suc (steps_from t k path) ≤ (nodes t.graph₀ + 2) * permutations (nodes t.graph₀ - length path) k
  steps_most zero path a = rw (permutations-one (nodes t.graph₀ - length path), steps-last t path) (omega arith)
  steps_most (suc k) path a =
      let n = nodes t.graph₀ in
      let m = n - length path in
      let p = permutations (m - 1) k in
      let less : n - length path - 1 ≡ n - suc (length path) = omega arith in
      let most = branches-most k path ((n + 2) * p) (tried t path)
      (λ x l e. rw less (steps_most k (x ∷ path) (path-joined t x path a (tried-offered t path x l) e))) in
      let few = tried-few t path a in
      rw (permutations-first m k, steps-more t k path)
      (node-most n m (length (tried t path)) (total (steps_at t k path) (tried t path)) p (omega arith) (omega arith) most)

  pub steps_within : steps_of t ≤ (nodes t.graph₀ + 2) * permutations (nodes t.graph₀) (nodes t.graph₁)
  steps_within =
      let whole : nodes t.graph₀ - 0 ≡ nodes t.graph₀ = omega arith in
      let most = rw whole at (steps_most (nodes t.graph₁) [] (accepted-nil t)) in
      omega (arith, most)
