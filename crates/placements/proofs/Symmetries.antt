-- The identity is a placement, placements follow one another, and under Equal a placement can be turned round.
use Prim.Native.Nat.{ℕ, zero, suc, ◌+◌, ◌≤◌, ◌<◌}
use native.Mathlib.Nat.{le_refl, le_trans, le_of_eq}
use mathlib.Core.Bool.{Bool, true, false}
use mathlib.Core.List.{List, [], ◌∷◌, map}
use mathlib.Core.Path.{◌≡◌, refl, sym, ◌∙◌, ap}
use native.Mathlib.Omega.{arith}
use lib.ListN.{length, get_or, length-map}
use borrow.Author.Tests.{eqb-true, eq-eqb, leb-true, le-leb}
use Rattle.basics.specs.Lists.{Distinct, from, member}
use Rattle.basics.proofs.Tests.{and_intro, and_left, and_right, never, false-by}
use Rattle.basics.proofs.Laws.{from-none, from_suc, from-length, from_at, member-nil, member-head, member-tail, member-cases, member-from, map_at}
use Rattle.basics.proofs.Distinct.{distinct-all}
use Rattle.basics.proofs.Place.{place_at}
use Rattle.packed.specs.Graph.{nodes}
use Rattle.rules.specs.Task.{agree}
use Rattle.rules.specs.Placement.{edges_of}
use Rattle.placements.specs.Claims.{Identity, Chained, CountsChained, reverse, Reversed}
use Rattle.placements.proofs.Sums.{Into, Apart}
use Rattle.placements.proofs.Kept.{equal-nodes, edges-equal}

pub identity : Identity
identity s g =
    record { within = λ a i. i; apart = λ a b i j e. e; labels_agree = λ c a i. refl; at_least = λ a b l i j. le_refl _; equal = λ c a b l i j. refl }

pub chained : Chained
chained s g₀ g₁ g₂ φ ψ p q =
    record {
      within = λ a i. p.within (ψ a) (q.within a i);
      apart = λ a b i j e. q.apart a b i j (p.apart (ψ a) (ψ b) (q.within a i) (q.within b j) e);
      labels_agree = λ c a i. p.labels_agree c (ψ a) (q.within a i) ∙ q.labels_agree c a i;
      at_least = λ a b l i j. le_trans (q.at_least a b l i j) (p.at_least (ψ a) (ψ b) l (q.within a i) (q.within b j));
      equal = λ c a b l i j. q.equal c a b l i j ∙ p.equal c (ψ a) (ψ b) l (q.within a i) (q.within b j);
    }

agree-chained : (greater : Bool) (x y z : ℕ) → agree greater x y ≡ true → agree greater y z ≡ true → agree greater x z ≡ true
agree-chained true x y z h k = le-leb z x (le_trans (leb-true z y k) (leb-true y x h))
agree-chained false x y z h k = eq-eqb x z (eqb-true x y h ∙ eqb-true y z k)

pub counts-chained : CountsChained
counts-chained s g₀ g₁ g₂ h k =
    and_intro
    (agree-chained s.greater (nodes g₀) (nodes g₁) (nodes g₂) (and_left (agree s.greater (nodes g₀) (nodes g₁)) _ h)
    (and_left (agree s.greater (nodes g₁) (nodes g₂)) _ k))
    (agree-chained s.greater (length g₀.edges) (length g₁.edges) (length g₂.edges)
    (and_right (agree s.greater (nodes g₀) (nodes g₁)) _ h) (and_right (agree s.greater (nodes g₁) (nodes g₂)) _ k))

-- the images of distinct nodes are distinct
member-map : {C : Type 0} (φ : ℕ → ℕ) (y : ℕ) (l : List ℕ) → member y (map φ l) ≡ true → ((x : ℕ) → member x l ≡ true → y ≡ φ x → C) → C
member-map φ y [] e f = never (member y []) e (member-nil y)
member-map φ y (x ∷ l) e f =
    member-cases y (φ x) (map φ l) e
    (λ z. f x (member-head x l) z)
    (λ m. member-map φ y l m (λ v h z. f v (member-tail v x l h) z))

images-distinct : (n : ℕ) (φ : ℕ → ℕ) → Into n n φ → Apart n φ → (k i : ℕ) → i + k ≤ n → Distinct n (map φ (from i k))
images-distinct n φ into apart zero i h = rw (from-none i) tt
images-distinct n φ into apart (suc k) i h =
    rw (from_suc i k) (
      (
        into i (omega arith),
        false-by (member (φ i) (map φ (from (suc i) k)))
            (λ e. member-map φ (φ i) (from (suc i) k) e
            (λ x m z. let w = member-from k (suc i) x m in let same = apart i x (omega arith) (omega arith) z in omega arith)),
      ),
      images-distinct n φ into apart k (suc i) (omega arith),
    )

module _ (n : ℕ) (φ : ℕ → ℕ) (into : Into n n φ) (apart : Apart n φ) where
  images-long : length (map φ (from 0 n)) ≡ n
  images-long = length-map (from 0 n) φ ∙ from-length 0 n

  image-at : (i : ℕ) → i < n → get_or (map φ (from 0 n)) i 0 ≡ φ i
  image-at i l = map_at φ (from 0 n) i (omega (arith, from-length 0 n)) ∙ ap φ (from_at n i l)

  once : Distinct n (map φ (from 0 n))
  once = images-distinct n φ into apart n 0 (omega arith)

  reverse-below : (a : ℕ) → a < n → reverse n φ a < n
  unfolding reverse
  reverse-below a h = omega (arith, (place_at a (map φ (from 0 n)) (distinct-all n (map φ (from 0 n)) once images-long a h)).1, images-long)

  reverse-there : (a : ℕ) → a < n → φ (reverse n φ a) ≡ a
  unfolding reverse
  reverse-there a h =
      sym (image-at (reverse n φ a) (reverse-below a h))
      ∙ (place_at a (map φ (from 0 n)) (distinct-all n (map φ (from 0 n)) once images-long a h)).0

  reverse-back : (a : ℕ) → a < n → reverse n φ (φ a) ≡ a
  unfolding reverse
  reverse-back a h = apart (reverse n φ (φ a)) a (reverse-below (φ a) (into a h)) h (reverse-there (φ a) (into a h))

pub reversed : Reversed
reversed s g₀ g₁ φ e files agreed p =
    let n = nodes g₁ in
    let same : nodes g₀ ≡ n = equal-nodes s g₀ g₁ agreed e in
    let into : Into n n φ = rw same at p.within in
    let there : (a : ℕ) → a < nodes g₀ → φ (reverse n φ a) ≡ a = λ a i. reverse-there n φ into p.apart a (rw same at i) in
    let below : (a : ℕ) → a < nodes g₀ → reverse n φ a < n = λ a i. reverse-below n φ into p.apart a (rw same at i) in
    let kept : (a b l : ℕ) → a < nodes g₀ → b < nodes g₀ → edges_of s g₀ l a b ≡ edges_of s g₁ l (reverse n φ a) (reverse n φ b) =
    λ a b l i j. sym
    (rw (there a i, there b j) at (edges-equal s g₀ g₁ φ p files agreed e l (reverse n φ a) (reverse n φ b) (below a i) (below b j))) in
    record {
      is_placement = record {
        within = below;
        apart = λ a b i j z. sym (there a i) ∙ ap φ z ∙ there b j;
        labels_agree = λ c a i. sym (rw (there a i) at (p.labels_agree c (reverse n φ a) (below a i)));
        at_least = λ a b l i j. le_of_eq (kept a b l i j);
        equal = λ c a b l i j. kept a b l i j;
      };
      there_and_back = there;
      back_and_there = reverse-back n φ into p.apart;
    }
