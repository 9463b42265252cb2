-- The listing holds whole accepted paths only, and each placement once: at a path that lies along the placement exactly one node
-- that is tried lies along it too, it is acceptable, and no other path leads there.
use Prim.Native.Nat.{ℕ, zero, suc, ◌+◌, ◌≤◌, ◌<◌}
use mathlib.Core.Bool.{Bool, true, false, cond, ◌&&◌}
use mathlib.Core.List.{List, [], ◌∷◌, ◌++◌, nil≢cons}
use mathlib.Core.Option.{some}
use mathlib.Core.Path.{◌≡◌, refl, sym, ◌∙◌, ap}
use native.Mathlib.Omega.{arith}
use lib.Dec.{eqb}
use lib.ListN.{length}
use borrow.Author.Tests.{eqb-true, eqb-false, eq-eqb, not-false}
use Rattle.basics.specs.Lists.{from, count, keep, member}
use Rattle.basics.proofs.Tests.{case, option_case, never, and_intro, and_left, and_right, false-by, by-iff}
use Rattle.basics.proofs.Laws.{from-length, count-nil, count-cons, count-append, keep-nil, keep-true, keep-false, member-head, member-tail, member-from}
use Rattle.basics.proofs.Distinct.{distinct-below, distinct_from, distinct-among}
use Rattle.packed.specs.Graph.{nodes}
use Rattle.rules.specs.Task.{Task, counts_agree, exchanged, mapped, partner}
use Rattle.rules.specs.Marks.{Candidate}
use Rattle.rules.specs.Search.{pairs_of, candidate_at, node_of, accepts, offered, accepted_path}
use Rattle.rules.proofs.Laws.{partner-own, partner-other}
use Rattle.placements.specs.Listed.{joined, tried, whole, itself, or_itself, maps_from, listed}
use Rattle.placements.specs.Claims.{Sound, image_in, Places, Each, shows}
use Rattle.placements.proofs.Sums.{count-only}
use Rattle.placements.proofs.Tests.{all-intro, all-elim}
use Rattle.placements.proofs.Along.{Along, along-exchanged, Flipped, partner-along}
use Rattle.placements.proofs.Passes.{OnImage, placed_alike, placed-in-list, placed-acceptable}
use Rattle.placements.proofs.Candidates.{candidate-none}
use Rattle.rules.proofs.Stays.{candidate-offers, offered-in-list, in-list-offered, pairs-cons, pairs-nil, exchanged-length, partners-distinct, path-joined, path-last}
use Rattle.placements.proofs.Paths.{accepted-nil, depth₁, tried-offered, tried-none, no-candidate, whole-at}
use Rattle.placements.proofs.Placed.{partner-mapped, image}
use Rattle.placements.proofs.Searched.{joined-nil, joined-cons, maps_at, maps-last, maps-more}

-- lists

each_append : {A : Type 0} (P : A → Type 0) (xs ys : List A) → Each P xs → Each P ys → Each P (xs ++ ys)
each_append P [] ys e f = f
each_append P (x ∷ xs) ys e f = (e.0, each_append P xs ys e.1 f)

each-joined : (P : List ℕ → Type 0) (f : ℕ → List (List ℕ)) (xs : List ℕ) → ((x : ℕ) → member x xs ≡ true → Each P (f x))
    → Each P (joined f xs)
each-joined P f [] h = rw (joined-nil f) tt
each-joined P f (x ∷ xs) h =
    rw (joined-cons f x xs)
    (each_append P (f x) (joined f xs) (h x (member-head x xs)) (each-joined P f xs (λ y m. h y (member-tail y x xs m))))

pub count-each : {A : Type 0} (P : A → Type 0) (p q : A → Bool) (xs : List A) → Each P xs → ((x : A) → P x → p x ≡ q x)
    → count p xs ≡ count q xs
count-each P p q [] e h = count-nil p ∙ sym (count-nil q)
count-each P p q (x ∷ xs) e h = rw (count-cons p x xs, count-cons q x xs, h x e.0, count-each P p q xs e.1 h)

-- of lists that are joined, those of which one holds a passing element
count-joined : (p : List ℕ → Bool) (f : ℕ → List (List ℕ)) (q : ℕ → Bool) (xs : List ℕ)
    → ((x : ℕ) → member x xs ≡ true → count p (f x) ≡ cond (q x) 1 0)
    → count p (joined f xs) ≡ count q xs
count-joined p f q [] h = rw (joined-nil f) (count-nil p ∙ sym (count-nil q))
count-joined p f q (x ∷ xs) h =
    rw (
      joined-cons f x xs,
      count-append p (f x) (joined f xs),
      count-cons q x xs,
      h x (member-head x xs),
      count-joined p f q xs
          (λ y m. h y (member-tail y x xs m)),
    )

count-keep : {A : Type 0} (p q : A → Bool) (xs : List A) → count q (keep p xs) ≡ count (λ x. q x && p x) xs
count-keep p q [] = rw (keep-nil p) (count-nil q ∙ sym (count-nil (λ x. q x && p x)))
count-keep p q (x ∷ xs) =
    case (p x)
    (λ e. rw (keep-true p x xs e, count-cons q x (keep p xs), count-cons (λ x. q x && p x) x xs, count-keep p q xs, e)
    (case (q x) (λ h. rw h) (λ h. rw h)))
    (λ e. rw (keep-false p x xs e, count-cons (λ x. q x && p x) x xs, count-keep p q xs, e)
    (case (q x) (λ h. rw h (omega arith)) (λ h. rw h (omega arith))))

count-nowhere : (q : ℕ → Bool) (xs : List ℕ) → ((x : ℕ) → q x ≡ false) → count q xs ≡ 0
count-nowhere q [] h = count-nil q
count-nowhere q (x ∷ xs) h = rw (count-cons q x xs, h x, count-nowhere q xs h)

-- the maps from a path on, by what is tried there
module _ (t : Task) where
  pub maps-cases : {C : Type 0} (k : ℕ) (path : List ℕ)
      → (maps_from t (suc k) path ≡ itself t path → tried t path ≡ [] → C)
      → (maps_from t (suc k) path ≡ joined (maps_at t k path) (tried t path) → (tried t path ≡ [] → ⊥) → C) → C
  maps-cases {C} k path f g = go (tried t path) refl (maps-more t k path)
    where
      go : (l : List ℕ) → tried t path ≡ l → maps_from t (suc k) path ≡ or_itself t path l (joined (maps_at t k path) (tried t path)) → C
      go [] e h = f h e
      go (x ∷ l) e h = g h (λ z. nil≢cons (sym z ∙ e))

  -- only whole accepted paths
  pub record Map (path : List ℕ) : Type 0 where
    pub map_accepted : accepted_path t path ≡ true
    pub map_whole : whole t path ≡ true

  itself-maps : (path : List ℕ) → accepted_path t path ≡ true → Each Map (itself t path)
  itself-maps path a = case (whole t path) (λ w. rw w (record { map_accepted = a; map_whole = w }, tt)) (λ w. rw w tt)

  maps-only : (k : ℕ) (path : List ℕ) → accepted_path t path ≡ true → Each Map (maps_from t k path)
  maps-only zero path a = rw (maps-last t path) (itself-maps path a)
  maps-only (suc k) path a =
      maps-cases k path
      (λ e h. rw e (itself-maps path a))
      (λ e some-tried. rw e
      (each-joined Map (maps_at t k path) (tried t path)
      (λ x m. case (accepts t path x)
      (λ f. rw f (maps-only k (x ∷ path) (path-joined t x path a (tried-offered t path x m) f)))
      (λ f. rw f tt))))

  pub listed-maps : Each Map (listed t)
  listed-maps = maps-only (nodes t.graph₁) [] (accepted-nil t)

  -- a path lies along φ where each of its pairs does
  module _ (φ : ℕ → ℕ) where
    unfoldable lies : List ℕ → Bool
    lies [] = true
    lies (x ∷ path) = eqb x (φ (node_of (candidate_at t path))) && lies path

    lies-nil : lies [] ≡ true
    unfolding lies
    lies-nil = refl

    lies-cons : (x : ℕ) (path : List ℕ) → lies (x ∷ path) ≡ (eqb x (φ (node_of (candidate_at t path))) && lies path)
    unfolding lies
    lies-cons x path = refl

    lies-shorter : (x : ℕ) (path : List ℕ) → lies (x ∷ path) ≡ true → lies path ≡ true
    lies-shorter x path e = and_right (eqb x (φ (node_of (candidate_at t path)))) _ (sym (lies-cons x path) ∙ e)

    lies-image : (x : ℕ) (path : List ℕ) → lies (x ∷ path) ≡ true → x ≡ φ (node_of (candidate_at t path))
    lies-image x path e =
        eqb-true x (φ (node_of (candidate_at t path))) (and_left (eqb x (φ (node_of (candidate_at t path)))) _ (sym (lies-cons x path) ∙ e))

    lies_along : (path : List ℕ) → accepted_path t path ≡ true → lies path ≡ true → Along (OnImage φ (nodes t.graph₁)) (pairs_of t path)
    lies_along [] a e = rw (pairs-nil t) tt
    lies_along (x ∷ path) a e =
        rw (pairs-cons t x path) (
          (
            lies-image x path e,
            let i = offered-in-list t path x (path-last t x path a).1 in
                rw i.is (candidate-offers t (pairs_of t path) i.candidate' i.is).less₁,
          ),
          lies_along path (path-last t x path a).0 (lies-shorter x path e),
        )

    -- seen at the images
    along-lies : (path : List ℕ) → accepted_path t path ≡ true → ((x y : ℕ) → partner (exchanged (pairs_of t path)) y ≡ some x → x ≡ φ y)
        → lies path ≡ true
    along-lies [] a h = lies-nil
    along-lies (x ∷ path) a h =
        let b = node_of (candidate_at t path) in
        let qs = exchanged (pairs_of t path) in
        let all : (z y : ℕ) → partner ((b, x) ∷ qs) y ≡ some z → z ≡ φ y = rw (pairs-cons t x path) at h in
        let d = rw (pairs-cons t x path) at (partners-distinct t (x ∷ path) a) in
        lies-cons x path
        ∙ and_intro (eq-eqb x (φ b) (all x b (partner-own b x qs b (eq-eqb b b refl))))
        (along-lies path (path-last t x path a).0
        (λ z y e. all z y (partner-other b x qs y
        (false-by (eqb y b) (λ f. never (member b (mapped qs)) (rw (eqb-true y b f) at (partner-mapped qs y z e)) d.0.1)) ∙ e)))

    lies-shows : Sound t → (path : List ℕ) → Map path → shows t φ path ≡ lies path
    lies-shows sound path m =
        let n = nodes t.graph₁ in
        let qs = exchanged (pairs_of t path) in
        let at-image : (y : ℕ) → y < n → partner qs y ≡ some (image_in t path y) = image t sound path m.map_accepted m.map_whole in
        by-iff (shows t φ path) (lies path)
        (λ e. along-lies path m.map_accepted
        (λ x y h.
        let l = distinct-below n (mapped qs) (partners-distinct t path m.map_accepted) y (partner-mapped qs y x h) in
        let i = at-image y l in
        let same : image_in t path y ≡ x = cc in
        sym same ∙ eqb-true (image_in t path y) (φ y) (all-elim (λ w. eqb (image_in t path w) (φ w)) n 0 e y (omega arith) (omega arith))))
        (λ e. all-intro (λ w. eqb (image_in t path w) (φ w)) n 0
        (λ w h l.
        let below : w < n = omega arith in
        eq-eqb (image_in t path w) (φ w)
        (partner-along (Flipped (OnImage φ n)) qs (along-exchanged (OnImage φ n) (pairs_of t path) (lies_along path m.map_accepted e)) w
        (image_in t path w) (at-image w below)).0))

    module _ (sound : Sound t) (agreed : counts_agree t ≡ true) (p : Places t φ) where
      -- a path along φ that is not whole has a candidate
      goes_on : {C : Type 0} (path : List ℕ) → accepted_path t path ≡ true → lies path ≡ true → whole t path ≡ false
          → ((c : Candidate) → candidate_at t path ≡ some c → C) → C
      goes_on path a e w f =
          let n = nodes t.graph₁ in
          let ps = pairs_of t path in
          let us = mapped (exchanged ps) in
          let short : (length path ≡ n → ⊥) = eqb-false (length path) n w in
          let full : ((x : ℕ) → x < n → member x us ≡ true) → ⊥ =
          λ h. omega (
            arith,
            depth₁ t path a,
            exchanged-length t path,
            from-length 0 n,
            distinct-among n (from 0 n) us (distinct_from n n 0 (omega arith)) (partners-distinct t path a)
                (λ v m. let i = member-from n 0 v m in h v (omega arith)),
          ) in
          option_case (candidate_at t path)
          (λ h. candidate-none t ps h
          (λ none_left. absurd (full (λ x l.
          sym (placed_alike t φ sound agreed p ps (lies_along path a e) x l) ∙ not-false (member (φ x) (mapped ps))
          (none_left (φ x) (p.within x l)))))
          (λ none_left. absurd (full (λ x l. not-false (member x us) (none_left x l)))))
          f

      -- the image of the candidate's node is tried
      image-tried : (path : List ℕ) → accepted_path t path ≡ true → lies path ≡ true → (c : Candidate) → candidate_at t path ≡ some c
          → offered t path (φ c.node₁) ≡ true
      image-tried path a e c h =
          let w = candidate-offers t (pairs_of t path) c h in
          in-list-offered t path c (φ c.node₁) h (p.within c.node₁ w.less₁)
          (placed-in-list t φ sound agreed p (pairs_of t path) (lies_along path a e) c.list c.node₁ w.less₁ w.listed₁)

      one-tried : (path : List ℕ) → accepted_path t path ≡ true → lies path ≡ true → whole t path ≡ false
          → count (λ x. lies (x ∷ path)) (tried t path) ≡ 1
      unfolding tried
      one-tried path a e w =
          goes_on path a e w
          (λ c h.
          let y = φ c.node₁ in
          let named : node_of (candidate_at t path) ≡ c.node₁ = rw h in
          count-keep (offered t path) (λ x. lies (x ∷ path)) (from 0 (nodes t.graph₀))
          ∙ count-only (λ x. lies (x ∷ path) && offered t path x) (nodes t.graph₀) y
          (p.within c.node₁ (candidate-offers t (pairs_of t path) c h).less₁)
          (and_intro (lies-cons y path ∙ and_intro (eq-eqb y (φ (node_of (candidate_at t path))) (ap φ (sym named))) e)
          (image-tried path a e c h))
          (λ x f. lies-image x path (and_left (lies (x ∷ path)) (offered t path x) f) ∙ ap φ named))

      -- and its pair acceptable
      image-accepted : (path : List ℕ) (x : ℕ) → accepted_path t path ≡ true → offered t path x ≡ true → lies (x ∷ path) ≡ true
          → accepts t path x ≡ true
      unfolding accepts
      image-accepted path x a o e =
          let found = offered-in-list t path x o in by-candidate found.candidate' found.is
        where
          by-candidate : (c : Candidate) → candidate_at t path ≡ some c → accepts t path x ≡ true
          by-candidate c h =
              let named : node_of (candidate_at t path) ≡ c.node₁ = rw h in
              let w = candidate-offers t (pairs_of t path) c h in
              let z : x ≡ φ c.node₁ = lies-image x path e ∙ ap φ named in
              rw (named, z)
              (placed-acceptable t φ sound agreed p (pairs_of t path) (lies_along path a (lies-shorter x path e)) c.node₁ w.less₁)

      itself-once : (path : List ℕ) → whole t path ≡ true → count lies (itself t path) ≡ cond (lies path) 1 0
      itself-once path w = rw (w, count-cons lies path [], count-nil lies) (case (lies path) (λ e. rw e) (λ e. rw e))

      maps-once : (k : ℕ) (path : List ℕ) → accepted_path t path ≡ true → nodes t.graph₁ ≤ k + length path
          → count lies (maps_from t k path) ≡ cond (lies path) 1 0
      maps-once zero path a h = rw (maps-last t path) (itself-once path (whole-at t path a (omega arith)))
      maps-once (suc k) path a h =
          maps-cases k path
          (λ e empty. rw e
          (case (whole t path)
          (λ w. itself-once path w)
          (λ w. case (lies path)
          (λ f. let one : count (λ x. lies (x ∷ path)) [] ≡ 1 = rw empty at (one-tried path a f w) in absurd
          (omega (arith, count-nil (λ x. lies (x ∷ path)))))
          (λ f. rw (w, f) (count-nil lies)))))
          (λ e some-tried. rw e
          (count-joined lies (maps_at t k path) (λ x. lies (x ∷ path)) (tried t path)
          (λ x m. case (accepts t path x)
          (λ f. rw f (maps-once k (x ∷ path) (path-joined t x path a (tried-offered t path x m) f) (omega arith)))
          (λ f. rw f (count-nil lies ∙ sym
          (rw (false-by (lies (x ∷ path)) (λ g. never (accepts t path x) (image-accepted path x a (tried-offered t path x m) g) f))))))
          ∙ case (lies path)
          (λ f. case (whole t path)
          (λ w. absurd (some-tried
          (tried-none t path (no-candidate t path a (let z = eqb-true (length path) (nodes t.graph₁) w in omega arith)))))
          (λ w. rw f (one-tried path a f w)))
          (λ f. rw f (count-nowhere (λ x. lies (x ∷ path)) (tried t path)
          (λ x. false-by (lies (x ∷ path)) (λ g. never (lies path) (lies-shorter x path g) f))))))

      pub listed_once : count (shows t φ) (listed t) ≡ 1
      listed_once =
          count-each Map (shows t φ) lies (listed t) listed-maps (lies-shows sound)
          ∙ maps-once (nodes t.graph₁) [] (accepted-nil t) (omega arith) ∙ rw lies-nil
