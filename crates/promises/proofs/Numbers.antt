-- Which line of the table gives a number: the lines in front of it have other numbers, so none of them applies, and it does.
use Prim.Native.Nat.{ℕ, suc, ◌+◌, ◌*◌, ◌≤◌, ◌<◌}
use mathlib.Core.Bool.{Bool, true, false, not}
use mathlib.Core.List.{List, [], ◌∷◌, ◌++◌}
use mathlib.Core.Logic.Iff
use mathlib.Core.Logic.{◌↔◌, ⊎_elim}
use mathlib.Core.Option.{Option, none, some}
use mathlib.Core.Path.{◌≡◌, refl, sym, ◌∙◌, ap}
use native.Mathlib.Omega.{arith}
use lib.Dec.{eqb}
use lib.ListN.{length}
use borrow.Author.Tests.{not-false}
use Rattle.basics.proofs.Tests.{case, option_case, none-not-some, never}
use Rattle.basics.proofs.Decides.{decides-itself, decides-equal, decides-less, decides_not}
use Rattle.packed.specs.Graph.{Graph}
use Rattle.packed.specs.Packed.{kind, node_count, graph_of}
use Rattle.packed.specs.Refusals.{Refused, Line, line, first, file_lines}
use Rattle.packed.specs.Table.{Says}
use Rattle.packed.proofs.First.{first-before, first-behind, none-of-nil, none-of-cons, none-for-cons, none-of-both, no_line, numbered, file_tests}
use Rattle.packed.proofs.Table.{accepted-exactly}
use Rattle.settings.specs.Settings.{Settings, settings_lines}
use Rattle.settings.specs.Table.{NotSettings}
use Rattle.settings.proofs.Table.{settings-refused-exactly, settings-accepted-exactly}
use Rattle.rules.specs.Search.{started}
use Rattle.rules.specs.Handed.{Handed, handed, accepted_handed}
use Rattle.rules.specs.Calls.{kind_lines, pair_lines, record_lines, refused, or_begun, or_went, rejected, Judged}
use Rattle.placements.specs.Claims.{Each}
use Rattle.promises.specs.Promises.{search, refusal_of, refusal, FilesRead, Readable, NumbersExactly}
use Rattle.promises.proofs.Files.{file-read, begins}

-- no line has this number
abbrev Without : ℕ → List Line → Type 0
Without n ls = Each (λ l. l.gives.number ≡ n → ⊥) ls

not-given : (n : ℕ) (ls : List Line) → Without n ls → (r : Refused) → first ls ≡ some r → r.number ≡ n → ⊥
unfolding first
not-given n [] w r e k = none-not-some e
not-given n (l ∷ ls) w r e k =
    case l.applies
    (λ h. let z : some l.gives ≡ some r = rw (h, first) at e in let q : l.gives ≡ r = cc z in w.0 (rw q k))
    (λ h. not-given n ls w.1 r (rw (h, first) at e) k)

-- behind lines with other numbers
behind-exactly : (n : ℕ) (ls ms : List Line) → Without n ls
    → (first (ls ++ ms) ≡ some (refusal n)) ↔ ((first ls ≡ none) × (first ms ≡ some (refusal n)))
behind-exactly n ls ms w = (
  λ e. option_case (first ls)
      (λ h. (h, sym (first-behind ls ms h) ∙ e))
      (λ r h. absurd (not-given n ls w r h (let z : some r ≡ some (refusal n) = sym (first-before ls ms r h) ∙ e in cc z))),
  λ h. first-behind ls ms h.0 ∙ h.1,
)

line-exactly : (n : ℕ) (b : Bool) (ms : List Line) → Without n ms → (first (line n 0 b ∷ ms) ≡ some (refusal n)) ↔ (b ≡ true)
unfolding first
line-exactly n true ms w = (λ e. refl, λ e. refl)
line-exactly n false ms w = (λ e. absurd (not-given n ms w (refusal n) e refl), λ e. never false e refl)

without-both : (n : ℕ) (ls ms : List Line) → Without n ls → Without n ms → Without n (ls ++ ms)
without-both n [] ms v w = w
without-both n (l ∷ ls) ms v w = (v.0, without-both n ls ms v.1 w)

-- where no line applies at all
behind-none : (ls ms : List Line) → (first (ls ++ ms) ≡ none) ↔ ((first ls ≡ none) × (first ms ≡ none))
behind-none ls ms = (none-of-both ls ms, λ h. first-behind ls ms h.0 ∙ h.1)

line-none : (n : ℕ) (b : Bool) (ms : List Line) → (first (line n 0 b ∷ ms) ≡ none) ↔ ((b ≡ false) × (first ms ≡ none))
line-none n b ms = (none-of-cons n 0 b ms, λ h. none-for-cons n 0 b ms h.0 h.1)

-- the numbers of a file's lines end at 6, those of the settings are 8
numbers-below : (n m file : ℕ) (tests : List Bool) → m + length tests ≤ n → Without n (numbered m file tests)
numbers-below n m file [] l = tt
numbers-below n m file (b ∷ bs) l = (λ e. omega arith, numbers-below n (suc m) file bs (omega arith))

file-numbers : (n file : ℕ) (f : List ℕ) → 6 < n → Without n (file_lines file f)
unfolding file_lines
file-numbers n file f l = numbers-below n 1 file (file_tests f) (omega arith)

settings-numbers : (n : ℕ) (s : List ℕ) → (8 ≡ n → ⊥) → Without n (settings_lines s)
unfolding settings_lines
settings-numbers n s other = (other, tt)

pair-numbers : (n : ℕ) (f₀ f₁ s : List ℕ) → 8 < n → Without n (pair_lines f₀ f₁ s)
pair-numbers n f₀ f₁ s l =
    without-both n (file_lines 0 f₀) _ (file-numbers n 0 f₀ (omega arith))
    (without-both n (file_lines 1 f₁) _ (file-numbers n 1 f₁ (omega arith)) (λ e. omega arith, settings-numbers n s (λ e. omega arith)))

-- what the lines say of a file
file-none : (file : ℕ) (f : List ℕ) → (first (file_lines file f) ≡ none) ↔ ((k : ℕ) → Says k f → ⊥)
file-none file f =
    let exactly = accepted-exactly file f in
    (λ e. exactly.0 (file-read file f e), λ h. no_line file f (graph_of f) (exactly.1 h))

not-not : (b : Bool) → (not b ≡ false) ↔ (b ≡ true)
not-not b = (not-false b, λ e. rw e)

module _ (f₀ f₁ s : List ℕ) where
  abbrev kinds : Bool
  kinds = not (eqb (kind f₀) (kind f₁))

  kinds-same : (kinds ≡ false) ↔ (kind f₀ ≡ kind f₁)
  kinds-same = Iff.trans (not-not (eqb (kind f₀) (kind f₁))) (decides-equal (kind f₀) (kind f₁))

  files-first : (n : ℕ) → 6 < n → (P : Type 0) → (first (line 7 0 kinds ∷ settings_lines s) ≡ some (refusal n)) ↔ P
      → (first (pair_lines f₀ f₁ s) ≡ some (refusal n)) ↔ (FilesRead f₀ f₁ × P)
  files-first n l P rest =
      let outer = behind-exactly n (file_lines 0 f₀) (kind_lines (kind f₀) f₁ s) (file-numbers n 0 f₀ l) in
      let inner = behind-exactly n (file_lines 1 f₁) (line 7 0 kinds ∷ settings_lines s) (file-numbers n 1 f₁ l) in (
        λ e. let a = outer.0 e in let b = inner.0 a.1 in (((file-none 0 f₀).0 a.0, (file-none 1 f₁).0 b.0), rest.0 b.1),
        λ h. outer.1 ((file-none 0 f₀).1 h.0.0, inner.1 ((file-none 1 f₁).1 h.0.1, rest.1 h.1)),
      )

  pair-none : (first (pair_lines f₀ f₁ s) ≡ none) ↔ Readable f₀ f₁ s
  pair-none =
      let outer = behind-none (file_lines 0 f₀) (kind_lines (kind f₀) f₁ s) in
      let inner = behind-none (file_lines 1 f₁) (line 7 0 kinds ∷ settings_lines s) in
      let last = line-none 7 kinds (settings_lines s) in (
        λ e. let a = outer.0 e in let b = inner.0 a.1 in let c = last.0 b.1 in
            (((file-none 0 f₀).0 a.0, (file-none 1 f₁).0 b.0), kinds-same.0 c.0, (settings-accepted-exactly s).0 c.1),
        λ h. outer.1 (
          (file-none 0 f₀).1 h.0.0,
          inner.1 (
            (file-none 1 f₁).1 h.0.1,
            last.1 (kinds-same.1 h.1, (settings-accepted-exactly s).1 h.2),
          ),
        ),
      )

  seventh : (first (line 7 0 kinds ∷ settings_lines s) ≡ some (refusal 7)) ↔ (kind f₀ ≡ kind f₁ → ⊥)
  seventh =
      Iff.trans (line-exactly 7 kinds (settings_lines s) (settings-numbers 7 s (λ e. omega arith))) (decides_not (decides-equal (kind f₀) (kind f₁)))

  eighth : (first (line 7 0 kinds ∷ settings_lines s) ≡ some (refusal 8)) ↔ ((kind f₀ ≡ kind f₁) × NotSettings s)
  eighth = Iff.trans (behind-exactly 8 (line 7 0 kinds ∷ []) (settings_lines s) (λ e. omega arith, tt))
      (Iff.and (Iff.trans (line-none 7 kinds []) (λ h. kinds-same.0 h.0, λ e. (kinds-same.1 e, none-of-nil))) (settings-refused-exactly s))

  -- lines that come behind those of files and settings
  behind-pair : (n : ℕ) → 8 < n → (ms : List Line) (P : Type 0) → (first ms ≡ some (refusal n)) ↔ P
      → (first (pair_lines f₀ f₁ s ++ ms) ≡ some (refusal n)) ↔ (Readable f₀ f₁ s × P)
  behind-pair n l ms P rest =
      Iff.trans (behind-exactly n (pair_lines f₀ f₁ s) ms (pair-numbers n f₀ f₁ s l)) (Iff.and pair-none rest)

  nine-passed : (h : Handed) → (first (line 9 0 (not (accepted_handed (search f₀ f₁ s) h)) ∷ []) ≡ none) ↔ (accepted_handed (search f₀ f₁ s) h ≡ true)
  nine-passed h =
      let accepted = not-not (accepted_handed (search f₀ f₁ s) h) in
      Iff.trans (line-none 9 _ []) (λ a. accepted.0 a.0, λ a. (accepted.1 a, none-of-nil))

  tenth : (h : Handed) (buffer : List ℕ) → (first (record_lines (search f₀ f₁ s) h (node_count f₁) buffer) ≡ some (refusal 10))
      ↔ ((accepted_handed (search f₀ f₁ s) h ≡ true) × (length buffer < 2 * node_count f₁))
  tenth h buffer =
      let nine = line 9 0 (not (accepted_handed (search f₀ f₁ s) h)) in
      Iff.trans (behind-exactly 10 (nine ∷ []) _ (λ e. omega arith, tt))
      (Iff.and (nine-passed h) (Iff.trans (line-exactly 10 _ [] tt) (decides-less (length buffer) (2 * node_count f₁))))

flat : {A B C : Type 0} → (A × (B × C)) ↔ (A × B × C)
flat = (λ h. (h.0, h.1.0, h.1.1), λ h. (h.0, (h.1, h.2)))

-- what the calls answer where a line applies

or-refused : (o : Option Refused) (r : Refused) → (or_begun o ≡ refused r) ↔ (o ≡ some r)
or-refused none r = (λ e. let z : ◌≡◌ {A = ℕ} 0 1 = cc in absurd (omega arith), none-not-some)
or-refused (some q) r = (λ e. cc, λ e. cc)

or-turned-away : (o : Option Refused) (set : Settings) (g₀ g₁ : Graph) (h : Handed) (budget : ℕ) (buffer : List ℕ) (r : Refused)
    → (refusal_of (or_went o set g₀ g₁ h budget buffer) ≡ some r) ↔ (o ≡ some r)
or-turned-away none set g₀ g₁ h budget buffer r = (none-not-some, none-not-some)
or-turned-away (some q) set g₀ g₁ h budget buffer r = Iff.rfl

or-rejected : (o : Option Refused) (P : Type 0) (r : Refused) → Judged o P (rejected r) ↔ (o ≡ some r)
or-rejected none P r = (
  ⊎_elim (λ h. let e = h.0 in let z : ◌≡◌ {A = ℕ} 0 1 = cc in absurd (omega arith)) (λ h. let e = h.0 in let z : ◌≡◌ {A = ℕ} 0 1 = cc in absurd (omega arith)),
  none-not-some,
)
or-rejected (some q) P r = (λ e. cc, λ e. cc)

pub numbers-exactly : NumbersExactly
numbers-exactly =
    record {
      begun_exactly = λ f₀ f₁ s. Iff.trans (λ e. (begins f₀ f₁ s (handed started) e).0, ap or_begun) (pair-none f₀ f₁ s);
      seven = λ f₀ f₁ s. Iff.trans (or-refused _ (refusal 7)) (files-first f₀ f₁ s 7 (omega arith) _ (seventh f₀ f₁ s));
      eight = λ f₀ f₁ s. Iff.trans (or-refused _ (refusal 8)) (Iff.trans (files-first f₀ f₁ s 8 (omega arith) _ (eighth f₀ f₁ s)) flat);
      nine = λ f₀ f₁ s h budget buffer.
          Iff.trans (or-turned-away _ _ _ _ h budget buffer (refusal 9))
          (behind-pair f₀ f₁ s 9 (omega arith) _ _
          (Iff.trans (line-exactly 9 _ _ (λ e. omega arith, tt)) (decides_not (decides-itself (accepted_handed (search f₀ f₁ s) h)))));
      ten = λ f₀ f₁ s h budget buffer.
          Iff.trans (or-turned-away _ _ _ _ h budget buffer (refusal 10))
          (Iff.trans (behind-pair f₀ f₁ s 10 (omega arith) _ _ (tenth f₀ f₁ s h buffer)) flat);
      eleven = λ f₀ f₁ s map'.
          Iff.trans (or-rejected _ _ (refusal 11))
          (behind-pair f₀ f₁ s 11 (omega arith) _ _
          (Iff.trans (line-exactly 11 _ [] tt) (decides_not (decides-equal (length map') (node_count f₁)))));
    }
