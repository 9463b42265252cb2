-- What follows where no line of the table applies to two files and settings.
use Prim.Native.Nat.{ℕ}
use mathlib.Core.Bool.{false}
use mathlib.Core.List.{List}
use mathlib.Core.Option.{Option, none, some}
use mathlib.Core.Path.{◌≡◌, refl, sym, ◌∙◌}
use native.Mathlib.Omega.{arith}
use borrow.Author.Tests.{eqb-true, not-false, eq-eqb}
use Rattle.packed.specs.Packed.{kind, graph_of}
use Rattle.packed.specs.Refusals.{Refused, first, file_lines, reading, graph}
use Rattle.settings.specs.Settings.{bad_settings, settings_lines}
use Rattle.packed.proofs.First.{first-behind, none-of-nil, none-of-cons, none-for-cons, none-of-both}
use Rattle.packed.proofs.Accepted.{accepted, Accepted, graphs-of-one-kind}
use Rattle.rules.specs.Handed.{Handed, handed}
use Rattle.rules.specs.Search.{started}
use Rattle.rules.specs.Calls.{kind_lines, pair_lines, start_says, begun, or_begun}
use Rattle.placements.specs.Claims.{OfOneKind}
use Rattle.placements.proofs.Files.{files-ensure}

-- a file to which no line applies is read
pub file-read : (file : ℕ) (f : List ℕ) → first (file_lines file f) ≡ none → reading file f ≡ graph (graph_of f)
unfolding reading
file-read file f e = rw e

-- and for which file it is doesn't matter
pub file-either : (file other : ℕ) (f : List ℕ) → first (file_lines file f) ≡ none → first (file_lines other f) ≡ none
unfolding file_lines
file-either file other f e =
    let a = none-of-cons 1 file _ _ e in
    let b = none-of-cons 2 file _ _ a.1 in
    let c = none-of-cons 3 file _ _ b.1 in
    let d = none-of-cons 4 file _ _ c.1 in
    let g = none-of-cons 5 file _ _ d.1 in
    let h = none-of-cons 6 file _ _ g.1 in
    none-for-cons 1 other _ _ a.0 (none-for-cons 2 other _ _ b.0 (none-for-cons 3 other _ _ c.0 (none-for-cons 4 other _ _ d.0
    (none-for-cons 5 other _ _ g.0 (none-for-cons 6 other _ _ h.0 none-of-nil)))))

pub record NotRefused (f₀ f₁ s : List ℕ) : Type 0 where
  pub no_line₀ : first (file_lines 0 f₀) ≡ none
  pub no_line₁ : first (file_lines 1 f₁) ≡ none
  pub kinds : kind f₀ ≡ kind f₁
  pub settings_good : bad_settings s ≡ false

module _ (f₀ f₁ s : List ℕ) where
  pub not_refused : first (pair_lines f₀ f₁ s) ≡ none → NotRefused f₀ f₁ s
  unfolding settings_lines
  not_refused e =
      let files = none-of-both (file_lines 0 f₀) (kind_lines (kind f₀) f₁ s) e in
      let second = none-of-both (file_lines 1 f₁) _ files.1 in
      let two = none-of-cons 7 0 _ (settings_lines s) second.1 in
      record {
        no_line₀ = files.0;
        no_line₁ = second.0;
        kinds = eqb-true (kind f₀) (kind f₁) (not-false _ two.0);
        settings_good = (none-of-cons 8 0 _ _ two.1).0;
      }

  pub no_line : NotRefused f₀ f₁ s → first (pair_lines f₀ f₁ s) ≡ none
  unfolding settings_lines
  no_line n =
      first-behind (file_lines 0 f₀) (kind_lines (kind f₀) f₁ s) n.no_line₀
      ∙ first-behind (file_lines 1 f₁) _ n.no_line₁
      ∙ none-for-cons 7 0 _ (settings_lines s) (rw (eq-eqb (kind f₀) (kind f₁) n.kinds)) (none-for-cons 8 0 _ _ n.settings_good none-of-nil)

  pub files-accepted : NotRefused f₀ f₁ s → (Accepted f₀) × (Accepted f₁)
  files-accepted n =
      (accepted 0 f₀ (graph_of f₀) (file-read 0 f₀ n.no_line₀), accepted 1 f₁ (graph_of f₁) (file-read 1 f₁ n.no_line₁))

  pub of-one-kind : NotRefused f₀ f₁ s → OfOneKind (graph_of f₀) (graph_of f₁)
  of-one-kind n =
      files-ensure f₀ f₁ (graph_of f₀) (graph_of f₁) (file-read 0 f₀ n.no_line₀) (file-read 1 f₁ n.no_line₁) (graphs-of-one-kind f₀ f₁ n.kinds)

  -- Start's record says the same
  pub begins : (h : Handed) → start_says f₀ f₁ s ≡ begun h → (first (pair_lines f₀ f₁ s) ≡ none) × (h ≡ handed started)
  begins h e = by_first (first (pair_lines f₀ f₁ s)) refl e
    where
      by_first : (o : Option Refused) → first (pair_lines f₀ f₁ s) ≡ o → or_begun o ≡ begun h
          → (first (pair_lines f₀ f₁ s) ≡ none) × (h ≡ handed started)
      by_first none a e = let z : handed started ≡ h = cc e in (a, sym z)
      by_first (some r) a e = let z : ◌≡◌ {A = ℕ} 0 1 = cc in absurd (omega arith)
