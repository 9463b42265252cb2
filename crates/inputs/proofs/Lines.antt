-- The table's lines 1 to 8 for two files and settings: a line that applies is what is said, and lines of which none applies leave it
-- to those behind them. A kind is one bit, so that line 7 compares the two directed flags.
use Prim.Native.Nat.{ℕ, ◌<◌}
use mathlib.Core.Bool.{Bool, beq, true, false, not}
use mathlib.Core.List.{List, ◌∷◌}
use mathlib.Core.Option.{none, some}
use mathlib.Core.Path.{◌≡◌, refl, sym, ◌∙◌}
use native.Mathlib.Omega.{arith}
use lib.Dec.{eqb}
use borrow.Author.Tests.{eqb-true, eqb-false, eq-eqb, ne_eqb}
use Rattle.basics.proofs.Tests.{case, none-not-some}
use Rattle.bits.proofs.Laws.{field_below}
use Rattle.packed.specs.Packed.{kind, graph_of}
use Rattle.packed.specs.Refusals.{Refused, line, first, file_lines}
use Rattle.settings.specs.Settings.{Settings, settings_of, settings_lines, bad_settings}
use Rattle.packed.proofs.First.{first-before, first-behind, no_line}
use Rattle.packed.proofs.Accepted.{Counted, nodes-of-graph, edges-of-graph}
use Rattle.settings.specs.Paper.{settings_reading}
use Rattle.rules.specs.Calls.{kind_lines}
use Rattle.inputs.specs.Inputs.{ExamineSays, accepted, refused, or_accepted, examine_says}

some_same : {A : Type 0} (x y : A) → some x ≡ some y → x ≡ y
some_same x y e = cc

-- a kind is 0 or 1
pub kind-below : (s : List ℕ) → kind s < 2
kind-below s = field_below s 0 1

kinds-compared : (a b : ℕ) → a < 2 → b < 2 → eqb a b ≡ beq (eqb a 1) (eqb b 1)
kinds-compared a b l m =
    case (eqb a 1)
    (λ e. case (eqb b 1)
    (λ f. let p = eqb-true a 1 e in let q = eqb-true b 1 f in rw (e, f) (eq-eqb a b (omega arith)))
    (λ f. let p = eqb-true a 1 e in let q = eqb-false b 1 f in rw (e, f) (ne_eqb a b (λ z. q (omega arith)))))
    (λ e. case (eqb b 1)
    (λ f. let p = eqb-false a 1 e in let q = eqb-true b 1 f in rw (e, f) (ne_eqb a b (λ z. p (omega arith))))
    (λ f. let p = eqb-false a 1 e in let q = eqb-false b 1 f in rw (e, f) (eq-eqb a b (omega arith))))

-- bytes that are no settings are bad ones, and bytes that are settings are no bad ones
bad : (s : List ℕ) → none ≡ settings_reading s → bad_settings s ≡ true
bad s e = case (bad_settings s) (λ h. h) (λ h. none-not-some (rw h at e))

good : (s : List ℕ) (set : Settings) → some set ≡ settings_reading s → (bad_settings s ≡ false) × (set ≡ settings_of s)
good s set e = case (bad_settings s) (λ h. none-not-some (sym (rw h at e))) (λ h. (h, some_same set (settings_of s) (rw h at e)))

module _ (directed₀ : Bool) (n₀ edges₀ kind₀ : ℕ) (f₁ s : List ℕ) where
  -- what is said once no line applies to file 0
  abbrev pub second_says : ExamineSays
  second_says = or_accepted (first (kind_lines kind₀ f₁ s)) directed₀ n₀ edges₀ (graph_of f₁) (settings_of s)

  pub second-refused : (r : Refused) → first (file_lines 1 f₁) ≡ some r → refused r ≡ second_says
  second-refused r e = rw (first-before (file_lines 1 f₁) (line 7 0 (not (eqb kind₀ (kind f₁))) ∷ settings_lines s) r e)

  module _ (small : kind₀ < 2) (told : directed₀ ≡ eqb kind₀ 1) (directed : Bool) (n edges : ℕ) (second : Counted f₁ directed n edges) where
    behind : first (kind_lines kind₀ f₁ s) ≡ first (line 7 0 (not (beq directed₀ directed)) ∷ settings_lines s)
    behind =
        rw (told, second.directed_is, ← kinds-compared kind₀ (kind f₁) small (kind-below f₁))
        (first-behind (file_lines 1 f₁) (line 7 0 (not (eqb kind₀ (kind f₁))) ∷ settings_lines s)
        (no_line 1 f₁ (graph_of f₁) (second.file_accepted.is_graph 1)))

    pub kinds-differ : not (beq directed₀ directed) ≡ true → refused (record { number = 7; file = 0 }) ≡ second_says
    unfolding first
    kinds-differ h = rw (behind, h)

    module _ (alike : not (beq directed₀ directed) ≡ false) where
      pub settings-bad : none ≡ settings_reading s → refused (record { number = 8; file = 0 }) ≡ second_says
      unfolding first settings_lines
      settings-bad e = rw (behind, alike, bad s e)

      pub both-accepted : (set : Settings) → some set ≡ settings_reading s → accepted directed n₀ edges₀ n edges set ≡ second_says
      unfolding first settings_lines
      both-accepted set e =
          let ok = good s set e in
          rw (behind, alike, ok.0, ok.1, nodes-of-graph f₁, edges-of-graph f₁, second.nodes_are, second.edges_are, same directed₀ directed alike)
        where
          same : (a b : Bool) → not (beq a b) ≡ false → a ≡ b
          same true true e = refl
          same true false e = e
          same false true e = sym e
          same false false e = refl

module _ (f₀ f₁ s : List ℕ) where
  pub first-refused : (r : Refused) → first (file_lines 0 f₀) ≡ some r → refused r ≡ examine_says f₀ f₁ s
  first-refused r e = rw (first-before (file_lines 0 f₀) (kind_lines (kind f₀) f₁ s) r e)

  pub first-accepted : (directed : Bool) (n edges : ℕ) → Counted f₀ directed n edges → (said : ExamineSays)
      → said ≡ second_says directed n edges (kind f₀) f₁ s → said ≡ examine_says f₀ f₁ s
  unfolding graph_of
  first-accepted directed n edges one said h =
      h
      ∙ rw (
        first-behind (file_lines 0 f₀) (kind_lines (kind f₀) f₁ s) (no_line 0 f₀ (graph_of f₀) (one.file_accepted.is_graph 0)),
        nodes-of-graph f₀,
        edges-of-graph f₀,
        one.directed_is,
        one.nodes_are,
        one.edges_are,
      )
