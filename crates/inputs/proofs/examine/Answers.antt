-- `inputs::examine` meets its contract: file 0's answer, file 1's, the comparison of the kinds and the settings' answer, each where the
-- lines in front of it do not apply.
use mathlib.Core.Bool.{Bool, beq, true, false, not}
use mathlib.Core.Option.{none, some}
use mathlib.Core.Path.{◌≡◌}
use Rattle.std.proofs.lemmas.Result.{err_from_is_err_and}
use Rattle.packed.specs.Packed.{kind}
use Rattle.packed.proofs.Accepted.{Counted, counted, refused-line}
use Rattle.settings.specs.Settings.{Settings}
use Rattle.settings.specs.Paper.{settings_reading}
use Rattle.inputs.specs.Inputs.{ExamineSays, accepted, refused, examine_says}
use Rattle.inputs.proofs.Lines.{kind-below, first-refused, first-accepted, second_says, second-refused, kinds-differ, settings-bad, both-accepted}
use Rattle.inputs.proofs.examine.Goals.{In_ok-first, In_ok-second, at-In_ok-second}
use Rattle.inputs.proofs.examine.Goals as goal

-- where a file is accepted, its counts are those answered
first-counted : (c : In_ok-first) → Counted c.args.file0.now c.in_ok-first.first.directed c.in_ok-first.first.nodes c.in_ok-first.first.edges
first-counted c = counted 0 c.args.file0.now _ _ _ c.in_ok-first.ensures

second-counted : (c : In_ok-second) → Counted c.args.file1.now c.in_ok-second.second.directed c.in_ok-second.second.nodes c.in_ok-second.second.edges
second-counted c = counted 1 c.args.file1.now _ _ _ c.in_ok-second.ensures

-- what is said once file 0 is accepted
behind-first : (c : In_ok-first) (said : ExamineSays) → let a = c.args in
    said ≡ second_says c.in_ok-first.first.directed c.in_ok-first.first.nodes c.in_ok-first.first.edges (kind a.file0.now) a.file1.now a.settings.now
    → said ≡ examine_says a.file0.now a.file1.now a.settings.now
behind-first c said h = let a = c.args in first-accepted a.file0.now a.file1.now a.settings.now _ _ _ (first-counted c) said h

-- and once file 1 is
module _ (c : In_ok-second) where
  abbrev place : In_ok-first
  place = (at-In_ok-second c).In_ok-first

  abbrev said : ExamineSays
  said = second_says c.in_ok-first.first.directed c.in_ok-first.first.nodes c.in_ok-first.first.edges (kind c.args.file0.now) c.args.file1.now c.args.settings.now

  abbrev kinds_differ : Bool
  kinds_differ = not (beq c.in_ok-first.first.directed c.in_ok-second.second.directed)

  differ : kinds_differ ≡ true → refused (record { number = 7; file = 0 }) ≡ said
  differ h =
      kinds-differ _ _ _ (kind c.args.file0.now) c.args.file1.now c.args.settings.now (kind-below c.args.file0.now) (first-counted place).directed_is
      _ _ _ (second-counted c) h

  module _ (alike : kinds_differ ≡ false) where
    unset : none ≡ settings_reading c.args.settings.now → refused (record { number = 8; file = 0 }) ≡ said
    unset e =
        settings-bad _ _ _ (kind c.args.file0.now) c.args.file1.now c.args.settings.now (kind-below c.args.file0.now) (first-counted place).directed_is
        _ _ _ (second-counted c) alike e

    both : (set : Settings) → some set ≡ settings_reading c.args.settings.now
        → accepted c.in_ok-second.second.directed c.in_ok-first.first.nodes c.in_ok-first.first.edges c.in_ok-second.second.nodes c.in_ok-second.second.edges set ≡ said
    both set e =
        both-accepted _ _ _ (kind c.args.file0.now) c.args.file1.now c.args.settings.now (kind-below c.args.file0.now) (first-counted place).directed_is
        _ _ _ (second-counted c) alike set e

pub returns-in_err-first : goal.returns-in_err-first
returns-in_err-first c =
    let a = c.args in
    let p = err_from_is_err_and c.from_residual.result c.from_residual.ensures.1 in
    rw (p.1, p.2) (first-refused a.file0.now a.file1.now a.settings.now _ (refused-line 0 a.file0.now _ c.in_err-first.ensures))

pub returns-in_err-second : goal.returns-in_err-second
returns-in_err-second c =
    let a = c.args in
    let p = err_from_is_err_and c.from_residual-in_err-second.result c.from_residual-in_err-second.ensures.1 in
    rw (p.1, p.2)
    (behind-first (goal.at.returns-in_err-second c).In_ok-first _
    (second-refused _ _ _ (kind a.file0.now) a.file1.now a.settings.now _ (refused-line 1 a.file1.now _ c.in_err-second.ensures)))

pub returns-then-kinds_differ : goal.returns-then-kinds_differ
returns-then-kinds_differ c =
    let place = goal.at.returns-then-kinds_differ c in
    rw c.from.ensures (behind-first place.In_ok-first _ (differ place.In_ok-second c.if-kinds_differ.true))

pub returns-in_err-chosen : goal.returns-in_err-chosen
returns-in_err-chosen c =
    let place = goal.at.returns-in_err-chosen c in
    let p = err_from_is_err_and c.from_residual-in_err-chosen.result c.from_residual-in_err-chosen.ensures.1 in
    rw (p.1, p.2) (behind-first place.In_ok-first _ (unset place.In_ok-second c.if-kinds_differ.false c.in_err-chosen.ensures))

pub returns : goal.returns
returns c =
    let place = goal.at.returns c in
    behind-first place.In_ok-first _ (both place.In_ok-second c.if-kinds_differ.false _ c.in_ok-chosen.ensures)
