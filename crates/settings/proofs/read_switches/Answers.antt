-- `settings::read_switches` meets its contract: each test of the code, over its locals, is the eighth line's over the fields, and
-- what passes all of them is read field by field.
use Prim.Native.Nat.{ℕ}
use mathlib.Core.Bool.{Bool, true, false, cond, not, ◌&&◌}
use mathlib.Core.List.{List}
use mathlib.Core.Option.{none, some}
use mathlib.Core.Path.{◌≡◌, refl, sym, ◌∙◌, ap}
use lib.Dec.{eqb, ltb}
use borrow.Author.Tests.{le-ltb}
use Rattle.settings.specs.Settings.{ordering, is_set, spare, limited, limit_field, settings_of}
use Rattle.settings.specs.Paper.{settings_in, limit_in}
use Rattle.std.specs.Bool.{then_some}
use Rattle.settings.specs.declared.Chosen.{Chosen}
use Rattle.settings.proofs.Line.{all-passed}
use Rattle.settings.proofs.read_switches.Goals.{Else-is_set, Else-limit-gt-MAX_LIMIT}
use Rattle.settings.proofs.read_switches.Goals as goal

clear : (c : Else-is_set) → spare c.args.s.now ≡ false
clear c = sym c.is_set.ensures ∙ c.if-is_set.false

most : (c : Else-limit-gt-MAX_LIMIT) → ltb 4294967294 (limit_field c.args.s.now) ≡ false
most c = rw (← c.number-limit.ensures) (le-ltb 4294967294 c.number-limit.result c.if-limit-gt-MAX_LIMIT.false)

tested : (s : List ℕ) (r b : Bool) (l : ℕ) → r ≡ (not b && not (eqb l 0)) → b ≡ limited s → l ≡ limit_field s
    → (not (limited s) && not (eqb (limit_field s) 0)) ≡ r
tested s r b l e p q = rw (← p, ← q) (sym e)

chosen : (s : List ℕ) (k : Chosen) → k.greater ≡ eqb (ordering s) 1 → k.plus_plus ≡ is_set s 2 → k.induced ≡ is_set s 3
    → k.node_labels ≡ is_set s 4 → k.edge_labels ≡ is_set s 5 → limit_in k.limit ≡ cond (limited s) (some (limit_field s)) none
    → settings_in k ≡ settings_of s
unfolding settings_of
chosen s k e₀ e₂ e₃ e₄ e₅ e₆ = rw (e₀, e₂, e₃, e₄, e₅, e₆)

-- a limit where there is one
limit : (b : Bool) (x : ℕ) → limit_in (then_some b x) ≡ cond b (some x) none
limit true x = refl
limit false x = refl

read : (s : List ℕ) (b : Bool) (x : ℕ) → b ≡ limited s → x ≡ limit_field s → limit_in (then_some b x) ≡ cond (limited s) (some (limit_field s)) none
read s b x p q = rw (← p, ← q) (limit b x)

pub returns : goal.returns
returns c =
    let test = tested c.args.s.now _ _ _ c.is_limit_unasked.ensures c.is_set-limited.ensures c.number-limit.ensures in
    ap some (chosen c.args.s.now _ c.requires.greater_is c.is_set-plus_plus.ensures c.is_set-induced.ensures
    c.is_set-node_labels.ensures c.is_set-edge_labels.ensures (rw c.then_some.ensures (read c.args.s.now _ _ c.is_set-limited.ensures c.number-limit.ensures)))
    ∙ sym (all-passed c.args.s.now c.requires.settings_len c.requires.ordering_known (clear (goal.at.returns c).Else-is_set) (most (goal.at.returns c).Else-limit-gt-MAX_LIMIT) (test ∙ c.if-is_limit_unasked.false))
