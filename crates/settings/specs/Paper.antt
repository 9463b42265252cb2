-- The settings that the code answers with, in the paper's values.
use Rattle.std.specs.Prelude.{ℕ, Bool, true, false, cond, List, eqb, Result, Ok, Err, Some, None}
use Rattle.std.specs.Prelude as Code
use Rattle.std.proofs.Math.Option.{Option, none, some}
use Rattle.settings.specs.Settings.{Settings, settings_of, bad_settings}
use Rattle.settings.specs.declared.Chosen.{Chosen}
use Rattle.settings.specs.declared.Ordering.{Ordering}
use Rattle.settings.specs.declared.Ordering.TheVariants.{Equal, Greater}
use Rattle.settings.specs.declared.BadSettings.{BadSettings}

-- 0 Equal, 1 Greater
abbrev pub ordering_in : ℕ → Option Ordering
ordering_in code = cond (eqb code 0) (some Equal) (cond (eqb code 1) (some Greater) none)

-- what is read, or nothing where it is bad
abbrev pub ordering_read : Result Ordering BadSettings → Option Ordering
ordering_read (Ok ordering) = some ordering
ordering_read (Err _) = none

-- five bytes are settings, or refusal 8
abbrev pub settings_reading : List ℕ → Option Settings
settings_reading s = cond (bad_settings s) none (some (settings_of s))

abbrev pub limit_in : Code.Option ℕ → Option ℕ
limit_in (Some limit) = some limit
limit_in None = none

abbrev pub settings_in : Chosen → Settings
settings_in k =
    record {
      greater = k.greater;
      vf2pp = k.plus_plus;
      induced = k.induced;
      node_labels = k.node_labels;
      edge_labels = k.edge_labels;
      limit = limit_in k.limit;
    }

abbrev pub settings_paper : Result Chosen BadSettings → Option Settings
settings_paper (Ok k) = some (settings_in k)
settings_paper (Err _) = none
