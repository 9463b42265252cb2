-- What the refusal table says of the settings (document 01, "The five outer calls and what they turn away"), and the claims that
-- refusal 8 is given exactly when it does.
use Rattle.std.specs.Prelude.{ℕ, ◌<◌, true, false, List, ◌↔◌, ◌⊎◌, ◌≡◌, length}
use Rattle.std.proofs.Math.Option.{none, some}
use Rattle.packed.specs.Refusals.{first}
use Rattle.settings.specs.Settings.{ordering, spare, limited, limit_field, settings_lines}

-- 8: settings not 5 bytes, ordering 2 or 3, spare bit 1, limit over its maximum, or limit not zero with limited 0
abbrev pub NotSettings : List ℕ → Type 0
NotSettings s =
    (length s ≡ 5 → ⊥)
    ⊎ ((ordering s ≡ 2) ⊎ (ordering s ≡ 3))
    ⊎ (spare s ≡ true)
    ⊎ (4294967294 < limit_field s)
    ⊎ ((limited s ≡ false) × (limit_field s ≡ 0 → ⊥))

abbrev pub SettingsRefusedExactly : List ℕ → Type 0
SettingsRefusedExactly s = (first (settings_lines s) ≡ some (record { number = 8; file = 0 })) ↔ NotSettings s

abbrev pub SettingsAcceptedExactly : List ℕ → Type 0
SettingsAcceptedExactly s = (first (settings_lines s) ≡ none) ↔ (NotSettings s → ⊥)
