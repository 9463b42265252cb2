-- Settings at their boundaries, computed (document 01, "Packed graph").
use Rattle.std.specs.Prelude.{true, false, [], ◌∷◌, ◌≡◌, refl}
use Rattle.std.proofs.Math.Option.{none, some}
use Rattle.bits.specs.Bits.{field}
use Rattle.packed.specs.Refusals.{first}
use Rattle.settings.specs.Settings.{settings_of, settings_lines}

-- the worked listing's settings: Greater, by id, nothing compared, no limit
worked-settings : settings_of (0x40 ∷ 0 ∷ 0 ∷ 0 ∷ 0 ∷ [])
    ≡ record { greater = true; vf2pp = false; induced = false; node_labels = false; edge_labels = false; limit = none }
unfolding settings_of field
worked-settings = refl

-- the largest limit passes, one more does not
largest-limit : first (settings_lines (0x02 ∷ 0xff ∷ 0xff ∷ 0xff ∷ 0xfe ∷ [])) ≡ none
unfolding settings_lines first field
largest-limit = refl

over-the-limit : first (settings_lines (0x02 ∷ 0xff ∷ 0xff ∷ 0xff ∷ 0xff ∷ [])) ≡ some (record { number = 8; file = 0 })
unfolding settings_lines first field
over-the-limit = refl
