-- Refusal 8 is given exactly when five bytes are no settings: each part of the test decides the part of the sentence.
use Prim.Native.Nat.{ℕ, zero, suc, ◌<◌}
use mathlib.Core.List.{List, [], ◌∷◌}
use mathlib.Core.Logic.{◌⊎◌, inl, inr, ⊎_elim}
use mathlib.Core.Path.{◌≡◌, refl}
use native.Mathlib.Omega.{arith}
use lib.Dec.{eqb, ltb}
use lib.ListN.{length}
use borrow.Author.Tests.{ltb-true, lt-ltb, eqb-true, eqb-false}
use Rattle.basics.proofs.Tests.{case}
use Rattle.basics.proofs.Decides.{Decides, decides-itself, decides-off, decides-equal, decides-less, decides-false, decides_not, decides_or, decides_and}
use Rattle.bits.proofs.Laws.{field_below}
use Rattle.packed.proofs.First.{first-none, first-at}
use Rattle.settings.specs.Settings.{ordering, spare, limited, limit_field, bad_settings, settings_lines}
use Rattle.settings.specs.Table.{NotSettings, SettingsRefusedExactly, SettingsAcceptedExactly}

two-or-three : (x : ℕ) → x < 4 → Decides (ltb 1 x) ((x ≡ 2) ⊎ (x ≡ 3))
two-or-three x below = (
  λ e. let over = ltb-true 1 x e in
      case (eqb x 2) (λ t. inl (eqb-true x 2 t)) (λ t. let other = eqb-false x 2 t in inr (omega arith)),
  ⊎_elim (λ h. lt-ltb 1 x (omega arith)) (λ h. lt-ltb 1 x (omega arith)),
)

bad-settings : (s : List ℕ) → Decides (bad_settings s) (NotSettings s)
bad-settings s =
    decides_or (decides_not (decides-equal (length s) 5))
    (decides_or (two-or-three (ordering s) (field_below s 0 2))
    (decides_or (decides-itself (spare s))
    (decides_or (decides-less 4294967294 (limit_field s))
    (decides_and (decides-off (limited s)) (decides_not (decides-equal (limit_field s) 0))))))

pub settings-refused-exactly : (s : List ℕ) → SettingsRefusedExactly s
unfolding settings_lines
settings-refused-exactly s =
    let given = first-at 8 0 (bad_settings s ∷ []) 0 in
    (λ e. (bad-settings s).0 (given.0 e).0, λ h. given.1 ((bad-settings s).1 h, λ j l. absurd (omega arith)))

pub settings-accepted-exactly : (s : List ℕ) → SettingsAcceptedExactly s
unfolding settings_lines
settings-accepted-exactly s =
    let given = first-none 8 0 (bad_settings s ∷ []) in
    let bad = decides-false (bad-settings s) in
    (λ e. bad.0 (given.0 e 0), λ h. given.1 (elim [ zero ↦ bad.1 h | suc j ↦ refl ]))
