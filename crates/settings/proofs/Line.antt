-- The tests of the table's eighth line, one after the other: the first that holds makes the bytes no settings, and bytes that pass
-- all of them are settings.
use Prim.Native.Nat.{ℕ}
use mathlib.Core.Bool.{true, false, not, ◌&&◌}
use mathlib.Core.List.{List}
use mathlib.Core.Option.{none, some}
use mathlib.Core.Path.{◌≡◌}
use lib.Dec.{eqb, ltb}
use lib.ListN.{length}
use borrow.Author.Tests.{eq-eqb, ne_eqb}
use Rattle.settings.specs.Settings.{ordering, spare, limited, limit_field, settings_of}
use Rattle.settings.specs.Paper.{settings_reading}

module _ (s : List ℕ) where
  pub wrong-length : (length s ≡ 5 → ⊥) → settings_reading s ≡ none
  wrong-length h = rw (ne_eqb (length s) 5 h)

  module _ (long : length s ≡ 5) where
    pub unknown-ordering : ltb 1 (ordering s) ≡ true → settings_reading s ≡ none
    unknown-ordering h = rw (eq-eqb (length s) 5 long, h)

    module _ (known : ltb 1 (ordering s) ≡ false) where
      pub spare-bit : spare s ≡ true → settings_reading s ≡ none
      spare-bit h = rw (eq-eqb (length s) 5 long, known, h)

      module _ (clear : spare s ≡ false) where
        pub limit-over : ltb 4294967294 (limit_field s) ≡ true → settings_reading s ≡ none
        limit-over h = rw (eq-eqb (length s) 5 long, known, clear, h)

        module _ (most : ltb 4294967294 (limit_field s) ≡ false) where
          pub limit-unasked : (not (limited s) && not (eqb (limit_field s) 0)) ≡ true → settings_reading s ≡ none
          limit-unasked h = rw (eq-eqb (length s) 5 long, known, clear, most, h)

          pub all-passed : (not (limited s) && not (eqb (limit_field s) 0)) ≡ false → settings_reading s ≡ some (settings_of s)
          all-passed h = rw (eq-eqb (length s) 5 long, known, clear, most, h)
