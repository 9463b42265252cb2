-- Settings (document 01, "Packed graph"): five bytes are settings, or refusal 8.
use Rattle.std.specs.Prelude.{ℕ, Bool, cond, ◌&&◌, ◌||◌, not, List, [], ◌∷◌, eqb, ltb, length}
use Rattle.std.proofs.Math.Option.{Option, none, some}
use Rattle.bits.specs.Bits.{field}
use Rattle.packed.specs.Refusals.{Line, line}

-- ordering Equal or Greater, node order by id or VF2++, the three switches, and the limit, if there is one
pub record Settings : Type 0 where
  pub greater : Bool
  pub vf2pp : Bool
  pub induced : Bool
  pub node_labels : Bool
  pub edge_labels : Bool
  pub limit : Option ℕ

-- ordering 2 bits (0 Equal, 1 Greater), node order 1, induced 1, compare node labels 1, compare edge labels 1,
-- limited 1, spare 1; limit 32 bits
abbrev pub ordering : List ℕ → ℕ
ordering s = field s 0 2

abbrev pub is_set : List ℕ → ℕ → Bool
is_set s o = eqb (field s o 1) 1

abbrev pub limited : List ℕ → Bool
limited s = is_set s 6

abbrev pub spare : List ℕ → Bool
spare s = is_set s 7

abbrev pub limit_field : List ℕ → ℕ
limit_field s = field s 8 32

unfoldable pub settings_of : List ℕ → Settings
settings_of s =
    record {
      greater = eqb (ordering s) 1;
      vf2pp = is_set s 2;
      induced = is_set s 3;
      node_labels = is_set s 4;
      edge_labels = is_set s 5;
      limit = cond (limited s) (some (limit_field s)) none;
    }

-- 8: settings not 5 bytes, ordering 2 or 3, spare bit 1, limit over its maximum, or limit not zero with limited 0
abbrev pub bad_settings : List ℕ → Bool
bad_settings s =
    not (eqb (length s) 5)
    || (ltb 1 (ordering s)
    || (spare s
    || (ltb 4294967294 (limit_field s)
    || (not (limited s) && not (eqb (limit_field s) 0)))))

unfoldable pub settings_lines : List ℕ → List Line
settings_lines s = line 8 0 (bad_settings s) ∷ []
