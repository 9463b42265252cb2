-- Bits and fields of a list of bytes (document 01, "Packed graph": most significant bit first, no gaps).
use Rattle.std.specs.Prelude.{ℕ, zero, suc, ◌+◌, ◌-◌, ◌*◌, ◌/◌, ◌%◌, ◌^◌, List, get_or}

-- the bit at an offset; past the end it is 0
abbrev pub bit_at : List ℕ → ℕ → ℕ
bit_at s o = get_or s (o / 8) 0 / 2 ^ (7 - o % 8) % 2

-- the number of the field of k bits at offset o
unfoldable pub field : List ℕ → ℕ → ℕ → ℕ
field s o zero = 0
field s o (suc k) = field s o k * 2 + bit_at s (o + k)
