-- The text of the answers, and what digits in a text spell.
use Rattle.std.specs.Prelude.{ℕ, ◌+◌, ◌*◌, ◌-◌, ◌/◌, ◌<◌, cond, ◌&&◌, leb, ltb, length, get_or, Some, None, decimal, flat_map, fold}
use Rattle.std.specs.List.{list_any}
use Rattle.std.specs.declared.option.Option.{Option}
use mathlib.Core.List.{List, [], ◌∷◌, ◌++◌, map}
use Rattle.basics.specs.Lists.{from}

-- a blank and a number
abbrev pub field : ℕ → List ℕ
field n = 32 ∷ decimal n

-- a field for each number
abbrev pub fields : List ℕ → List ℕ
fields numbers = flat_map field numbers

-- a blank and two numbers with a colon between them
abbrev pub pair : ℕ → ℕ → List ℕ
pair a b = field a ++ 58 ∷ decimal b

-- the i-th pair of a map's bytes
abbrev pub pair_at : List ℕ → ℕ → List ℕ
pair_at bytes i = pair (get_or bytes (2 * i) 0) (get_or bytes (2 * i + 1) 0)

-- a name and two numbers
abbrev pub outcome : List ℕ → ℕ → ℕ → List ℕ
outcome name a b = name ++ field a ++ field b

-- `map` and the pairs
abbrev pub map_text : List ℕ → List ℕ
map_text bytes = 109 ∷ 97 ∷ 112 ∷ flat_map (pair_at bytes) (from 0 (length bytes / 2))

-- a map and a line feed
abbrev pub map_line : List ℕ → List ℕ
map_line bytes = map_text bytes ++ 10 ∷ []

-- a name, two numbers and a line feed
abbrev pub last_line : List ℕ → ℕ → ℕ → List ℕ
last_line name a b = name ++ field a ++ field b ++ 10 ∷ []

-- the value of a hexadecimal digit, `0` to `9` or `a` to `f`; 16 of any other character
unfoldable pub value_of : ℕ → ℕ
value_of c = cond (leb 48 c && leb c 57) (c - 48) (cond (leb 97 c && leb c 102) (c - 87) 16)

-- the same; None of any other character
abbrev pub digit_of : ℕ → Option ℕ
digit_of c = cond (ltb (value_of c) 16) (Some (value_of c)) None

-- hexadecimal digits stand at the first n places
abbrev pub Digits : List ℕ → ℕ → Type 0
Digits text n = (i : ℕ) → i < n → value_of (get_or text i 0) < 16

-- the byte that two digits spell, the i-th two
abbrev pub byte_at : List ℕ → ℕ → ℕ
byte_at text i = 16 * value_of (get_or text (2 * i) 0) + value_of (get_or text (2 * i + 1) 0)

-- the first n bytes that digits spell
abbrev pub bytes_of : List ℕ → ℕ → List ℕ
bytes_of text n = map (byte_at text) (from 0 n)

-- what decimal digits spell
abbrev pub spelled : List ℕ → ℕ
spelled = fold (λ n c. 10 * n + value_of c) 0

-- the same; None where a character is no decimal digit
abbrev pub number_of : List ℕ → Option ℕ
number_of text = cond (list_any (λ c. ltb 9 (value_of c)) text) None (Some (spelled text))
