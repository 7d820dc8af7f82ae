-- Words: values with no space and no line end.
use Rattle.std.specs.Prelude.{ℕ, ◌/◌, ◌%◌, Bool, ◌||◌, ◌==◌, nat_le, List, [], ◌∷◌, codes, bytes_eq, slice_index, if◌then◌else◌}
use Rattle.std.specs.List.{flat_map}
use Rattle.percent_encoding.specs.Percent.{percent_decode}
use Rattle.hex.specs.Hex.{upper_digits}

-- a byte that a word escapes: 0 to 32, `%`, and 127 to 255
abbrev pub is_escaped : ℕ → Bool
is_escaped b = nat_le b 32 || b == 37 || nat_le 127 b

-- `%` and the byte in two upper-case hexadecimal digits
abbrev pub escape : ℕ → List ℕ
escape b = 37 ∷ slice_index upper_digits (b / 16) ∷ slice_index upper_digits (b % 16) ∷ []

-- the byte as it stands in a word
abbrev pub escaped : ℕ → List ℕ
escaped b = if is_escaped b then escape b else b ∷ []

-- the word of a value: `-` for nothing, `%2D` for `-`, else each byte as it stands in a word
abbrev pub word_of : List ℕ → List ℕ
word_of [] = codes "-"
word_of (b ∷ bytes) = if bytes_eq (b ∷ bytes) (codes "-") then codes "%2D" else flat_map escaped (b ∷ bytes)

-- the value of a word: nothing for `-`, else its bytes percent-decoded
abbrev pub word_value : List ℕ → List ℕ
word_value word = if bytes_eq word (codes "-") then [] else percent_decode word
