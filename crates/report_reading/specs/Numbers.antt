-- Numbers: canonical ones are read exactly, and of any other word it matters only that some number comes.
use Rattle.std.specs.Prelude.{ℕ, ◌^◌, ◌&&◌, nat_le, nat_lt, List, length, if◌then◌else◌}
use Rattle.std.specs.List.{list_all}
use Rattle.std.specs.Char.{is_ascii_digit}
use Rattle.std.specs.Str.Parse.{digits_value}

-- the number that 1 to 20 digits write, where it is below the bound, and else 0
abbrev pub number_below : ℕ → List ℕ → ℕ
number_below bound word =
    if nat_le (length word) 20 && list_all is_ascii_digit word && nat_lt (digits_value 10 word) bound then digits_value 10 word else 0

abbrev pub small : List ℕ → ℕ
small word = number_below (2 ^ 32) word

abbrev pub count : List ℕ → ℕ
count word = number_below (2 ^ 64) word

abbrev pub code : List ℕ → ℕ
code word = number_below (2 ^ 16) word
