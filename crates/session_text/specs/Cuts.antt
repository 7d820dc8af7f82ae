-- The lines of a text, the words of a line, and numbers.
use Rattle.std.specs.Prelude.{ℕ, ◌+◌, ◌-◌, ◌*◌, Bool, ◌||◌, ◌&&◌, ◌==◌, nat_le, not, List, [], ◌∷◌, length, map, slice_index, Result, Ok, Err, if◌then◌else◌}
use Rattle.std.specs.List.{list_any, list_all, fold, slice_split}
use Rattle.std.specs.Char.{is_ascii_digit}
use Rattle.session_text.specs.Words.{word_value}
use Rattle.session_text.specs.declared.line.LineFault.{LineFault}
use Rattle.session_text.specs.declared.line.LineFault.TheVariants.{Bad}

-- LINES

abbrev pub is_end : ℕ → Bool
is_end b = b == 10

-- the last part is a line unless it is empty
abbrev pub lines_of : List (List ℕ) → List (List ℕ)
lines_of [] = []
lines_of (part ∷ []) = if length part == 0 then [] else part ∷ []
lines_of (part ∷ next ∷ more) = part ∷ lines_of (next ∷ more)

-- the lines of a text, each up to its line end, which the last may lack
abbrev pub lines : List ℕ → List (List ℕ)
lines text = lines_of (slice_split is_end text)

-- WORDS

abbrev pub is_nothing : List ℕ → Bool
is_nothing word = length word == 0

-- the parts of a line between its spaces
abbrev pub words : List ℕ → List (List ℕ)
words line = slice_split (λ b. b == 32) line

-- what the words stand for; no word is empty
abbrev pub values : List ℕ → Result (List (List ℕ)) LineFault
values line = if list_any is_nothing (words line) then Err Bad else Ok (map word_value (words line))

-- NUMBERS

-- 1 to 6 digits, and no leading zero
abbrev pub is_numeral : List ℕ → Bool
is_numeral word =
    not (is_nothing word) && nat_le (length word) 6 && list_all is_ascii_digit word
    && (length word == 1 || not (slice_index word 0 == 48))

abbrev pub with_digit : ℕ → ℕ → ℕ
with_digit n digit = n * 10 + (digit - 48)

-- the number of a numeral
abbrev pub number : List ℕ → ℕ
number word = fold with_digit 0 word
