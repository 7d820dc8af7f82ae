-- Lines and heads at the front of a text.
use Rattle.std.specs.Prelude.{ℕ, ◌+◌, ◌==◌, Bool, true, false, List, [], ◌∷◌, Option, Some, None, option_map, if◌then◌else◌}
use Rattle.wire_head.specs.declared.lines.Front.{Front}
use Rattle.wire_head.specs.declared.lines.Front.TheVariants.{Whole, Wrong, Part}

-- LF behind a CR
abbrev pub behind_return : List ℕ → Option ℕ
behind_return [] = None
behind_return (b ∷ text) = if b == 10 then Some 2 else None

-- the length of the blank line at the front
abbrev pub blank_len : List ℕ → Option ℕ
blank_len [] = None
blank_len (b ∷ text) = if b == 10 then Some 1 else (if b == 13 then behind_return text else None)

-- the length of a line's end at the front and of the blank line behind it
abbrev pub end_len : List ℕ → Option ℕ
end_len [] = None
end_len (b ∷ text) = if b == 10 then option_map (λ n. 1 + n) (blank_len text) else None

abbrev pub or_later : Option ℕ → Option ℕ → Option ℕ
or_later (Some n) later = Some n
or_later None later = option_map (λ n. 1 + n) later

-- the length of the text up to and with its first blank line: the first LF that LF or CR LF follows
abbrev pub head_len : List ℕ → Option ℕ
head_len [] = None
head_len (b ∷ text) = or_later (end_len (b ∷ text)) (head_len text)

-- the pieces of a text between the bytes stop
abbrev pub grow : Bool → ℕ → List (List ℕ) → List (List ℕ)
grow true b pieces = [] ∷ pieces
grow false b (piece ∷ pieces) = (b ∷ piece) ∷ pieces
grow false b [] = []

abbrev pub cut_at : ℕ → List ℕ → List (List ℕ)
cut_at stop [] = [] ∷ []
cut_at stop (b ∷ text) = grow (b == stop) b (cut_at stop text)

abbrev pub after_return : List ℕ → Front
after_return [] = Part
after_return (b ∷ text) = if b == 10 then Whole 2 else Wrong 1

-- a line's end: LF, or CR and LF
abbrev pub line_end : List ℕ → Front
line_end [] = Part
line_end (b ∷ text) = if b == 10 then Whole 1 else (if b == 13 then after_return text else Wrong 0)
