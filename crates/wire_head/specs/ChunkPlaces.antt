-- A chunked body from a place within it on.
use Rattle.std.specs.Prelude.{ℕ, ◌+◌, ◌-◌, ◌*◌, ◌==◌, ◌||◌, nat_lt, ◌<◌, ◌≤◌, ◌^◌, ⊤, List, [], ◌∷◌, take, drop, Option, Some, None, if◌then◌else◌}
use Rattle.std.specs.List.{prefix_len, position_from}
use Rattle.std.specs.Char.{is_ascii_hexdigit, digit_value}
use Rattle.std.specs.Str.Parse.{digits_value_after}
use Rattle.wire_head.specs.declared.lines.Front.{Front}
use Rattle.wire_head.specs.declared.lines.Front.TheVariants.{Whole, Wrong, Part}
use Rattle.wire_head.specs.declared.chunked_body.ChunkedBody.{ChunkedBody}
use Rattle.wire_head.specs.declared.chunked_body.ChunkedBody.TheVariants.{Ends, Wrong as BadBody, Part as NoBody}
use Rattle.wire_head.specs.declared.chunk_place.Place.{Place}
use Rattle.wire_head.specs.declared.chunk_place.Place.TheVariants.{Fresh, Digits, Extension, SizeReturn, Bytes, BytesReturn, Trailer, TrailerReturn, TrailerLine}
use Rattle.wire_head.specs.declared.chunk_place.Move.{Move}
use Rattle.wire_head.specs.declared.chunk_place.Move.TheVariants.{Goes, Bad, Done}
use Rattle.wire_head.specs.Lines.{line_end, head_len}
use Rattle.wire_head.specs.ChunkedBodies.{behind, up_to, size_end, trailer_len, longer, chunks}

abbrev pub lf_only : List ℕ → Front
lf_only [] = Part
lf_only (b ∷ text) = if b == 10 then Whole 1 else Wrong 0

abbrev pub trailer_then : Option ℕ → ChunkedBody
trailer_then None = NoBody
trailer_then (Some n) = Ends n 0

-- what ends the data that is left, and the chunks behind it
abbrev pub end_then : ℕ → Front → List ℕ → ChunkedBody
end_then left Part text = NoBody
end_then left (Wrong k) text = BadBody (left + k)
end_then left (Whole k) text = longer (left + k) 0 (chunks 0 (drop (left + k) text))

-- behind a size line
abbrev pub sized : ℕ → List ℕ → ChunkedBody
sized value text =
    if value == 0 then trailer_then (trailer_len text)
    else longer 0 value (end_then value (line_end (drop value text)) text)

abbrev pub line_then : Front → ℕ → List ℕ → ChunkedBody
line_then Part value text = NoBody
line_then (Wrong n) value text = BadBody n
line_then (Whole n) value text = longer n 0 (sized value (drop n text))

-- a size line behind some digits of it
abbrev pub digits_line_of : ℕ → ℕ → List ℕ → Front
digits_line_of count more text =
    if nat_lt 8 (count + more) then Wrong (8 - count) else behind more (size_end (drop more text))

abbrev pub digits_line : ℕ → List ℕ → Front
digits_line count text = digits_line_of count (prefix_len is_ascii_hexdigit text) text

abbrev pub digits_size : ℕ → List ℕ → ℕ
digits_size value text = digits_value_after 16 value (take (prefix_len is_ascii_hexdigit text) text)

abbrev pub behind_return : List ℕ → ChunkedBody
behind_return [] = NoBody
behind_return (b ∷ text) = if b == 10 then Ends 1 0 else trailer_then (head_len (b ∷ text))

-- what is found from the place on
abbrev pub rest : Place → List ℕ → ChunkedBody
rest Fresh text = chunks 0 text
rest (Digits count value) text = line_then (digits_line count text) (digits_size value text) text
rest (Extension value) text = line_then (up_to (position_from (λ c. c == 10) 0 text)) value text
rest (SizeReturn value) text = line_then (lf_only text) value text
rest (Bytes left) text = end_then left (line_end (drop left text)) text
rest BytesReturn text = end_then 0 (lf_only text) text
rest Trailer text = trailer_then (trailer_len text)
rest TrailerReturn text = behind_return text
rest TrailerLine text = trailer_then (head_len text)

-- One byte: on to a place, with so many bytes of data; a wrong byte; or the last one.

abbrev pub sized_move : ℕ → Move
sized_move value = if value == 0 then Goes Trailer 0 else Goes (Bytes value) value

abbrev pub size_move : ℕ → ℕ → Move
size_move value b =
    if b == 32 || (b == 9 || b == 59) then Goes (Extension value) 0
    else (if b == 10 then sized_move value else (if b == 13 then Goes (SizeReturn value) 0 else Bad))

abbrev pub end_move : ℕ → Move
end_move b = if b == 10 then Goes Fresh 0 else (if b == 13 then Goes BytesReturn 0 else Bad)

abbrev pub bytes_move : ℕ → ℕ → Move
bytes_move left b = if left == 0 then end_move b else Goes (Bytes (left - 1)) 0

-- what an LF does, and any other byte
abbrev pub line_move : ℕ → Move → Move → Move
line_move b feed other = if b == 10 then feed else other

abbrev pub move : Place → ℕ → Move
move Fresh b = if is_ascii_hexdigit b then Goes (Digits 1 (digit_value b)) 0 else Bad
move (Digits count value) b =
    if is_ascii_hexdigit b
    then (if nat_lt count 8 then Goes (Digits (count + 1) (value * 16 + digit_value b)) 0 else Bad)
    else size_move value b
move (Extension value) b = line_move b (sized_move value) (Goes (Extension value) 0)
move (SizeReturn value) b = line_move b (sized_move value) Bad
move (Bytes left) b = bytes_move left b
move BytesReturn b = line_move b (Goes Fresh 0) Bad
move Trailer b = if b == 10 then Done else (if b == 13 then Goes TrailerReturn 0 else Goes TrailerLine 0)
move TrailerReturn b = line_move b Done (Goes TrailerLine 0)
move TrailerLine b = line_move b (Goes Trailer 0) (Goes TrailerLine 0)

-- what is found behind the byte
abbrev pub moved : Move → List ℕ → ChunkedBody
moved (Goes place size) text = longer 1 size (rest place text)
moved Bad text = BadBody 0
moved Done text = Ends 1 0

-- at most eight digits
abbrev pub IsPlace : Place → Type 0
IsPlace Fresh = ⊤
IsPlace (Digits count value) = (count ≤ 8) × (value < 16 ^ count)
IsPlace (Extension value) = value < 2 ^ 32
IsPlace (SizeReturn value) = value < 2 ^ 32
IsPlace (Bytes left) = left < 2 ^ 32
IsPlace BytesReturn = ⊤
IsPlace Trailer = ⊤
IsPlace TrailerReturn = ⊤
IsPlace TrailerLine = ⊤
