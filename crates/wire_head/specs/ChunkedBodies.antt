-- Chunked bodies.
use Rattle.std.specs.Prelude.{ℕ, suc, zero, ◌+◌, ◌-◌, ◌==◌, ◌||◌, nat_lt, List, [], ◌∷◌, take, drop, Option, Some, None, if◌then◌else◌}
use Rattle.std.specs.List.{prefix_len, position_from}
use Rattle.std.specs.Char.{is_ascii_hexdigit}
use Rattle.std.specs.Str.Parse.{digits_value}
use Rattle.wire_head.specs.declared.lines.Front.{Front}
use Rattle.wire_head.specs.declared.lines.Front.TheVariants.{Whole, Wrong, Part}
use Rattle.wire_head.specs.declared.chunked_body.Chunk.{Chunk}
use Rattle.wire_head.specs.declared.chunked_body.Chunk.TheVariants.{Data, Last, Wrong as BadChunk, Part as NoChunk}
use Rattle.wire_head.specs.declared.chunked_body.ChunkedBody.{ChunkedBody}
use Rattle.wire_head.specs.declared.chunked_body.ChunkedBody.TheVariants.{Ends, Wrong as BadBody, Part as NoBody}
use Rattle.wire_head.specs.Lines.{line_end, blank_len, head_len}

-- behind n bytes
abbrev pub behind : ℕ → Front → Front
behind n (Whole k) = Whole (n + k)
behind n (Wrong k) = Wrong (n + k)
behind n Part = Part

abbrev pub up_to : Option ℕ → Front
up_to None = Part
up_to (Some i) = Whole (i + 1)

-- what ends a size line: SP, HTAB or `;` and then anything up to an LF, or a line's end
abbrev pub size_end : List ℕ → Front
size_end [] = Part
size_end (b ∷ text) =
    if b == 32 || (b == 9 || b == 59) then up_to (position_from (λ c. c == 10) 0 (b ∷ text)) else line_end (b ∷ text)

abbrev pub no_digit : List ℕ → Front
no_digit [] = Part
no_digit (b ∷ text) = Wrong 0

-- a size line: 1 to 8 hexadecimal digits, and its end
abbrev pub size_line_of : ℕ → List ℕ → Front
size_line_of digits text =
    if digits == 0 then no_digit text
    else (if nat_lt 8 digits then Wrong 8 else behind digits (size_end (drop digits text)))

abbrev pub size_line : List ℕ → Front
size_line text = size_line_of (prefix_len is_ascii_hexdigit text) text

abbrev pub size_of : List ℕ → ℕ
size_of text = digits_value 16 (take (prefix_len is_ascii_hexdigit text) text)

-- the lines up to and with the first empty one
abbrev pub first_of : Option ℕ → Option ℕ → Option ℕ
first_of (Some n) other = Some n
first_of None other = other

abbrev pub trailer_len : List ℕ → Option ℕ
trailer_len text = first_of (blank_len text) (head_len text)

abbrev pub last_chunk : ℕ → Option ℕ → Chunk
last_chunk n None = NoChunk
last_chunk n (Some k) = Last (n + k)

-- behind n bytes of a size line
abbrev pub data_chunk : ℕ → ℕ → Front → Chunk
data_chunk n size Part = NoChunk
data_chunk n size (Wrong k) = BadChunk (n + size + k)
data_chunk n size (Whole k) = Data (n + size + k) size

abbrev pub chunk_of : Front → ℕ → List ℕ → Chunk
chunk_of Part size text = NoChunk
chunk_of (Wrong k) size text = BadChunk k
chunk_of (Whole n) size text =
    if size == 0 then last_chunk n (trailer_len (drop n text))
    else data_chunk n size (line_end (drop size (drop n text)))

-- the chunk at the front: its size line, its data and a line's end; the last has size 0 and a trailer
abbrev pub chunk : List ℕ → Chunk
chunk text = chunk_of (size_line text) (size_of text) text

-- behind n bytes with so many bytes of data
abbrev pub longer : ℕ → ℕ → ChunkedBody → ChunkedBody
longer n size (Ends k more) = Ends (n + k) (size + more)
longer n size (BadBody k) = BadBody (n + k)
longer n size NoBody = NoBody

-- what is left of the chunk behind its first byte
abbrev pub chunk_rest : Chunk → ℕ
chunk_rest (Data n size) = n - 1
chunk_rest (Last n) = 0
chunk_rest (BadChunk n) = 0
chunk_rest NoChunk = 0

-- a chunk, and what is found from its second byte on
abbrev pub first_chunk : Chunk → ChunkedBody → ChunkedBody
first_chunk (Data n size) rest = longer 1 size rest
first_chunk (Last n) rest = Ends n 0
first_chunk (BadChunk n) rest = BadBody n
first_chunk NoChunk rest = NoBody

-- the chunks, behind bytes that belong to the chunk before
abbrev pub chunks : ℕ → List ℕ → ChunkedBody
chunks skip [] = NoBody
chunks (suc skip) (b ∷ text) = longer 1 0 (chunks skip text)
chunks zero (b ∷ text) = first_chunk (chunk (b ∷ text)) (chunks (chunk_rest (chunk (b ∷ text))) text)
