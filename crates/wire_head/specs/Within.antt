-- Where pieces of a text lie.
use Rattle.std.specs.Prelude.{ℕ, ◌<◌, ◌≤◌, ⊤}
use Rattle.wire_head.specs.declared.lines.Front.{Front}
use Rattle.wire_head.specs.declared.lines.Front.TheVariants.{Whole, Wrong, Part}
use Rattle.wire_head.specs.declared.chunked_body.Chunk.{Chunk}
use Rattle.wire_head.specs.declared.chunked_body.Chunk.TheVariants.{Data, Last, Wrong as BadChunk, Part as NoChunk}
use Rattle.wire_head.specs.declared.chunked_body.ChunkedBody.{ChunkedBody}
use Rattle.wire_head.specs.declared.chunked_body.ChunkedBody.TheVariants.{Ends, Wrong as BadBody, Part as NoBody}

-- a whole piece has a byte, and lies in the first len bytes
abbrev pub IsFrontWithin : ℕ → Front → Type 0
IsFrontWithin len (Whole n) = (0 < n) × (n ≤ len)
IsFrontWithin len (Wrong n) = n < len
IsFrontWithin len Part = ⊤

abbrev pub IsChunkWithin : ℕ → Chunk → Type 0
IsChunkWithin len (Data n size) = (size < n) × (n ≤ len)
IsChunkWithin len (Last n) = n ≤ len
IsChunkWithin len (BadChunk n) = n < len
IsChunkWithin len NoChunk = ⊤

abbrev pub IsBodyWithin : ℕ → ChunkedBody → Type 0
IsBodyWithin len (Ends n size) = (size ≤ n) × (n ≤ len)
IsBodyWithin len (BadBody n) = n < len
IsBodyWithin len NoBody = ⊤

-- a whole size line has at most eight digits
abbrev pub IsFewIfWhole : ℕ → Front → Type 0
IsFewIfWhole digits (Whole n) = digits ≤ 8
IsFewIfWhole digits (Wrong n) = ⊤
IsFewIfWhole digits Part = ⊤
