-- A reply from a state of its reader on.
use Rattle.std.specs.Prelude.{◌≡◌, ℕ, ◌+◌, ◌-◌, ◌==◌, ◌<◌, ◌≤◌, nat_le, nat_lt, ⊤, Bool, true, false, List, [], ◌∷◌, ◌++◌, length, sum_by, Option, Some, None, if◌then◌else◌}
use Rattle.wire_head.specs.declared.response_head.ReplyHead.{ReplyHead}
use Rattle.spaces.specs.declared.roster.Method.{Method}
use Rattle.wire_head.specs.declared.framing.Framing.{Framing}
use Rattle.wire_head.specs.declared.framing.Framing.TheVariants.{Length, Chunked, ToEnd, Bad as BadFrame, TooLong}
use Rattle.wire_head.specs.declared.reply.WireFault.TheVariants.{BadHead, HeadTooLong, BadFraming, BodyTooLong}
use Rattle.wire_head.specs.declared.progress.Progress.{Progress}
use Rattle.wire_head.specs.declared.progress.Progress.TheVariants.{Open, Whole, Fault}
use Rattle.wire_head.specs.Lines.{head_len}
use Rattle.wire_head.specs.ChunkedBodies.{longer}
use Rattle.wire_head.specs.ResponseHeads.{reply_head}
use Rattle.wire_head.specs.Replies.{body_limit, framing, reply_of, is_interim, is_too_long, heads}
use Rattle.wire_head.specs.declared.chunk_place.Place.{Place}
use Rattle.wire_head.specs.declared.chunk_place.Place.TheVariants.{Fresh, Digits, Extension, SizeReturn, Bytes, BytesReturn, Trailer, TrailerReturn, TrailerLine}
use Rattle.wire_head.specs.declared.chunk_place.Move.{Move}
use Rattle.wire_head.specs.declared.chunk_place.Move.TheVariants.{Goes, Bad, Done}
use Rattle.wire_head.specs.declared.reply.Reply.{Reply}
use Rattle.wire_head.specs.declared.state.State.{State}
use Rattle.wire_head.specs.declared.state.State.TheVariants.{InHead, InLength, InOpen, InChunks}
use Rattle.wire_head.specs.declared.state.Next.{Next}
use Rattle.wire_head.specs.declared.state.Next.TheVariants.{On, Over}
use Rattle.wire_head.specs.declared.chunked_body.ChunkedBody.{ChunkedBody}
use Rattle.wire_head.specs.declared.chunked_body.ChunkedBody.TheVariants.{Ends, Wrong as BadBody, Part as NoBody}
use Rattle.wire_head.specs.ChunkPlaces.{rest, move, IsPlace}

-- a chunked body shows this reply, but for its length
abbrev pub chunks_show : ChunkedBody → Reply → ℕ → ℕ → Progress
chunks_show (Ends n bytes) r at len =
    if nat_lt body_limit n then Fault BodyTooLong else Whole (record r { body = bytes }) (at + n)
chunks_show (BadBody k) r at len = if nat_lt body_limit k then Fault BodyTooLong else Fault BadFraming
chunks_show NoBody r at len = if nat_lt body_limit len then Fault BodyTooLong else Open None

-- what the text shows from the state on
abbrev pub shown : Method → State → List ℕ → Progress
shown method (InHead at front) text = heads method at 0 (front ++ text)
shown method (InLength r at left) text =
    if nat_le left (length text) then Whole r (at + left) else Open None
shown method (InOpen r count) text =
    if nat_lt body_limit (count + length text) then Fault BodyTooLong
    else Open (Some (record r { body = count + length text }))
shown method (InChunks r at count size place) text =
    chunks_show (longer count size (rest place text)) r at (count + length text)

-- the reader of a reply to this method was fed these bytes: whatever follows, they show together what it shows from its state on
abbrev pub StandsFor : Method → State → List ℕ → Type 0
StandsFor method state fed = (more : List ℕ) → heads method 0 0 (fed ++ more) ≡ shown method state more

-- the bytes of some values
abbrev pub total : List (List ℕ) → ℕ
total values = sum_by length values

-- what a reply carries of its head has no more bytes than a head may have
abbrev pub IsCarried : Reply → Type 0
IsCarried r = total r.fields + total r.server_info + total r.proxy_info ≤ 65536

-- how many bytes of data the place waits for
abbrev pub waits_for : Place → ℕ
waits_for Fresh = 0
waits_for (Digits count value) = 0
waits_for (Extension value) = 0
waits_for (SizeReturn value) = 0
waits_for (Bytes left) = left
waits_for BytesReturn = 0
waits_for Trailer = 0
waits_for TrailerReturn = 0
waits_for TrailerLine = 0

-- within a chunked body: the data that is said has come, or is waited for
pub record IsWithin (count size : ℕ) (place : Place) : Type 0 where
  pub few : count ≤ 1048576
  pub fits : IsPlace place
  pub came : size ≤ count + waits_for place

-- no blank line yet, and within the limits
abbrev pub IsState : State → Type 0
IsState (InHead at front) = (head_len front ≡ None) × (is_too_long at front ≡ false)
IsState (InLength r at left) = IsCarried r × (0 < left) × (at + left ≤ 65536 + 1048576)
IsState (InOpen r count) = IsCarried r × (count ≤ 1048576)
IsState (InChunks r at count size place) = IsCarried r × (at ≤ 65536) × IsWithin count size place

-- One byte: on to a state, or the answer.

abbrev pub went : Method → Next → List ℕ → Progress
went method (On state) text = shown method state text
went method (Over progress) text = progress

abbrev pub begun : ReplyHead → ℕ → Framing → Next
begun h at BadFrame = Over (Fault BadFraming)
begun h at TooLong = Over (Fault BodyTooLong)
begun h at (Length n) =
    if n == 0 then Over (Whole (reply_of (Length n) h n) (at + n)) else On (InLength (reply_of (Length n) h n) at n)
begun h at ToEnd = On (InOpen (reply_of ToEnd h 0) 0)
begun h at Chunked = On (InChunks (reply_of Chunked h 0) at 0 0 Fresh)

abbrev pub by_parsed : Method → ℕ → Option ReplyHead → Next
by_parsed method at None = Over (Fault BadHead)
by_parsed method at (Some h) = if is_interim h.code then On (InHead at []) else begun h at (framing method h)

abbrev pub by_blank : Method → ℕ → List ℕ → Option ℕ → Next
by_blank method at front None = On (InHead at front)
by_blank method at front (Some n) = by_parsed method (at + n) (reply_head front)

abbrev pub head_next : Method → ℕ → List ℕ → Next
head_next method at front =
    if is_too_long at front then Over (Fault HeadTooLong) else by_blank method at front (head_len front)

abbrev pub chunk_next : Reply → ℕ → ℕ → ℕ → Move → Next
chunk_next r at count size Bad = Over (Fault BadFraming)
chunk_next r at count size Done =
    if nat_lt body_limit (count + 1) then Over (Fault BodyTooLong)
    else Over (Whole (record r { body = size }) (at + (count + 1)))
chunk_next r at count size (Goes place more) =
    if nat_lt body_limit (count + 1) then Over (Fault BodyTooLong)
    else On (InChunks r at (count + 1) (size + more) place)

abbrev pub next : Method → State → ℕ → Next
next method (InHead at front) b = head_next method at (front ++ b ∷ [])
next method (InLength r at left) b =
    if left == 1 then Over (Whole r (at + 1)) else On (InLength r (at + 1) (left - 1))
next method (InOpen r count) b =
    if nat_lt body_limit (count + 1) then Over (Fault BodyTooLong) else On (InOpen r (count + 1))
next method (InChunks r at count size place) b = chunk_next r at count size (move place b)

-- a text, byte by byte
abbrev pub after : Next → (State → Progress) → Progress
after (On state) later = later state
after (Over progress) later = progress

abbrev pub run : Method → List ℕ → State → Progress
run method [] state = shown method state []
run method (b ∷ text) state = after (next method state b) (run method text)

-- the answer is there, or nothing is decided yet
abbrev pub is_open : Progress → Bool
is_open (Open r) = true
is_open (Whole reply n) = false
is_open (Fault f) = false

-- a state, or an answer that decides
abbrev pub IsNext : Next → Type 0
IsNext (On state) = IsState state
IsNext (Over progress) = is_open progress ≡ false

-- what the end of the stream makes of the state
abbrev pub at_end : State → Option Reply
at_end (InHead at front) = None
at_end (InLength r at left) = None
at_end (InOpen r count) = Some (record r { body = count })
at_end (InChunks r at count size place) = None

-- so many bytes were read up to the state; a body to the end has no place
abbrev pub IsAt : State → ℕ → Type 0
IsAt (InHead at front) k = at + length front ≡ k
IsAt (InLength r at left) k = at ≡ k
IsAt (InOpen r count) k = ⊤
IsAt (InChunks r at count size place) k = at + count ≡ k

-- an answer that is a whole reply has so many bytes
abbrev pub IsProgressAt : Progress → ℕ → Type 0
IsProgressAt (Whole reply n) k = n ≡ k
IsProgressAt (Open r) k = ⊤
IsProgressAt (Fault f) k = ⊤

abbrev pub IsNextAt : Next → ℕ → Type 0
IsNextAt (On state) k = IsAt state k
IsNextAt (Over progress) k = IsProgressAt progress k × (is_open progress ≡ false)
