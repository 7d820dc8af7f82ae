-- Replies: a definition over the whole text.
use Rattle.std.specs.Prelude.{ℕ, suc, zero, ◌+◌, ◌-◌, ◌==◌, ◌&&◌, ◌||◌, not, nat_le, nat_lt, Bool, true, false, List, [], ◌∷◌, codes, length, take, drop, count_by, bytes_eq, slice_get, Option, Some, None, Result, Ok, Err, if◌then◌else◌}
use Rattle.std.specs.List.{list_all, list_any, prefix_len}
use Rattle.std.specs.Char.{is_ascii_digit}
use Rattle.std.specs.Str.{str_eq_ignore_ascii_case}
use Rattle.std.specs.Str.Parse.{digits_value}
use Rattle.wire_head.specs.declared.chunked_body.ChunkedBody.{ChunkedBody}
use Rattle.wire_head.specs.declared.chunked_body.ChunkedBody.TheVariants.{Ends, Wrong, Part}
use Rattle.wire_head.specs.declared.response_head.ReplyHead.{ReplyHead}
use Rattle.spaces.specs.declared.roster.Method.{Method}
use Rattle.spaces.specs.declared.roster.Method.TheVariants.{Get, Head as HeadMethod}
use Rattle.wire_head.specs.declared.reply.Reply.{Reply}
use Rattle.wire_head.specs.declared.reply.WireFault.{WireFault}
use Rattle.wire_head.specs.declared.reply.WireFault.TheVariants.{BadHead, HeadTooLong, BadFraming, BodyTooLong, Cut}
use Rattle.wire_head.specs.declared.framing.Framing.{Framing}
use Rattle.wire_head.specs.declared.framing.Framing.TheVariants.{Length, Chunked, ToEnd, Bad, TooLong}
use Rattle.wire_head.specs.declared.progress.Progress.{Progress}
use Rattle.wire_head.specs.declared.progress.Progress.TheVariants.{Open, Whole, Fault}
use Rattle.wire_head.specs.Lines.{head_len}
use Rattle.wire_head.specs.ChunkedBodies.{chunks}
use Rattle.field_lists.specs.Elements.{elements}
use Rattle.wire_head.specs.HeaderFields.{values_of}
use Rattle.wire_head.specs.ResponseHeads.{reply_head}

abbrev pub head_limit : ℕ
head_limit = 65536

abbrev pub body_limit : ℕ
body_limit = 1048576

-- Framing.

abbrev pub is_head_method : Method → Bool
is_head_method Get = false
is_head_method HeadMethod = true

abbrev pub is_bodiless : Method → ℕ → Bool
is_bodiless method code = is_head_method method || code == 204 || code == 304

abbrev pub without_zeros : List ℕ → List ℕ
without_zeros digits = drop (prefix_len (λ d. d == 48) digits) digits

-- digits only, and the same number
abbrev pub is_number_as : List ℕ → List ℕ → Bool
is_number_as e f = list_all is_ascii_digit f && bytes_eq (without_zeros e) (without_zeros f)

abbrev pub by_number : ℕ → Framing
by_number n = if nat_lt body_limit n then TooLong else Length n

abbrev pub by_lengths : List (List ℕ) → Framing
by_lengths [] = Bad
by_lengths (e ∷ es) = if list_all (is_number_as e) (e ∷ es) then by_number (digits_value 10 e) else Bad

abbrev pub by_length_fields : List (List ℕ) → Framing
by_length_fields values = if length values == 0 then ToEnd else by_lengths (elements values)

abbrev pub is_chunked : Option (List ℕ) → Bool
is_chunked None = false
is_chunked (Some e) = str_eq_ignore_ascii_case e (codes "chunked")

-- the last element
abbrev pub ends_chunked : List (List ℕ) → Bool
ends_chunked es = is_chunked (slice_get es (length es - 1))

abbrev pub by_fields : List (List ℕ) → List (List ℕ) → Framing
by_fields codings lengths =
    if length codings == 0 then by_length_fields lengths
    else (if ends_chunked (elements codings) then Chunked else ToEnd)

abbrev pub framing : Method → ReplyHead → Framing
framing method h =
    if is_bodiless method h.code then Length 0
    else by_fields (values_of (codes "Transfer-Encoding") h.fields) (values_of (codes "Content-Length") h.fields)

-- The reply that a head begins.

abbrev pub is_to_end : Framing → Bool
is_to_end ToEnd = true
is_to_end (Length n) = false
is_to_end Chunked = false
is_to_end Bad = false
is_to_end TooLong = false

abbrev pub stays : Framing → ReplyHead → Bool
stays f h =
    h.minor == 1 && not (is_to_end f)
    && not (list_any (λ e. str_eq_ignore_ascii_case e (codes "close")) (elements (values_of (codes "Connection") h.fields)))

abbrev pub challenges : ReplyHead → List (List ℕ)
challenges h =
    if h.code == 401 then values_of (codes "WWW-Authenticate") h.fields
    else (if h.code == 407 then values_of (codes "Proxy-Authenticate") h.fields else [])

abbrev pub is_challenge : ℕ → Bool
is_challenge code = code == 401 || code == 407

-- the values of a field of infos; a challenge has none
abbrev pub infos : List ℕ → ReplyHead → List (List ℕ)
infos name h = if is_challenge h.code then [] else values_of name h.fields

abbrev pub server_info : ReplyHead → List (List ℕ)
server_info h = infos (codes "Authentication-Info") h

abbrev pub proxy_info : ReplyHead → List (List ℕ)
proxy_info h = infos (codes "Proxy-Authentication-Info") h

abbrev pub reply_of : Framing → ReplyHead → ℕ → Reply
reply_of f h body = record {
  code = h.code;
  stays = stays f h;
  body = body;
  fields = challenges h;
  server_info = server_info h;
  proxy_info = proxy_info h;
}

-- Bodies: the final head ends at this place, and the text behind it follows.

abbrev pub by_chunks : ChunkedBody → ReplyHead → ℕ → ℕ → Progress
by_chunks (Ends n bytes) h at len =
    if nat_lt body_limit n then Fault BodyTooLong else Whole (reply_of Chunked h bytes) (at + n)
by_chunks (Wrong k) h at len = if nat_lt body_limit k then Fault BodyTooLong else Fault BadFraming
by_chunks Part h at len = if nat_lt body_limit len then Fault BodyTooLong else Open None

abbrev pub body : Framing → ReplyHead → ℕ → List ℕ → Progress
body Bad h at text = Fault BadFraming
body TooLong h at text = Fault BodyTooLong
body (Length n) h at text = if nat_le n (length text) then Whole (reply_of (Length n) h n) (at + n) else Open None
body ToEnd h at text =
    if nat_lt body_limit (length text) then Fault BodyTooLong else Open (Some (reply_of ToEnd h (length text)))
body Chunked h at text = by_chunks (chunks 0 text) h at (length text)

-- Heads.

abbrev pub is_interim : ℕ → Bool
is_interim code = nat_le 100 code && nat_lt code 200

-- the bytes up to and with the blank line, or all
abbrev pub front_len : Option ℕ → List ℕ → ℕ
front_len None text = length text
front_len (Some n) text = n

-- behind `at` bytes of earlier heads: past the limit of bytes, or of LFs of this head
abbrev pub is_too_long : ℕ → List ℕ → Bool
is_too_long at front = nat_lt head_limit (at + length front) || nat_lt 256 (count_by (λ b. b == 10) front)

abbrev pub by_head : Method → ℕ → ℕ → List ℕ → Option ReplyHead → Progress → Progress
by_head method at n text None next = Fault BadHead
by_head method at n text (Some h) next =
    if is_interim h.code then next else body (framing method h) h (at + n) (drop n text)

abbrev pub by_front : Method → ℕ → Option ℕ → List ℕ → Progress → Progress
by_front method at None text next = Open None
by_front method at (Some n) text next = by_head method at n text (reply_head (take n text)) next

-- the head at the front, and what is found behind it where it is an interim one
abbrev pub first_head : Method → ℕ → List ℕ → Progress → Progress
first_head method at text next =
    if is_too_long at (take (front_len (head_len text) text) text) then Fault HeadTooLong
    else by_front method at (head_len text) text next

-- behind `at` bytes, of whose last interim head `skip` more follow
abbrev pub heads : Method → ℕ → ℕ → List ℕ → Progress
heads method at skip [] = Open None
heads method at (suc skip) (b ∷ text) = heads method (at + 1) skip text
heads method at zero (b ∷ text) =
    first_head method at (b ∷ text) (heads method (at + 1) (front_len (head_len (b ∷ text)) (b ∷ text) - 1) text)

-- what the text shows of the reply to a request of this method
abbrev pub progress : Method → List ℕ → Progress
progress method text = heads method 0 0 text

-- The answer of a text, of which more may come or whose stream has ended: no answer yet, the reply and its bytes, or a fault.

abbrev pub at_stop : Bool → ℕ → Option Reply → Result (Option (Reply × ℕ)) WireFault
at_stop false len r = Ok None
at_stop true len None = Err Cut
at_stop true len (Some r) = Ok (Some (r, len))

abbrev pub answer : Bool → ℕ → Progress → Result (Option (Reply × ℕ)) WireFault
answer ended len (Open r) = at_stop ended len r
answer ended len (Whole r n) = Ok (Some (r, n))
answer ended len (Fault f) = Err f

abbrev pub reply : Method → List ℕ → Bool → Result (Option (Reply × ℕ)) WireFault
reply method text ended = answer ended (length text) (progress method text)
