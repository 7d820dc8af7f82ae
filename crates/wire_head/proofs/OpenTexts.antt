-- A text that decides nothing is no longer than the limits of a reply's heads and body.
use Rattle.std.proofs.Common.{◌≡◌, ℕ, suc, zero, ◌+◌, ◌-◌, ◌≤◌, Bool, true, false, cond, List, [], ◌∷◌, length, take, drop, Option, Some, None, Ok, refl, ap, subst, arith, length-drop, ◌==◌, codes, zero-add}
use Rattle.std.specs.Prelude.{nat_lt, nat_le}
use Rattle.std.proofs.lemmas.Bool.Decides.{nat_tests}
use Rattle.std.proofs.lemmas.List.{length-take-le}
use Rattle.spaces.specs.declared.roster.Method.{Method}
use Rattle.wire_head.specs.declared.chunked_body.ChunkedBody.{ChunkedBody}
use Rattle.wire_head.specs.declared.chunked_body.ChunkedBody.TheVariants.{Ends, Wrong as BadBody, Part as NoBody}
use Rattle.wire_head.specs.declared.framing.Framing.{Framing}
use Rattle.wire_head.specs.declared.framing.Framing.TheVariants.{Length, Chunked, ToEnd, Bad as BadFrame, TooLong}
use Rattle.wire_head.specs.declared.progress.Progress.{Progress}
use Rattle.wire_head.specs.declared.progress.Progress.TheVariants.{Open, Whole, Fault}
use Rattle.wire_head.specs.declared.reply.Reply.{Reply}
use Rattle.wire_head.specs.declared.reply.WireFault.TheVariants.{BadFraming, BodyTooLong, HeadTooLong}
use Rattle.wire_head.specs.declared.response_head.ReplyHead.{ReplyHead}
use Rattle.wire_head.specs.Lines.{head_len}
use Rattle.wire_head.specs.ChunkedBodies.{chunks}
use Rattle.wire_head.specs.HeaderFields.{values_of}
use Rattle.wire_head.specs.ResponseHeads.{reply_head}
use Rattle.wire_head.specs.Replies.{body_limit, is_bodiless, is_number_as, ends_chunked, by_number, by_lengths, by_length_fields, by_fields, framing, reply_of, by_chunks, body, is_interim, is_too_long, front_len, by_front, by_head, heads, progress, answer, reply}
use Rattle.wire_head.proofs.HeadLengthLemmas.{head_within}
use Rattle.field_lists.specs.Elements.{elements}
use Rattle.std.specs.List.{list_all}
use Rattle.std.specs.Str.Parse.{digits_value}

-- what holds of both sides of a choice holds of it
either : {A : Type 0} (P : A → Type 0) (t : Bool) (a b : A) → P a → P b → P (cond t a b)
either P true a b pa pb = pa
either P false a b pa pb = pb

-- a length that is said is within the limit
abbrev pub IsFew : Framing → Type 0
IsFew (Length n) = n ≤ 1048576
IsFew Chunked = Unit {0}
IsFew ToEnd = Unit {0}
IsFew BadFrame = Unit {0}
IsFew TooLong = Unit {0}

few_number : (n : ℕ) (t : Bool) → nat_lt body_limit n ≡ t → IsFew (cond t TooLong (Length n))
few_number n true is = tt
few_number n false is = grind (arith, nat_tests)

few_lengths : (es : List (List ℕ)) → IsFew (by_lengths es)
few_lengths [] = tt
few_lengths (e ∷ es) = either IsFew (list_all (is_number_as e) (e ∷ es)) (by_number (digits_value 10 e)) BadFrame (few_number (digits_value 10 e) (nat_lt body_limit (digits_value 10 e)) refl) tt

few_fields : (codings lengths : List (List ℕ)) → IsFew (by_fields codings lengths)
few_fields codings lengths =
    either IsFew (length codings == 0) (by_length_fields lengths) (cond (ends_chunked (elements codings)) Chunked ToEnd)
    (either IsFew (length lengths == 0) ToEnd (by_lengths (elements lengths)) tt (few_lengths (elements lengths)))
    (either IsFew (ends_chunked (elements codings)) Chunked ToEnd tt tt)

pub few_framing : (method : Method) (h : ReplyHead) → IsFew (framing method h)
few_framing method h =
    either IsFew (is_bodiless method h.code) (Length 0) (by_fields (values_of (codes "Transfer-Encoding") h.fields) (values_of (codes "Content-Length") h.fields))
    (omega arith) (few_fields (values_of (codes "Transfer-Encoding") h.fields) (values_of (codes "Content-Length") h.fields))

-- where nothing is decided, the text is short
abbrev IsShort : ℕ → Progress → Type 0
IsShort len (Open r) = len ≤ 1114112
IsShort len (Whole r n) = Unit {0}
IsShort len (Fault f) = Unit {0}

open_body : (at len : ℕ) (r : Option Reply) (t : Bool) → at ≤ 65536 → nat_lt body_limit len ≡ t → IsShort (at + len) (cond t (Fault BodyTooLong) (Open r))
open_body at len r true few is = tt
open_body at len r false few is = grind (arith, nat_tests)

part_body : (at n len : ℕ) (whole : Progress) (t : Bool) → at ≤ 65536 → n ≤ 1048576 → IsShort (at + len) whole → nat_le n len ≡ t → IsShort (at + len) (cond t whole (Open None))
part_body at n len whole true few within short is = short
part_body at n len whole false few within short is = grind (arith, nat_tests)

chunks_short : (chunked : ChunkedBody) (h : ReplyHead) (at len : ℕ) → at ≤ 65536 → IsShort (at + len) (by_chunks chunked h at len)
chunks_short (Ends n size) h at len few = either (IsShort (at + len)) (nat_lt body_limit n) (Fault BodyTooLong) (Whole (reply_of Chunked h size) (at + n)) tt tt
chunks_short (BadBody k) h at len few = either (IsShort (at + len)) (nat_lt body_limit k) (Fault BodyTooLong) (Fault BadFraming) tt tt
chunks_short NoBody h at len few = open_body at len None (nat_lt body_limit len) few refl

body_short : (f : Framing) (h : ReplyHead) (at : ℕ) (text : List ℕ) → IsFew f → at ≤ 65536 → IsShort (at + length text) (body f h at text)
body_short BadFrame h at text said few = tt
body_short TooLong h at text said few = tt
body_short (Length n) h at text said few = part_body at n (length text) (Whole (reply_of (Length n) h n) (at + n)) (nat_le n (length text)) few said tt refl
body_short ToEnd h at text said few = open_body at (length text) (Some (reply_of ToEnd h (length text))) (nat_lt body_limit (length text)) few refl
body_short Chunked h at text said few = chunks_short (chunks 0 text) h at (length text) few

-- a head that is not too long
pub within_limit : (at : ℕ) (front : List ℕ) → is_too_long at front ≡ false → at + length front ≤ 65536
within_limit at front is = grind (arith, nat_tests)

head_short : (method : Method) (at n : ℕ) (text : List ℕ) (h : Option ReplyHead) (later : Progress) → n ≤ length text → at + n ≤ 65536
    → IsShort (at + length text) later → IsShort (at + length text) (by_head method at n text h later)
head_short method at n text None later within few short = tt
head_short method at n text (Some h) later within few short =
    let size = length-drop n text in
    let all : at + n + length (drop n text) ≡ at + length text = omega (arith, size, within) in
    either (IsShort (at + length text)) (is_interim h.code) later (body (framing method h) h (at + n) (drop n text)) short
    (subst (λ k. IsShort k (body (framing method h) h (at + n) (drop n text))) all (body_short (framing method h) h (at + n) (drop n text) (few_framing method h) few))

none_short : (at : ℕ) (text : List ℕ) (t : Bool) → is_too_long at (take (length text) text) ≡ t → IsShort (at + length text) (cond t (Fault HeadTooLong) (Open None))
none_short at text true is = tt
none_short at text false is =
    let size = length-take-le (length text) text (omega arith) in
    let few = within_limit at (take (length text) text) is in
    omega (arith, size, few)

some_short : (method : Method) (at n : ℕ) (text : List ℕ) (later : Progress) (t : Bool) → is_too_long at (take n text) ≡ t → n ≤ length text
    → (at + n ≤ 65536 → IsShort (at + length text) later)
    → IsShort (at + length text) (cond t (Fault HeadTooLong) (by_head method at n text (reply_head (take n text)) later))
some_short method at n text later true is within short = tt
some_short method at n text later false is within short =
    let size = length-take-le n text within in
    let few = within_limit at (take n text) is in
    let limit : at + n ≤ 65536 = omega (arith, size, few) in
    head_short method at n text (reply_head (take n text)) later within limit (short limit)

first_short : (method : Method) (at : ℕ) (text : List ℕ) (later : Progress) (x : Option ℕ) → head_len text ≡ x
    → ((n : ℕ) → head_len text ≡ Some n → at + n ≤ 65536 → IsShort (at + length text) later)
    → IsShort (at + length text) (cond (is_too_long at (take (front_len x text) text)) (Fault HeadTooLong) (by_front method at x text later))
first_short method at text later None is short = none_short at text (is_too_long at (take (length text) text)) refl
first_short method at text later (Some n) is short =
    some_short method at n text later (is_too_long at (take n text)) refl (head_within text n is).1 (short n is)

heads_short : (method : Method) (at skip : ℕ) (text : List ℕ) → at + skip ≤ 65536 → IsShort (at + length text) (heads method at skip text)
heads_short method at skip [] few = omega (arith, few)
heads_short method at (suc skip) (b ∷ text) few =
    let size : at + 1 + length text ≡ at + length (b ∷ text) = omega arith in
    subst (λ k. IsShort k (heads method (at + 1) skip text)) size (heads_short method (at + 1) skip text (omega (arith, few)))
heads_short method at zero (b ∷ text) few =
    first_short method at (b ∷ text) (heads method (at + 1) (front_len (head_len (b ∷ text)) (b ∷ text) - 1) text) (head_len (b ∷ text)) refl
    (λ n is within.
    let some = (head_within (b ∷ text) n is).0 in
    let rest : front_len (head_len (b ∷ text)) (b ∷ text) ≡ n = ap (λ x. front_len x (b ∷ text)) is in
    let size : at + 1 + length text ≡ at + length (b ∷ text) = omega arith in
    subst (λ k. IsShort k (heads method (at + 1) (front_len (head_len (b ∷ text)) (b ∷ text) - 1) text)) size
    (heads_short method (at + 1) (front_len (head_len (b ∷ text)) (b ∷ text) - 1) text (omega (arith, some, rest, within))))

short_of : (len : ℕ) (shown : Progress) → answer false len shown ≡ Ok None → IsShort len shown → len ≤ 1114112
short_of len (Open r) none short = short
short_of len (Whole r n) none short = cc
short_of len (Fault f) none short = cc

-- a text that decides nothing is short
pub undecided_short : (method : Method) (text : List ℕ) → reply method text false ≡ Ok None → length text ≤ 1114112
undecided_short method text none =
    short_of (length text) (progress method text) none (subst (λ k. IsShort k (progress method text)) (zero-add (length text)) (heads_short method 0 0 text (omega arith)))
