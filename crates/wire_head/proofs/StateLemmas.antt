-- A reply, byte by byte.
use Rattle.std.proofs.Common.{◌≡◌, ℕ, suc, ◌+◌, ◌-◌, ◌<◌, ◌≤◌, Bool, true, false, cond, ◌==◌, List, [], ◌∷◌, ◌++◌, length, take, drop, Option, Some, None, refl, sym, ap, ◌∙◌, arith, add-zero, zero-add, append_assoc, length-append}
use Rattle.std.specs.Prelude.{nat_lt, nat_le}
use Rattle.std.proofs.lemmas.Bool.Decides.{nat_tests}
use Rattle.std.proofs.lemmas.List.{append-nil}
use Rattle.std.proofs.Math.Seq.{take-append_seam, take-append-add, drop-append-add}
use Rattle.std.proofs.lemmas.List.Sums.{sum_by-append}
use Rattle.wire_head.specs.declared.chunked_body.ChunkedBody.{ChunkedBody}
use Rattle.wire_head.specs.declared.chunked_body.ChunkedBody.TheVariants.{Ends, Wrong as BadBody, Part as NoBody}
use Rattle.wire_head.specs.declared.response_head.ReplyHead.{ReplyHead}
use Rattle.wire_head.specs.declared.reply.Reply.{Reply}
use Rattle.spaces.specs.declared.roster.Method.{Method}
use Rattle.wire_head.specs.declared.framing.Framing.{Framing}
use Rattle.wire_head.specs.declared.framing.Framing.TheVariants.{Length, Chunked, ToEnd, Bad as BadFrame, TooLong}
use Rattle.wire_head.specs.declared.reply.WireFault.TheVariants.{BadHead, HeadTooLong, BadFraming, BodyTooLong}
use Rattle.wire_head.specs.declared.progress.Progress.{Progress}
use Rattle.wire_head.specs.declared.progress.Progress.TheVariants.{Open, Whole, Fault}
use Rattle.wire_head.specs.Lines.{head_len}
use Rattle.wire_head.specs.ChunkedBodies.{longer, chunks}
use Rattle.wire_head.specs.ResponseHeads.{reply_head}
use Rattle.wire_head.specs.Replies.{body_limit, framing, reply_of, by_chunks, body, is_interim, is_too_long, heads, first_head, front_len, by_front, by_head}
use Rattle.wire_head.proofs.ChunkLemmas.{longer_zero, longer_longer}
use Rattle.wire_head.proofs.ProgressLemmas.{done_step, interim_step}
use Rattle.wire_head.proofs.HeadLengthLemmas.{head_more, head_within, head_local}
use Rattle.wire_head.proofs.MoveLemmas.{byte_step}
use Rattle.wire_head.specs.declared.chunk_place.Place.{Place}
use Rattle.wire_head.specs.declared.chunk_place.Move.{Move}
use Rattle.wire_head.specs.declared.chunk_place.Move.TheVariants.{Goes, Bad, Done}
use Rattle.wire_head.specs.ChunkPlaces.{rest, move, moved, IsPlace}
use Rattle.wire_head.specs.declared.state.State.{State}
use Rattle.wire_head.specs.declared.state.State.TheVariants.{InHead, InLength, InOpen, InChunks}
use Rattle.wire_head.specs.declared.state.Next.TheVariants.{On, Over}
use Rattle.wire_head.specs.ReadingStates.{chunks_show, shown, IsState, went, begun, by_parsed, by_blank, chunk_next, next}

-- bodies

-- a chunked body shows what the reply of its head says of it
chunks_by_head : (b : ChunkedBody) (h : ReplyHead) (at len : ℕ) → by_chunks b h at len ≡ chunks_show b (reply_of Chunked h 0) at len
chunks_by_head (Ends n bytes) h at len = refl
chunks_by_head (BadBody k) h at len = refl
chunks_by_head NoBody h at len = refl

pub begun_is : (method : Method) (h : ReplyHead) (at : ℕ) (f : Framing) (t : List ℕ) → body f h at t ≡ went method (begun h at f) t
begun_is method h at BadFrame t = refl
begun_is method h at TooLong t = refl
begun_is method h at (Length n) t = by_test (n == 0) refl
  where
    by_test : (x : Bool) → (n == 0) ≡ x → cond (nat_le n (length t)) (Whole (reply_of (Length n) h n) (at + n)) (Open None)
        ≡ went method (cond x (Over (Whole (reply_of (Length n) h n) (at + n))) (On (InLength (reply_of (Length n) h n) at n))) t
    by_test true is =
        let all : nat_le n (length t) ≡ true = grind (arith, nat_tests) in
        ap (λ (y : Bool). cond y (Whole (reply_of (Length n) h n) (at + n)) (Open None)) all
    by_test false is = refl
begun_is method h at ToEnd t =
    ap (λ (n : ℕ). cond (nat_lt body_limit n) (Fault BodyTooLong) (Open (Some (reply_of ToEnd h n)))) (sym (zero-add (length t)))
begun_is method h at Chunked t =
    chunks_by_head (chunks 0 t) h at (length t)
    ∙ ap (λ (b : ChunkedBody). chunks_show b (reply_of Chunked h 0) at (length t)) (sym (longer_zero (chunks 0 t)))
    ∙ ap (chunks_show (longer 0 0 (chunks 0 t)) (reply_of Chunked h 0) at) (sym (zero-add (length t)))

length_step : (method : Method) (r : Reply) (at left b : ℕ) (t : List ℕ) → 0 < left
    → shown method (InLength r at left) (b ∷ t) ≡ went method (next method (InLength r at left) b) t
length_step method r at left b t some = by_test (left == 1) refl
  where
    by_test : (x : Bool) → (left == 1) ≡ x
        → cond (nat_le left (length (b ∷ t))) (Whole r (at + left)) (Open None)
        ≡ went method (cond x (Over (Whole r (at + 1))) (On (InLength r (at + 1) (left - 1)))) t
    by_test true is =
        let one : left ≡ 1 = grind (arith, nat_tests) in
        let all : nat_le left (length (b ∷ t)) ≡ true = grind (arith, nat_tests) in
        ap (λ (y : Bool). cond y (Whole r (at + left)) (Open None)) all
        ∙ ap (λ (k : ℕ). Whole r (at + k)) one
    by_test false is =
        let same : nat_le left (length (b ∷ t)) ≡ nat_le (left - 1) (length t) = grind (arith, nat_tests) in
        let place : at + left ≡ at + 1 + (left - 1) = omega arith in
        ap (λ (y : Bool). cond y (Whole r (at + left)) (Open None)) same
        ∙ ap (λ (k : ℕ). cond (nat_le (left - 1) (length t)) (Whole r k) (Open None)) place

open_step : (method : Method) (r : Reply) (count b : ℕ) (t : List ℕ)
    → shown method (InOpen r count) (b ∷ t) ≡ went method (next method (InOpen r count) b) t
open_step method r count b t = by_test (nat_lt body_limit (count + 1)) refl
  where
    by_test : (x : Bool) → nat_lt body_limit (count + 1) ≡ x
        → shown method (InOpen r count) (b ∷ t) ≡ went method (cond x (Over (Fault BodyTooLong)) (On (InOpen r (count + 1)))) t
    by_test true is =
        let over : nat_lt body_limit (count + length (b ∷ t)) ≡ true = grind (arith, nat_tests) in
        ap (λ (y : Bool). cond y (Fault BodyTooLong) (Open (Some (record r { body = count + length (b ∷ t) })))) over
    by_test false is =
        let same : count + length (b ∷ t) ≡ count + 1 + length t = omega arith in
        ap (λ (n : ℕ). cond (nat_lt body_limit n) (Fault BodyTooLong) (Open (Some (record r { body = n })))) same

pub over_limit : (r : Reply) (at count size len : ℕ) (b : ChunkedBody) → nat_lt body_limit count ≡ true
    → chunks_show (longer count size b) r at (count + len) ≡ Fault BodyTooLong
over_limit r at count size len (Ends n s) is =
    let over : nat_lt body_limit (count + n) ≡ true = grind (arith, nat_tests) in
    ap (λ (y : Bool). cond y (Fault BodyTooLong) (Whole (record r { body = size + s }) (at + (count + n)))) over
over_limit r at count size len (BadBody k) is =
    let over : nat_lt body_limit (count + k) ≡ true = grind (arith, nat_tests) in
    ap (λ (y : Bool). cond y (Fault BodyTooLong) (Fault BadFraming)) over
over_limit r at count size len NoBody is =
    let over : nat_lt body_limit (count + len) ≡ true = grind (arith, nat_tests) in
    ap (λ (y : Bool). cond y (Fault BodyTooLong) (Open None)) over

chunk_move : (method : Method) (r : Reply) (at count size : ℕ) (m : Move) (t : List ℕ) → count ≤ 1048576
    → chunks_show (longer count size (moved m t)) r at (count + suc (length t)) ≡ went method (chunk_next r at count size m) t
chunk_move method r at count size Bad t few =
    let within : nat_lt body_limit (count + 0) ≡ false = grind (arith, nat_tests) in
    ap (λ (y : Bool). cond y (Fault BodyTooLong) (Fault BadFraming)) within
chunk_move method r at count size Done t few = by_test (nat_lt body_limit (count + 1))
  where
    by_test : (x : Bool) → cond x (Fault BodyTooLong) (Whole (record r { body = size + 0 }) (at + (count + 1)))
        ≡ went method (cond x (Over (Fault BodyTooLong)) (Over (Whole (record r { body = size }) (at + (count + 1))))) t
    by_test true = refl
    by_test false = ap (λ (s : ℕ). Whole (record r { body = s }) (at + (count + 1))) (add-zero size)
chunk_move method r at count size (Goes place more) t few =
    let same : count + suc (length t) ≡ count + 1 + length t = omega arith in
    ap (λ (b : ChunkedBody). chunks_show b r at (count + suc (length t))) (longer_longer count size 1 more (rest place t))
    ∙ ap (chunks_show (longer (count + 1) (size + more) (rest place t)) r at) same
    ∙ by_test (nat_lt body_limit (count + 1)) refl
  where
    by_test : (x : Bool) → nat_lt body_limit (count + 1) ≡ x
        → chunks_show (longer (count + 1) (size + more) (rest place t)) r at (count + 1 + length t)
        ≡ went method (cond x (Over (Fault BodyTooLong)) (On (InChunks r at (count + 1) (size + more) place))) t
    by_test true is = over_limit r at (count + 1) (size + more) (length t) (rest place t) is
    by_test false is = refl

pub chunk_step : (method : Method) (r : Reply) (at count size : ℕ) (place : Place) (b : ℕ) (t : List ℕ) → count ≤ 1048576 → IsPlace place
    → shown method (InChunks r at count size place) (b ∷ t) ≡ went method (next method (InChunks r at count size place) b) t
chunk_step method r at count size place b t few is =
    ap (λ (x : ChunkedBody). chunks_show (longer count size x) r at (count + suc (length t))) (byte_step place b t is)
    ∙ chunk_move method r at count size (move place b) t few

-- heads

long_more : (at : ℕ) (front more : List ℕ) → is_too_long at front ≡ true → is_too_long at (front ++ more) ≡ true
long_more at front more is =
    let len = length-append front more in
    let count = sum_by-append (λ b. cond (b == 10) 1 0) front more in
    grind (arith, nat_tests, len, count)

-- the bytes up to the blank line of a text that goes on have all of the front before it
front_parts : (front more : List ℕ) (len : ℕ) → length front ≤ len → take len (front ++ more) ≡ front ++ take (len - length front) more
front_parts front more len all =
    let same : len ≡ length front + (len - length front) = omega arith in
    ap (λ (n : ℕ). take n (front ++ more)) same ∙ take-append-add front more (len - length front)

covers : (front more : List ℕ) (n : Option ℕ) → ((k : ℕ) → n ≡ Some k → length front ≤ k) → length front ≤ front_len n (front ++ more)
covers front more None some = omega (arith, length-append front more)
covers front more (Some k) some = some k refl

-- no head ends in a front, so one that ends behind it has all of it and a byte more
pub ends_behind : (front : List ℕ) (b : ℕ) (more : List ℕ) (k : ℕ) → head_len front ≡ None → head_len ((front ++ b ∷ []) ++ more) ≡ Some k
    → length (front ++ b ∷ []) ≤ k
ends_behind front b more k none some = by_test (nat_lt (length front) k) refl
  where
    text : (front ++ b ∷ []) ++ more ≡ front ++ (b ∷ more)
    text = append_assoc front (b ∷ []) more

    by_test : (x : Bool) → nat_lt (length front) k ≡ x → length (front ++ b ∷ []) ≤ k
    by_test true is =
        let beyond : length front < k = grind (arith, nat_tests) in
        omega (arith, beyond, length-append front (b ∷ []))
    by_test false is =
        let inside : k ≤ length front = grind (arith, nat_tests) in
        let no : ◌≡◌ {A = Option ℕ} None (Some k) = sym none ∙ head_local front (b ∷ more) k (sym (ap head_len text) ∙ some) inside in
        cc no

-- a text whose first head has no end before the front's: it is too long where the front is
pub too_long_front : (method : Method) (at : ℕ) (front t : List ℕ) (then_ : Progress)
    → ((k : ℕ) → head_len (front ++ t) ≡ Some k → length front ≤ k) → is_too_long at front ≡ true
    → first_head method at (front ++ t) then_ ≡ Fault HeadTooLong
too_long_front method at front t then_ behind long =
    let whole = front ++ t in
    let len = front_len (head_len whole) whole in
    let all = covers front t (head_len whole) behind in
    let is = ap (is_too_long at) (front_parts front t len all) ∙ long_more at front (take (len - length front) t) long in
    ap (λ (x : Bool). cond x (Fault HeadTooLong) (by_front method at (head_len whole) whole then_)) is

pub short_of : (at : ℕ) (front : List ℕ) → is_too_long at front ≡ false → at ≤ 65536
short_of at front is = grind (arith, nat_tests)

-- a head that ends here
head_first : (method : Method) (at : ℕ) (front t : List ℕ) (then_ : Progress) → head_len front ≡ Some (length front)
    → is_too_long at front ≡ false
    → first_head method at (front ++ t) then_ ≡ by_head method at (length front) (front ++ t) (reply_head front) then_
head_first method at front t then_ some short =
    let len = head_more front t (length front) some in
    let part = take-append_seam front t in
    ap (λ (n : Option ℕ). cond (is_too_long at (take (front_len n (front ++ t)) (front ++ t))) (Fault HeadTooLong) (by_front method at n (front ++ t) then_)) len
    ∙ ap (λ (xs : List ℕ). cond (is_too_long at xs) (Fault HeadTooLong) (by_head method at (length front) (front ++ t) (reply_head xs) then_)) part
    ∙ ap (λ (x : Bool). cond x (Fault HeadTooLong) (by_head method at (length front) (front ++ t) (reply_head front) then_)) short

drop_seam : (front t : List ℕ) → drop (length front) (front ++ t) ≡ t
drop_seam front t = ap (λ (n : ℕ). drop n (front ++ t)) (sym (add-zero (length front))) ∙ drop-append-add front t 0

pub parsed_step : (method : Method) (at : ℕ) (front t : List ℕ) (h : Option ReplyHead) → head_len front ≡ Some (length front)
    → is_too_long at front ≡ false → reply_head front ≡ h
    → heads method at 0 (front ++ t) ≡ went method (by_parsed method (at + length front) h) t
parsed_step method at front t None some short is =
    done_step method at (front ++ t) (Fault BadHead) (short_of at front short)
    (λ then_. head_first method at front t then_ some short
    ∙ ap (λ (x : Option ReplyHead). by_head method at (length front) (front ++ t) x then_) is)
parsed_step method at front t (Some h) some short is = by_test (is_interim h.code) refl
  where
    first : (then_ : Progress) → first_head method at (front ++ t) then_
        ≡ cond (is_interim h.code) then_ (body (framing method h) h (at + length front) (drop (length front) (front ++ t)))
    first then_ = head_first method at front t then_ some short
        ∙ ap (λ (x : Option ReplyHead). by_head method at (length front) (front ++ t) x then_) is

    by_test : (x : Bool) → is_interim h.code ≡ x → heads method at 0 (front ++ t)
        ≡ went method (cond x (On (InHead (at + length front) [])) (begun h (at + length front) (framing method h))) t
    by_test true interim =
        let w = head_within front (length front) some in
        let more = length-append front t in
        interim_step method at (length front) (front ++ t) (head_more front t (length front) some) (omega (arith, w.0)) (omega (arith, more))
        (λ then_. first then_ ∙ ap (λ (x : Bool). cond x then_ (body (framing method h) h (at + length front) (drop (length front) (front ++ t)))) interim)
        ∙ ap (heads method (at + length front) 0) (drop_seam front t)
    by_test false final =
        done_step method at (front ++ t) (body (framing method h) h (at + length front) t) (short_of at front short)
        (λ then_. first then_
        ∙ ap (λ (x : Bool). cond x then_ (body (framing method h) h (at + length front) (drop (length front) (front ++ t)))) final
        ∙ ap (body (framing method h) h (at + length front)) (drop_seam front t))
        ∙ begun_is method h (at + length front) (framing method h) t

blank_step : (method : Method) (at : ℕ) (front : List ℕ) (b : ℕ) (t : List ℕ) (n : Option ℕ) → head_len front ≡ None
    → is_too_long at (front ++ b ∷ []) ≡ false → head_len (front ++ b ∷ []) ≡ n
    → heads method at 0 ((front ++ b ∷ []) ++ t) ≡ went method (by_blank method at (front ++ b ∷ []) n) t
blank_step method at front b t None none short is = refl
blank_step method at front b t (Some n) none short is =
    let w = head_within (front ++ b ∷ []) n is in
    let past = ends_behind front b [] n none (ap head_len (append-nil (front ++ b ∷ [])) ∙ is) in
    let same : length (front ++ b ∷ []) ≡ n = omega (arith, w.1, past) in
    parsed_step method at (front ++ b ∷ []) t (reply_head (front ++ b ∷ [])) (is ∙ ap (λ (k : ℕ). Some k) (sym same)) short refl
    ∙ ap (λ (k : ℕ). went method (by_parsed method (at + k) (reply_head (front ++ b ∷ []))) t) same

head_step : (method : Method) (at : ℕ) (front : List ℕ) (b : ℕ) (t : List ℕ) → head_len front ≡ None → is_too_long at front ≡ false
    → shown method (InHead at front) (b ∷ t) ≡ went method (next method (InHead at front) b) t
head_step method at front b t none short =
    sym (ap (heads method at 0) (append_assoc front (b ∷ []) t)) ∙ by_test (is_too_long at (front ++ b ∷ [])) refl
  where
    by_test : (x : Bool) → is_too_long at (front ++ b ∷ []) ≡ x → heads method at 0 ((front ++ b ∷ []) ++ t)
        ≡ went method (cond x (Over (Fault HeadTooLong)) (by_blank method at (front ++ b ∷ []) (head_len (front ++ b ∷ [])))) t
    by_test true long =
        done_step method at ((front ++ b ∷ []) ++ t) (Fault HeadTooLong) (short_of at front short)
        (λ then_. too_long_front method at (front ++ b ∷ []) t then_ (λ k some. ends_behind front b t k none some) long)
    by_test false fits = blank_step method at front b t (head_len (front ++ b ∷ [])) none fits refl

pub state_step : (method : Method) (s : State) (b : ℕ) (t : List ℕ) → IsState s
    → shown method s (b ∷ t) ≡ went method (next method s b) t
state_step method (InHead at front) b t is = head_step method at front b t is.0 is.1
state_step method (InLength r at left) b t is = length_step method r at left b t is.1
state_step method (InOpen r count) b t is = open_step method r count b t
state_step method (InChunks r at count size place) b t is = chunk_step method r at count size place b t is.2.few is.2.fits
