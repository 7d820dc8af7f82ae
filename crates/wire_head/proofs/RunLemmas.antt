-- A reply is the fold of its bytes.
use Rattle.std.proofs.Common.{◌≡◌, ℕ, ◌+◌, ◌-◌, ◌*◌, ◌<◌, ◌≤◌, Bool, true, false, cond, ◌==◌, ◌||◌, List, [], ◌∷◌, ◌++◌, length, Option, Some, None, refl, sym, ap, ◌∙◌, arith, append_assoc}
use Rattle.std.specs.Prelude.{nat_lt, ⊤}
use Rattle.std.specs.Char.{is_ascii_hexdigit, digit_value}
use Rattle.std.proofs.lemmas.Bool.Decides.{nat_tests}
use Rattle.wire_head.specs.declared.response_head.ReplyHead.{ReplyHead}
use Rattle.spaces.specs.declared.roster.Method.{Method}
use Rattle.wire_head.specs.declared.framing.Framing.{Framing}
use Rattle.wire_head.specs.declared.framing.Framing.TheVariants.{Length, Chunked, ToEnd, Bad as BadFrame, TooLong}
use Rattle.wire_head.specs.declared.reply.WireFault.TheVariants.{HeadTooLong, BodyTooLong}
use Rattle.wire_head.specs.declared.progress.Progress.{Progress}
use Rattle.wire_head.specs.declared.progress.Progress.TheVariants.{Whole, Fault}
use Rattle.wire_head.specs.Lines.{head_len}
use Rattle.wire_head.specs.ResponseHeads.{reply_head}
use Rattle.wire_head.specs.Replies.{body_limit, framing, reply_of, is_interim, is_too_long, heads, progress}
use Rattle.wire_head.proofs.HeadLengthLemmas.{head_within}
use Rattle.wire_head.proofs.OpenTexts.{IsFew, few_framing, within_limit}
use Rattle.wire_head.proofs.CarriedSizes.{carried_small}
use Rattle.std.proofs.Math.Nat.{pow-le-pow_right}
use Rattle.std.proofs.Common.{pow-add, ◌^◌, subst}
use Rattle.wire_head.proofs.StateLemmas.{state_step}
use Rattle.wire_head.specs.declared.chunk_place.Place.{Place}
use Rattle.wire_head.specs.declared.chunk_place.Place.TheVariants.{Fresh, Digits, Extension, SizeReturn, Bytes, BytesReturn, Trailer, TrailerReturn, TrailerLine}
use Rattle.wire_head.specs.declared.chunk_place.Move.{Move}
use Rattle.wire_head.specs.declared.chunk_place.Move.TheVariants.{Goes, Bad, Done}
use Rattle.wire_head.specs.ChunkPlaces.{sized_move, size_move, end_move, move, IsPlace}
use Rattle.wire_head.specs.declared.state.State.{State}
use Rattle.wire_head.specs.declared.state.State.TheVariants.{InHead, InLength, InOpen, InChunks}
use Rattle.wire_head.specs.declared.state.Next.{Next}
use Rattle.wire_head.specs.declared.state.Next.TheVariants.{On, Over}
use Rattle.wire_head.specs.ReadingStates.{waits_for, IsWithin, IsCarried, shown, StandsFor, IsState, IsNext, went, begun, by_parsed, by_blank, chunk_next, next, after, run}

-- states stay states

-- it goes on to a place, and what was waited for and is said to follow has come or is waited for there
abbrev IsMove : ℕ → Move → Type 0
IsMove waited (Goes place size) = IsPlace place × (waited + size ≤ waits_for place + 1)
IsMove waited Bad = ⊤
IsMove waited Done = waited ≡ 0

either : (w : ℕ) (x : Bool) (p q : Move) → IsMove w p → IsMove w q → IsMove w (cond x p q)
either w true p q a b = a
either w false p q a b = b

sized_keeps : (x : Bool) (v : ℕ) → v < 2 ^ 32 → IsMove 0 (cond x (Goes Trailer 0) (Goes (Bytes v) v))
sized_keeps true v few = (tt, omega arith)
sized_keeps false v few = (few, omega arith)

size_keeps : (v b : ℕ) → v < 2 ^ 32 → IsMove 0 (size_move v b)
size_keeps v b few =
    either 0 (b == 32 || (b == 9 || b == 59)) (Goes (Extension v) 0) (cond (b == 10) (sized_move v) (cond (b == 13) (Goes (SizeReturn v) 0) Bad)) (few, omega arith)
    (either 0 (b == 10) (sized_move v) (cond (b == 13) (Goes (SizeReturn v) 0) Bad) (sized_keeps (v == 0) v few)
    (either 0 (b == 13) (Goes (SizeReturn v) 0) Bad (few, omega arith) tt))

-- a digit is below sixteen, and eight of them give a number below 2 ^ 32
pub digit_small : (b : ℕ) → is_ascii_hexdigit b ≡ true → digit_value b < 16
digit_small b is = grind (arith, nat_tests)

pub more_small : (count v d : ℕ) → v < 16 ^ count → d < 16 → v * 16 + d < 16 ^ (count + 1)
more_small count v d few small = omega (arith, pow-add 16 count 1)

pub value_small : (count v : ℕ) → count ≤ 8 → v < 16 ^ count → v < 2 ^ 32
value_small count v few small =
    let top : 16 ^ count ≤ 16 ^ 8 = pow-le-pow_right {n = 16} (omega arith) {j = 8} few in omega (arith, top)

digit_keeps : (x y : Bool) (count v b : ℕ) → is_ascii_hexdigit b ≡ x → nat_lt count 8 ≡ y → IsPlace (Digits count v)
    → IsMove 0 (cond x (cond y (Goes (Digits (count + 1) (v * 16 + digit_value b)) 0) Bad) (size_move v b))
digit_keeps true true count v b hex few is =
    let below : count < 8 = grind (arith, nat_tests) in
    ((omega (arith, below), more_small count v (digit_value b) is.1 (digit_small b hex)), omega arith)
digit_keeps true false count v b hex few is = tt
digit_keeps false y count v b hex few is = size_keeps v b (value_small count v is.0 is.1)

fresh_keeps : (x : Bool) (b : ℕ) → is_ascii_hexdigit b ≡ x → IsMove 0 (cond x (Goes (Digits 1 (digit_value b)) 0) Bad)
fresh_keeps true b hex = let small = digit_small b hex in ((omega arith, omega (arith, small)), omega arith)
fresh_keeps false b hex = tt

bytes_keeps : (x : Bool) (left b : ℕ) → (left == 0) ≡ x → left < 2 ^ 32 → IsMove left (cond x (end_move b) (Goes (Bytes (left - 1)) 0))
bytes_keeps true left b is few =
    let none : left ≡ 0 = grind (arith, nat_tests) in
    either left (b == 10) (Goes Fresh 0) (cond (b == 13) (Goes BytesReturn 0) Bad) (tt, omega (arith, none))
    (either left (b == 13) (Goes BytesReturn 0) Bad (tt, omega (arith, none)) tt)
bytes_keeps false left b is few =
    let some : 0 < left = grind (arith, nat_tests) in (omega (arith, few), omega (arith, some))

place_keeps : (place : Place) (b : ℕ) → IsPlace place → IsMove (waits_for place) (move place b)
place_keeps Fresh b is = fresh_keeps (is_ascii_hexdigit b) b refl
place_keeps (Digits count v) b is = digit_keeps (is_ascii_hexdigit b) (nat_lt count 8) count v b refl refl is
place_keeps (Extension v) b is = either 0 (b == 10) (sized_move v) (Goes (Extension v) 0) (sized_keeps (v == 0) v is) (is, omega arith)
place_keeps (SizeReturn v) b is = either 0 (b == 10) (sized_move v) Bad (sized_keeps (v == 0) v is) tt
place_keeps (Bytes left) b is = bytes_keeps (left == 0) left b refl is
place_keeps BytesReturn b is = either 0 (b == 10) (Goes Fresh 0) Bad (tt, omega arith) tt
place_keeps Trailer b is =
    either 0 (b == 10) Done (cond (b == 13) (Goes TrailerReturn 0) (Goes TrailerLine 0)) refl
    (either 0 (b == 13) (Goes TrailerReturn 0) (Goes TrailerLine 0) (tt, omega arith) (tt, omega arith))
place_keeps TrailerReturn b is = either 0 (b == 10) Done (Goes TrailerLine 0) refl (tt, omega arith)
place_keeps TrailerLine b is = either 0 (b == 10) (Goes Trailer 0) (Goes TrailerLine 0) (tt, omega arith) (tt, omega arith)

-- behind the last byte no data is waited for
pub within_done : (count size : ℕ) (place : Place) (b : ℕ) → IsWithin count size place → move place b ≡ Done → size ≤ 1048576
within_done count size place b is goes =
    let none = subst (IsMove (waits_for place)) goes (place_keeps place b is.fits) in
    let came = is.came in
    let few = is.few in omega (arith, none, came, few)

-- one byte on within a chunked body
pub within_more : (count size more : ℕ) (place p : Place) (b : ℕ) → IsWithin count size place → move place b ≡ Goes p more
    → nat_lt body_limit (count + 1) ≡ false → IsWithin (count + 1) (size + more) p
within_more count size more place p b is goes within =
    let few : count + 1 ≤ 1048576 = grind (arith, nat_tests) in
    let came = is.came in
    let kept = subst (IsMove (waits_for place)) goes (place_keeps place b is.fits) in
    record { few = few; fits = kept.0; came = omega (arith, kept.1, came) }

-- the reply of a head within the limit, whose framing is that of the head
begun_keeps : (method : Method) (h : ReplyHead) (at : ℕ) (f : Framing) → at ≤ 65536 → IsFew f → ((n : ℕ) → IsCarried (reply_of f h n)) → IsNext (begun h at f)
begun_keeps method h at BadFrame few said small = refl
begun_keeps method h at TooLong few said small = refl
begun_keeps method h at ToEnd few said small = (small 0, omega arith)
begun_keeps method h at Chunked few said small =
    (small 0, few, record { few = omega arith; fits = tt; came = omega arith })
begun_keeps method h at (Length n) few said small = by_test (n == 0) refl
  where
    by_test : (x : Bool) → (n == 0) ≡ x → IsNext (cond x (Over (Whole (reply_of (Length n) h n) (at + n))) (On (InLength (reply_of (Length n) h n) at n)))
    by_test true is = refl
    by_test false is = let some : 0 < n = grind (arith, nat_tests) in (small n, some, omega (arith, few, said))

short_after : (at n : ℕ) (front : List ℕ) → n ≤ length front → is_too_long at front ≡ false → is_too_long (at + n) [] ≡ false
short_after at n front within short = grind (arith, nat_tests)

pub parsed_keeps : (method : Method) (at n : ℕ) (front : List ℕ) (h : Option ReplyHead) → n ≤ length front → is_too_long at front ≡ false
    → reply_head front ≡ h → IsNext (by_parsed method (at + n) h)
parsed_keeps method at n front None within short is = refl
parsed_keeps method at n front (Some h) within short is = by_test (is_interim h.code)
  where
    few : at + length front ≤ 65536
    few = within_limit at front short

    by_test : (x : Bool) → IsNext (cond x (On (InHead (at + n) [])) (begun h (at + n) (framing method h)))
    by_test true = (refl, short_after at n front within short)
    by_test false =
        begun_keeps method h (at + n) (framing method h) (omega (arith, few, within)) (few_framing method h)
        (λ k. carried_small front h (framing method h) k is (omega (arith, few)))

blank_keeps : (method : Method) (at : ℕ) (front : List ℕ) (n : Option ℕ) → head_len front ≡ n → is_too_long at front ≡ false
    → IsNext (by_blank method at front n)
blank_keeps method at front None is short = (is, short)
blank_keeps method at front (Some n) is short = parsed_keeps method at n front (reply_head front) (head_within front n is).1 short refl

pub state_keeps : (method : Method) (s : State) (b : ℕ) → IsState s → IsNext (next method s b)
state_keeps method (InHead at front) b is = by_test (is_too_long at (front ++ b ∷ [])) refl
  where
    by_test : (x : Bool) → is_too_long at (front ++ b ∷ []) ≡ x
        → IsNext (cond x (Over (Fault HeadTooLong)) (by_blank method at (front ++ b ∷ []) (head_len (front ++ b ∷ []))))
    by_test true long = refl
    by_test false short = blank_keeps method at (front ++ b ∷ []) (head_len (front ++ b ∷ [])) refl short
state_keeps method (InLength r at left) b is = by_test (left == 1) refl
  where
    small : at + left ≤ 65536 + 1048576
    small = is.2

    some : 0 < left
    some = is.1

    by_test : (x : Bool) → (left == 1) ≡ x → IsNext (cond x (Over (Whole r (at + 1))) (On (InLength r (at + 1) (left - 1))))
    by_test true one = refl
    by_test false more =
        let two : 1 < left = grind (arith, nat_tests) in (is.0, omega (arith, two), omega (arith, two, small))
state_keeps method (InOpen r count) b is = by_test (nat_lt body_limit (count + 1)) refl
  where
    by_test : (x : Bool) → nat_lt body_limit (count + 1) ≡ x → IsNext (cond x (Over (Fault BodyTooLong)) (On (InOpen r (count + 1))))
    by_test true over = refl
    by_test false within = (is.0, grind (arith, nat_tests))
state_keeps method (InChunks r at count size place) b is = by_move (move place b) refl
  where
    by_move : (m : Move) → move place b ≡ m → IsNext (chunk_next r at count size m)
    by_move Bad goes = refl
    by_move Done goes = by_test (nat_lt body_limit (count + 1))
      where
        by_test : (x : Bool) → IsNext (cond x (Over (Fault BodyTooLong)) (Over (Whole (record r { body = size }) (at + (count + 1)))))
        by_test true = refl
        by_test false = refl
    by_move (Goes p more) goes = by_test (nat_lt body_limit (count + 1)) refl
      where
        by_test : (x : Bool) → nat_lt body_limit (count + 1) ≡ x → IsNext (cond x (Over (Fault BodyTooLong)) (On (InChunks r at (count + 1) (size + more) p)))
        by_test true over = refl
        by_test false within = (is.0, is.1, within_more count size more place p b is.2 goes within)

-- a text is the fold of its bytes

by_next : (method : Method) (n : Next) (text : List ℕ) → IsNext n → ((s : State) → IsState s → run method text s ≡ shown method s text)
    → after n (run method text) ≡ went method n text
by_next method (On t) text ok later = later t ok
by_next method (Over x) text ok later = refl

pub runs : (method : Method) (text : List ℕ) (s : State) → IsState s → run method text s ≡ shown method s text
runs method [] s is = refl
runs method (b ∷ text) s is =
    by_next method (next method s b) text (state_keeps method s b is) (λ t ok. runs method text t ok)
    ∙ sym (state_step method s b text is)

pub whole_run : (method : Method) (text : List ℕ) → progress method text ≡ run method text (InHead 0 [])
whole_run method text = sym (runs method text (InHead 0 []) (refl, refl))

-- the invariant of a reader, one byte on

pub stands_on : (method : Method) (s t : State) (fed : List ℕ) (b : ℕ) → IsState s → StandsFor method s fed → next method s b ≡ On t
    → StandsFor method t (fed ++ b ∷ [])
stands_on method s t fed b is stands on more =
    ap (heads method 0 0) (append_assoc fed (b ∷ []) more)
    ∙ stands (b ∷ more)
    ∙ state_step method s b more is
    ∙ ap (λ (n : Next). went method n more) on

pub stands_over : (method : Method) (s : State) (fed : List ℕ) (b : ℕ) (x : Progress) → IsState s → StandsFor method s fed → next method s b ≡ Over x
    → (more : List ℕ) → progress method (fed ++ b ∷ more) ≡ x
stands_over method s fed b x is stands over more =
    stands (b ∷ more) ∙ state_step method s b more is ∙ ap (λ (n : Next). went method n more) over
