-- A whole reply ends where its last byte was read.
use Rattle.std.proofs.Common.{Ok, ◌≡◌, ℕ, suc, zero, ◌+◌, ◌-◌, ◌<◌, ◌≤◌, Bool, true, false, cond, ◌==◌, List, [], ◌∷◌, ◌++◌, length, take, drop, Option, Some, None, refl, sym, ap, ◌∙◌, subst, arith, add-zero, length-append}
use Rattle.std.specs.Prelude.{nat_lt, nat_le}
use Rattle.std.proofs.lemmas.Bool.Decides.{nat_tests}
use Rattle.std.proofs.lemmas.Bool.{false≢true, true≢false}
use Rattle.std.proofs.lemmas.List.{append-nil, take_all}
use Rattle.wire_head.specs.declared.chunked_body.ChunkedBody.{ChunkedBody}
use Rattle.wire_head.specs.declared.response_head.ReplyHead.{ReplyHead}
use Rattle.spaces.specs.declared.roster.Method.{Method}
use Rattle.wire_head.specs.declared.reply.Reply.{Reply}
use Rattle.wire_head.specs.declared.framing.Framing.{Framing}
use Rattle.wire_head.specs.declared.framing.Framing.TheVariants.{Length, Chunked, ToEnd, Bad as BadFrame, TooLong}
use Rattle.wire_head.specs.declared.reply.WireFault.TheVariants.{HeadTooLong, BodyTooLong}
use Rattle.wire_head.specs.declared.progress.Progress.{Progress}
use Rattle.wire_head.specs.declared.progress.Progress.TheVariants.{Open, Whole, Fault}
use Rattle.wire_head.specs.Lines.{head_len, line_end}
use Rattle.wire_head.specs.ResponseHeads.{reply_head}
use Rattle.wire_head.specs.Replies.{body_limit, framing, reply_of, is_interim, is_too_long, heads, first_head, front_len, by_front, progress, reply, answer}
use Rattle.wire_head.specs.declared.chunked_body.ChunkedBody.TheVariants.{Part as NoBody}
use Rattle.wire_head.specs.declared.lines.Front.TheVariants.{Wrong, Part}
use Rattle.wire_head.specs.ChunkedBodies.{longer}
use Rattle.wire_head.proofs.ProgressLemmas.{done_step}
use Rattle.wire_head.proofs.HeadLengthLemmas.{head_within}
use Rattle.wire_head.proofs.StateLemmas.{ends_behind, short_of}
use Rattle.wire_head.proofs.RunLemmas.{state_keeps, whole_run}
use Rattle.wire_head.specs.declared.chunk_place.Place.{Place}
use Rattle.wire_head.specs.declared.chunk_place.Place.TheVariants.{Fresh, Digits, Extension, SizeReturn, Bytes, BytesReturn, Trailer, TrailerReturn, TrailerLine}
use Rattle.wire_head.specs.declared.chunk_place.Move.{Move}
use Rattle.wire_head.specs.declared.chunk_place.Move.TheVariants.{Goes, Bad, Done}
use Rattle.wire_head.specs.ChunkPlaces.{rest, line_then, end_then, move, IsPlace}
use Rattle.wire_head.specs.declared.state.State.{State}
use Rattle.wire_head.specs.declared.state.State.TheVariants.{InHead, InLength, InOpen, InChunks}
use Rattle.wire_head.specs.declared.state.Next.{Next}
use Rattle.wire_head.specs.declared.state.Next.TheVariants.{On, Over}
use Rattle.wire_head.specs.ReadingStates.{chunks_show, at_end, shown, IsState, IsNext, begun, by_parsed, by_blank, chunk_next, next, after, run, is_open, IsAt, IsProgressAt, IsNextAt}

begun_at : (h : ReplyHead) (at : ℕ) (f : Framing) → IsNextAt (begun h at f) at
begun_at h at BadFrame = (tt, refl)
begun_at h at TooLong = (tt, refl)
begun_at h at ToEnd = tt
begun_at h at Chunked = add-zero at
begun_at h at (Length n) = by_test (n == 0) refl
  where
    by_test : (x : Bool) → (n == 0) ≡ x → IsNextAt (cond x (Over (Whole (reply_of (Length n) h n) (at + n))) (On (InLength (reply_of (Length n) h n) at n))) at
    by_test true is = (grind (arith, nat_tests), refl)
    by_test false is = refl

pub parsed_at : (method : Method) (at : ℕ) (h : Option ReplyHead) → IsNextAt (by_parsed method at h) at
parsed_at method at None = (tt, refl)
parsed_at method at (Some h) = by_test (is_interim h.code)
  where
    by_test : (x : Bool) → IsNextAt (cond x (On (InHead at [])) (begun h at (framing method h))) at
    by_test true = add-zero at
    by_test false = begun_at h at (framing method h)

blank_at : (method : Method) (at : ℕ) (front : List ℕ) (b : ℕ) (n : Option ℕ) → head_len front ≡ None → head_len (front ++ b ∷ []) ≡ n
    → IsNextAt (by_blank method at (front ++ b ∷ []) n) (at + length front + 1)
blank_at method at front b None none is = omega (arith, length-append front (b ∷ []))
blank_at method at front b (Some n) none is =
    let w = head_within (front ++ b ∷ []) n is in
    let past = ends_behind front b [] n none (ap head_len (append-nil (front ++ b ∷ [])) ∙ is) in
    let same : at + n ≡ at + length front + 1 = omega (arith, w.1, past, length-append front (b ∷ [])) in
    subst (λ (k : ℕ). IsNextAt (by_parsed method (at + n) (reply_head (front ++ b ∷ []))) k) same (parsed_at method (at + n) (reply_head (front ++ b ∷ [])))

next_at : (method : Method) (s : State) (b k : ℕ) → IsState s → IsAt s k → IsNextAt (next method s b) (k + 1)
next_at method (InHead at front) b k is place = by_test (is_too_long at (front ++ b ∷ []))
  where
    by_test : (x : Bool) → IsNextAt (cond x (Over (Fault HeadTooLong)) (by_blank method at (front ++ b ∷ []) (head_len (front ++ b ∷ [])))) (k + 1)
    by_test true = (tt, refl)
    by_test false =
        subst (λ (m : ℕ). IsNextAt (by_blank method at (front ++ b ∷ []) (head_len (front ++ b ∷ []))) (m + 1)) place
        (blank_at method at front b (head_len (front ++ b ∷ [])) is.0 refl)
next_at method (InLength r at left) b k is place = by_test (left == 1)
  where
    by_test : (x : Bool) → IsNextAt (cond x (Over (Whole r (at + 1))) (On (InLength r (at + 1) (left - 1)))) (k + 1)
    by_test true = (omega arith, refl)
    by_test false = omega arith
next_at method (InOpen r count) b k is place = by_test (nat_lt body_limit (count + 1))
  where
    by_test : (x : Bool) → IsNextAt (cond x (Over (Fault BodyTooLong)) (On (InOpen r (count + 1)))) (k + 1)
    by_test true = (tt, refl)
    by_test false = tt
next_at method (InChunks r at count size place_) b k is place = by_move (move place_ b)
  where
    by_done : (x : Bool) → IsNextAt (cond x (Over (Fault BodyTooLong)) (Over (Whole (record r { body = size }) (at + (count + 1))))) (k + 1)
    by_done true = (tt, refl)
    by_done false = (omega arith, refl)

    by_goes : (p : Place) (more : ℕ) (x : Bool) → IsNextAt (cond x (Over (Fault BodyTooLong)) (On (InChunks r at (count + 1) (size + more) p))) (k + 1)
    by_goes p more true = (tt, refl)
    by_goes p more false = omega arith

    by_move : (m : Move) → IsNextAt (chunk_next r at count size m) (k + 1)
    by_move Bad = (tt, refl)
    by_move Done = by_done (nat_lt body_limit (count + 1))
    by_move (Goes p more) = by_goes p more (nat_lt body_limit (count + 1))

-- behind a text that is still open a state stands at its end
record Stands (method : Method) (s : State) (k : ℕ) (old more : List ℕ) : Type 0 where
  state : State
  is : IsState state
  at : IsAt state (k + length old)
  goes_on : run method (old ++ more) s ≡ run method more state

stands_next : (method : Method) (n : Next) (k : ℕ) (old more : List ℕ) → IsNext n → IsNextAt n (k + 1) → is_open (after n (run method old)) ≡ true
    → ((s : State) → IsState s → IsAt s (k + 1) → is_open (run method old s) ≡ true → Stands method s (k + 1) old more)
    → (t : State) × IsState t × IsAt t (k + 1 + length old) × (after n (run method (old ++ more)) ≡ run method more t)
stands_next method (Over x) k old more ok at undecided later = absurd (false≢true (sym at.1 ∙ undecided))
stands_next method (On s) k old more ok at undecided later =
    let st = later s ok at undecided in (st.state, st.is, st.at, st.goes_on)

stands : (method : Method) (old more : List ℕ) (s : State) (k : ℕ) → IsState s → IsAt s k → is_open (run method old s) ≡ true
    → Stands method s k old more
stands method [] more s k is at undecided =
    record { state = s; is = is; at = subst (IsAt s) (sym (add-zero k)) at; goes_on = refl }
stands method (b ∷ old) more s k is at undecided =
    let r = stands_next method (next method s b) k old more (state_keeps method s b is) (next_at method s b k is at) undecided
    (λ t ok place same. stands method old more t (k + 1) ok place same) in
    let same : k + 1 + length old ≡ k + suc (length old) = omega arith in
    record { state = r.0; is = r.1; at = subst (IsAt r.0) same r.2; goes_on = r.3 }

-- a state has no answer before its next byte

nothing : (n : ℕ) (xs : List ℕ) → length xs ≡ 0 → drop n xs ≡ []
nothing zero [] none = refl
nothing (suc n) [] none = refl
nothing n (x ∷ xs) none = absurd (omega arith)

no_body : (place : Place) → IsPlace place → rest place [] ≡ NoBody
no_body Fresh is = refl
no_body (Digits count v) is =
    let few = is.0 in
    let within : nat_lt 8 (count + 0) ≡ false = grind (arith, nat_tests) in
    ap (λ (x : Bool). line_then (cond x (Wrong (8 - count)) Part) v []) within
no_body (Extension v) is = refl
no_body (SizeReturn v) is = refl
no_body (Bytes left) is = ap (λ (xs : List ℕ). end_then left (line_end xs) []) (nothing left [] refl)
no_body BytesReturn is = refl
no_body Trailer is = refl
no_body TrailerReturn is = refl
no_body TrailerLine is = refl

pub empty_open : (method : Method) (s : State) → IsState s → shown method s [] ≡ Open (at_end s)
empty_open method (InHead at front) is =
    let first : (next_ : Progress) → first_head method at front next_ ≡ Open None = λ next_.
    ap (λ (n : Option ℕ). cond (is_too_long at (take (front_len n front) front)) (Fault HeadTooLong) (by_front method at n front next_)) is.0
    ∙ ap (λ (xs : List ℕ). cond (is_too_long at xs) (Fault HeadTooLong) (Open None)) (take_all (length front) front (omega arith))
    ∙ ap (λ (x : Bool). cond x (Fault HeadTooLong) (Open None)) is.1 in
    ap (heads method at 0) (append-nil front) ∙ done_step method at front (Open None) (short_of at front is.1) first
empty_open method (InLength r at left) is =
    let some = is.1 in
    let less : nat_le left 0 ≡ false = grind (arith, nat_tests) in
    ap (λ (x : Bool). cond x (Whole r (at + left)) (Open None)) less
empty_open method (InOpen r count) is =
    let few = is.1 in
    let within : nat_lt body_limit (count + 0) ≡ false = grind (arith, nat_tests) in
    ap (λ (x : Bool). cond x (Fault BodyTooLong) (Open (Some (record r { body = count + 0 })))) within
    ∙ ap (λ (n : ℕ). Open (Some (record r { body = n }))) (add-zero count)
empty_open method (InChunks r at count size place) is =
    let few = is.2.few in
    let within : nat_lt body_limit (count + 0) ≡ false = grind (arith, nat_tests) in
    ap (λ (b : ChunkedBody). chunks_show (longer count size b) r at (count + 0)) (no_body place is.2.fits)
    ∙ ap (λ (x : Bool). cond x (Fault BodyTooLong) (Open None)) within

-- behind a state a whole reply ends at one of the bytes

not_whole : {P : Type 0} (x : Progress) (n : ℕ) (reply : Reply) → is_open x ≡ true → x ≡ Whole reply n → P
not_whole x n reply undecided is = absurd (false≢true (sym (ap is_open is) ∙ undecided))

ends_next : (method : Method) (n : Next) (k m : ℕ) (reply : Reply) (text : List ℕ) → IsNext n → IsNextAt n (k + 1)
    → after n (run method text) ≡ Whole reply m
    → ((s : State) → IsState s → IsAt s (k + 1) → run method text s ≡ Whole reply m → (k + 1 < m) × (m ≤ k + 1 + length text))
    → (k < m) × (m ≤ k + suc (length text))
ends_next method (Over x) k m reply text ok at whole later =
    let place = subst (λ (y : Progress). IsProgressAt y (k + 1)) whole at.0 in (omega (arith, place), omega (arith, place))
ends_next method (On s) k m reply text ok at whole later =
    let w = later s ok at whole in (omega (arith, w.0), omega (arith, w.1))

ends : (method : Method) (text : List ℕ) (s : State) (k m : ℕ) (reply : Reply) → IsState s → IsAt s k
    → run method text s ≡ Whole reply m → (k < m) × (m ≤ k + length text)
ends method [] s k m reply is at whole = not_whole (shown method s []) m reply (ap is_open (empty_open method s is)) whole
ends method (b ∷ text) s k m reply is at whole =
    ends_next method (next method s b) k m reply text (state_keeps method s b is) (next_at method s b k is at) whole
    (λ t ok place same. ends method text t (k + 1) m reply ok place same)

-- where a text shows no reply yet and more bytes make it one, the reply ends within these
pub used : (method : Method) (old more : List ℕ) (reply : Reply) (n : ℕ) → is_open (progress method old) ≡ true
    → progress method (old ++ more) ≡ Whole reply n → (length old < n) × (n ≤ length old + length more)
used method old more reply n undecided whole =
    let st = stands method old more (InHead 0 []) 0 (refl, refl) refl (ap is_open (sym (whole_run method old)) ∙ undecided) in
    let last = sym st.goes_on ∙ sym (whole_run method (old ++ more)) ∙ whole in
    let w = ends method more st.state (0 + length old) n reply st.is st.at last in
    (omega (arith, w.0), omega (arith, w.1))

-- an answer stays, whatever follows
stays_next : (method : Method) (n : Next) (text more : List ℕ) → IsNext n → is_open (after n (run method text)) ≡ false
    → ((s : State) → IsState s → is_open (run method text s) ≡ false → run method (text ++ more) s ≡ run method text s)
    → after n (run method (text ++ more)) ≡ after n (run method text)
stays_next method (Over x) text more ok decided later = refl
stays_next method (On s) text more ok decided later = later s ok decided

stays : (method : Method) (text more : List ℕ) (s : State) → IsState s → is_open (run method text s) ≡ false
    → run method (text ++ more) s ≡ run method text s
stays method [] more s is decided = absurd (true≢false (sym (ap is_open (empty_open method s is)) ∙ decided))
stays method (b ∷ text) more s is decided =
    stays_next method (next method s b) text more (state_keeps method s b is) decided (λ t ok same. stays method text more t ok same)

pub decided : (method : Method) (text more : List ℕ) → is_open (progress method text) ≡ false → progress method (text ++ more) ≡ progress method text
decided method text more there =
    whole_run method (text ++ more)
    ∙ stays method text more (InHead 0 []) (refl, refl) (ap is_open (sym (whole_run method text)) ∙ there)
    ∙ sym (whole_run method text)

kept : (method : Method) (text more : List ℕ) (ended : Bool) (p : Progress) → progress method text ≡ p
    → ¬ (answer false (length text) p ≡ Ok None) → answer ended (length (text ++ more)) (progress method (text ++ more)) ≡ answer false (length text) p
kept method text more ended (Open r) is there = absurd (there refl)
kept method text more ended (Whole r n) is there =
    ap (answer ended (length (text ++ more))) (decided method text more (ap is_open is) ∙ is)
kept method text more ended (Fault f) is there =
    ap (answer ended (length (text ++ more))) (decided method text more (ap is_open is) ∙ is)

-- once there is an outcome, it stays
pub outcome_stays : (method : Method) (text more : List ℕ) (ended : Bool) → ¬ (reply method text false ≡ Ok None)
    → reply method (text ++ more) ended ≡ reply method text false
outcome_stays method text more ended there = kept method text more ended (progress method text) refl there

-- where a piece makes a text whole, the reply ends within the piece
pub whole_answer : (method : Method) (old piece : List ℕ) (at_end : Option Reply) (r : Reply) (n used_ : ℕ)
    → progress method old ≡ Open at_end → progress method (old ++ piece) ≡ Whole r n → used_ ≡ n - length old
    → (reply method (old ++ piece) false ≡ Ok (Some (r, length old + used_))) × (used_ ≤ length piece)
whole_answer method old piece at_end r n used_ undecided whole is =
    let w = used method old piece r n (ap is_open undecided) whole in
    let sum : n ≡ length old + used_ = omega (arith, w.0, is) in (
      ap (answer false (length (old ++ piece))) whole ∙ ap (λ (k : ℕ). answer false 0 (Whole r k)) sum,
      omega (arith, w.0, w.1, is),
    )
