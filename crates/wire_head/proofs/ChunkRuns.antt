-- A chunked body in steps: a run of data is one, and else a byte.
use Rattle.std.proofs.Common.{◌≡◌, ℕ, ◌+◌, ◌-◌, ◌<◌, ◌≤◌, ◌^◌, Bool, true, false, cond, List, [], ◌∷◌, ◌++◌, length, get_or, drop, refl, ap, ◌∙◌, arith, add-zero, length-append, length-drop}
use Rattle.std.specs.Prelude.{nat_lt}
use Rattle.std.proofs.lemmas.Bool.Decides.{nat_tests}
use Rattle.std.proofs.lemmas.List.{drop-append-le, drop-drop}
use Rattle.spaces.specs.declared.roster.Method.TheVariants.{Get}
use Rattle.wire_head.specs.declared.chunk_place.Place.{Place}
use Rattle.wire_head.specs.declared.chunk_place.Place.TheVariants.{Fresh, Digits, Extension, SizeReturn, Bytes, BytesReturn, Trailer, TrailerReturn, TrailerLine}
use Rattle.wire_head.specs.declared.chunk_place.Move.{Move}
use Rattle.wire_head.specs.declared.chunk_place.Move.TheVariants.{Goes, Bad, Done}
use Rattle.wire_head.specs.declared.chunk_run.ChunkRun.{ChunkRun}
use Rattle.wire_head.specs.declared.chunk_run.ChunkRun.TheVariants.{On as RunsOn, Ends, Fault as RunsWrong}
use Rattle.wire_head.specs.declared.chunked_body.ChunkedBody.{ChunkedBody}
use Rattle.wire_head.specs.declared.progress.Progress.TheVariants.{Whole, Fault}
use Rattle.wire_head.specs.declared.reply.Reply.{Reply}
use Rattle.wire_head.specs.declared.reply.WireFault.TheVariants.{BadFraming, BodyTooLong}
use Rattle.wire_head.specs.declared.state.Next.TheVariants.{On, Over}
use Rattle.wire_head.specs.declared.state.State.TheVariants.{InChunks}
use Rattle.wire_head.specs.ChunkedBodies.{longer}
use Rattle.wire_head.specs.ChunkPlaces.{rest, move, IsPlace}
use Rattle.wire_head.specs.Replies.{body_limit}
use Rattle.wire_head.specs.ReadingStates.{chunks_show, went, chunk_next, waits_for, IsWithin}
use Rattle.wire_head.specs.ReadingRuns.{chunks_from, IsChunkRun}
use Rattle.wire_head.proofs.ChunkLemmas.{longer_longer}
use Rattle.wire_head.proofs.MoveLemmas.{data_skip}
use Rattle.wire_head.proofs.RunLemmas.{within_more, within_done}
use Rattle.wire_head.proofs.StateLemmas.{chunk_step, over_limit}

past : (n : ℕ) → 1048576 < n → nat_lt body_limit n ≡ true
past n long = grind (arith, nat_tests)

not_past : (n : ℕ) → n ≤ 1048576 → nat_lt body_limit n ≡ false
not_past n few = grind (arith, nat_tests)

-- no more data is waited for than a size line can say
pub waits_small : (place : Place) → IsPlace place → waits_for place < 2 ^ 32
waits_small Fresh is = omega arith
waits_small (Digits count value) is = omega arith
waits_small (Extension value) is = omega arith
waits_small (SizeReturn value) is = omega arith
waits_small (Bytes left) is = is
waits_small BytesReturn is = omega arith
waits_small Trailer is = omega arith
waits_small TrailerReturn is = omega arith
waits_small TrailerLine is = omega arith

-- ONE BYTE

pub byte_bad : (count size : ℕ) (place : Place) (text : List ℕ) → IsWithin count size place → 0 < length text
    → move place (get_or text 0 0) ≡ Bad → IsChunkRun count size place text (RunsWrong BadFraming)
byte_bad count size place [] is some goes = absurd (omega (arith, some))
byte_bad count size place (b ∷ text) is some goes = λ r at more.
    chunk_step Get r at count size place b (text ++ more) is.few is.fits
    ∙ ap (λ (m : Move). went Get (chunk_next r at count size m) (text ++ more)) goes

pub byte_last : (count size : ℕ) (place : Place) (text : List ℕ) → IsWithin count size place → 0 < length text
    → move place (get_or text 0 0) ≡ Done → count + 1 ≤ 1048576 → IsChunkRun count size place text (Ends 1 size)
byte_last count size place [] is some goes few = absurd (omega (arith, some))
byte_last count size place (b ∷ text) is some goes few = (
  omega arith,
  omega arith,
  within_done count size place b is goes,
  λ r at more.
      chunk_step Get r at count size place b (text ++ more) is.few is.fits
      ∙ ap (λ (m : Move). went Get (chunk_next r at count size m) (text ++ more)) goes
      ∙ ap (λ (x : Bool). went Get (cond x (Over (Fault BodyTooLong)) (Over (Whole (record r { body = size }) (at + (count + 1))))) (text ++ more)) (not_past (count + 1) few),
)

pub byte_last_past : (count size : ℕ) (place : Place) (text : List ℕ) → IsWithin count size place → 0 < length text
    → move place (get_or text 0 0) ≡ Done → 1048576 < count + 1 → IsChunkRun count size place text (RunsWrong BodyTooLong)
byte_last_past count size place [] is some goes long = absurd (omega (arith, some))
byte_last_past count size place (b ∷ text) is some goes long = λ r at more.
    chunk_step Get r at count size place b (text ++ more) is.few is.fits
    ∙ ap (λ (m : Move). went Get (chunk_next r at count size m) (text ++ more)) goes
    ∙ ap (λ (x : Bool). went Get (cond x (Over (Fault BodyTooLong)) (Over (Whole (record r { body = size }) (at + (count + 1))))) (text ++ more)) (past (count + 1) long)

pub byte_goes : (count size more_size : ℕ) (place there : Place) (text : List ℕ) → IsWithin count size place → 0 < length text
    → move place (get_or text 0 0) ≡ Goes there more_size → count + 1 ≤ 1048576
    → IsChunkRun count size place text (RunsOn 1 (count + 1) (size + more_size) there)
byte_goes count size more_size place there [] is some goes few = absurd (omega (arith, some))
byte_goes count size more_size place there (b ∷ text) is some goes few = (
  omega arith,
  refl,
  within_more count size more_size place there b is goes (not_past (count + 1) few),
  λ r at more.
      chunk_step Get r at count size place b (text ++ more) is.few is.fits
      ∙ ap (λ (m : Move). went Get (chunk_next r at count size m) (text ++ more)) goes
      ∙ ap (λ (x : Bool). went Get (cond x (Over (Fault BodyTooLong)) (On (InChunks r at (count + 1) (size + more_size) there))) (text ++ more)) (not_past (count + 1) few),
)

pub byte_goes_past : (count size more_size : ℕ) (place there : Place) (text : List ℕ) → IsWithin count size place → 0 < length text
    → move place (get_or text 0 0) ≡ Goes there more_size → 1048576 < count + 1
    → IsChunkRun count size place text (RunsWrong BodyTooLong)
byte_goes_past count size more_size place there [] is some goes long = absurd (omega (arith, some))
byte_goes_past count size more_size place there (b ∷ text) is some goes long = λ r at more.
    chunk_step Get r at count size place b (text ++ more) is.few is.fits
    ∙ ap (λ (m : Move). went Get (chunk_next r at count size m) (text ++ more)) goes
    ∙ ap (λ (x : Bool). went Get (cond x (Over (Fault BodyTooLong)) (On (InChunks r at (count + 1) (size + more_size) there))) (text ++ more)) (past (count + 1) long)

-- A RUN OF DATA

data_shows : (count size left n : ℕ) (r : Reply) (at : ℕ) (text : List ℕ) → n ≤ left → n ≤ length text
    → chunks_from count size (Bytes left) r at text
    ≡ chunks_show (longer (count + n) size (rest (Bytes (left - n)) (drop n text))) r at (count + n + length (drop n text))
data_shows count size left n r at text few within =
    let later = rest (Bytes (left - n)) (drop n text) in
    let len = length-drop n text in
    ap (λ (b : ChunkedBody). chunks_show (longer count size b) r at (count + length text)) (data_skip n left text few within)
    ∙ ap (λ (b : ChunkedBody). chunks_show b r at (count + length text)) (longer_longer count size n 0 later)
    ∙ ap (λ (s : ℕ). chunks_show (longer (count + n) s later) r at (count + length text)) (add-zero size)
    ∙ ap (chunks_show (longer (count + n) size later) r at) (omega (arith, len, within))

longer_text : (n : ℕ) (text more : List ℕ) → n ≤ length text → n ≤ length (text ++ more)
longer_text n text more within = omega (arith, length-append text more)

pub data_on : (count size left n : ℕ) (text : List ℕ) → IsWithin count size (Bytes left) → n ≤ left → n ≤ length text → count + n ≤ 1048576
    → IsChunkRun count size (Bytes left) text (RunsOn n (count + n) size (Bytes (left - n)))
data_on count size left n text is few within short =
    let fits = is.fits in
    let came = is.came in (
      within,
      refl,
      record { few = short; fits = omega (arith, fits); came = omega (arith, came, few) },
      λ r at more.
          data_shows count size left n r at (text ++ more) few (longer_text n text more within)
          ∙ ap (chunks_from (count + n) size (Bytes (left - n)) r at) (drop-append-le n text more within),
    )

pub data_past : (count size left n : ℕ) (text : List ℕ) → n ≤ left → n ≤ length text → 1048576 < count + n
    → IsChunkRun count size (Bytes left) text (RunsWrong BodyTooLong)
data_past count size left n text few within long r at more =
    data_shows count size left n r at (text ++ more) few (longer_text n text more within)
    ∙ over_limit r at (count + n) size (length (drop n (text ++ more))) (rest (Bytes (left - n)) (drop n (text ++ more))) (past (count + n) long)

-- STEPS

-- a run behind so many bytes
abbrev pub behind : ℕ → ChunkRun → ChunkRun
behind n (RunsOn used count size place) = RunsOn (n + used) count size place
behind n (Ends used size) = Ends (n + used) size
behind n (RunsWrong fault) = RunsWrong fault

pub none_run : (count size : ℕ) (place : Place) (text : List ℕ) → IsWithin count size place → IsChunkRun count size place text (RunsOn 0 count size place)
none_run count size place text is = (omega arith, omega arith, is, λ r at more. refl)

pub then_run : (count size used later more_size : ℕ) (place there : Place) (text : List ℕ) (run : ChunkRun)
    → IsChunkRun count size place text (RunsOn used later more_size there) → IsChunkRun later more_size there (drop used text) run
    → IsChunkRun count size place text (behind used run)
then_run count size used later more_size place there text (RunsOn n last all place_) first then_ =
    let len = length-drop used text in (
      omega (arith, len, first.0, then_.0),
      omega (arith, first.1, then_.1),
      then_.2,
      λ r at more.
          first.3 r at more ∙ then_.3 r at more
          ∙ ap (λ (xs : List ℕ). chunks_from last all place_ r at (xs ++ more)) (drop-drop n used text),
    )
then_run count size used later more_size place there text (Ends n all) first then_ =
    let len = length-drop used text in (
      omega (arith, then_.0),
      omega (arith, len, first.0, then_.1),
      then_.2,
      λ r at more.
          first.3 r at more ∙ then_.3 r at more
          ∙ ap (λ (k : ℕ). Whole (record r { body = all }) (at + k)) (omega (arith, first.1)),
    )
then_run count size used later more_size place there text (RunsWrong fault) first then_ = λ r at more. first.3 r at more ∙ then_ r at more
