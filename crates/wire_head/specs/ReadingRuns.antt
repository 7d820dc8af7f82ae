-- What the bytes of a piece do to a state of the reader.
use Rattle.std.specs.Prelude.{◌≡◌, ℕ, ◌+◌, ◌<◌, ◌≤◌, ⊤, List, ◌++◌, length, drop, if◌then◌else◌}
use Rattle.spaces.specs.declared.roster.Method.{Method}
use Rattle.wire_head.specs.declared.chunk_place.Place.{Place}
use Rattle.wire_head.specs.declared.chunk_run.ChunkRun.{ChunkRun}
use Rattle.wire_head.specs.declared.chunk_run.ChunkRun.TheVariants.{On as RunsOn, Ends, Fault as RunsWrong}
use Rattle.wire_head.specs.declared.progress.Progress.{Progress}
use Rattle.wire_head.specs.declared.progress.Progress.TheVariants.{Whole, Fault}
use Rattle.wire_head.specs.declared.reading.Stepped.{Stepped}
use Rattle.wire_head.specs.declared.reply.Reply.{Reply}
use Rattle.wire_head.specs.declared.reply.WireFault.TheVariants.{HeadTooLong}
use Rattle.wire_head.specs.declared.state.Next.{Next}
use Rattle.wire_head.specs.declared.state.Next.TheVariants.{On, Over}
use Rattle.wire_head.specs.declared.state.State.{State}
use Rattle.wire_head.specs.declared.state.State.TheVariants.{InHead}
use Rattle.wire_head.specs.ChunkedBodies.{longer}
use Rattle.wire_head.specs.ChunkPlaces.{rest}
use Rattle.wire_head.specs.ResponseHeads.{reply_head}
use Rattle.wire_head.specs.Replies.{is_too_long}
use Rattle.wire_head.specs.ReadingStates.{chunks_show, shown, went, by_parsed, IsNext, IsAt, IsNextAt, IsWithin}

-- what a chunked body shows, of which this text is the rest
abbrev pub chunks_from : ℕ → ℕ → Place → Reply → ℕ → List ℕ → Progress
chunks_from count size place r at text = chunks_show (longer count size (rest place text)) r at (count + length text)

-- the run is what the bytes do to a chunked body, whatever follows them
abbrev pub IsChunkRun : ℕ → ℕ → Place → List ℕ → ChunkRun → Type 0
IsChunkRun count size place text (RunsOn used later more_size there) =
    (used ≤ length text) × (later ≡ count + used) × IsWithin later more_size there
    × ((r : Reply) (at : ℕ) (more : List ℕ)
    → chunks_from count size place r at (text ++ more) ≡ chunks_from later more_size there r at (drop used text ++ more))
IsChunkRun count size place text (Ends used all) =
    (0 < used) × (used ≤ length text) × (all ≤ 1048576)
    × ((r : Reply) (at : ℕ) (more : List ℕ)
    → chunks_from count size place r at (text ++ more) ≡ Whole (record r { body = all }) (at + (count + used)))
IsChunkRun count size place text (RunsWrong fault) =
    (r : Reply) (at : ℕ) (more : List ℕ) → chunks_from count size place r at (text ++ more) ≡ Fault fault

-- a run that goes on has a byte at least
abbrev pub IsForward : ChunkRun → Type 0
IsForward (RunsOn used later size there) = 0 < used
IsForward (Ends used all) = ⊤
IsForward (RunsWrong fault) = ⊤

-- one that goes on has them all
abbrev pub IsAllRun : ℕ → ChunkRun → Type 0
IsAllRun len (RunsOn used later size there) = used ≡ len
IsAllRun len (Ends used all) = ⊤
IsAllRun len (RunsWrong fault) = ⊤

-- behind a head of these bytes, which has no blank line yet
abbrev pub unended_head : ℕ → List ℕ → Next
unended_head at front = if is_too_long at front then Over (Fault HeadTooLong) else On (InHead at front)

-- behind one that ends with its blank line
abbrev pub ended_head : Method → ℕ → List ℕ → Next
ended_head method at front =
    if is_too_long at front then Over (Fault HeadTooLong) else by_parsed method (at + length front) (reply_head front)

-- so many first bytes of the text were read, and it shows what comes next shows of the others, whatever follows
pub record IsStepped (method : Method) (state : State) (text : List ℕ) (s : Stepped) : Type 0 where
  pub some : 0 < s.used
  pub within : s.used ≤ length text
  pub is : IsNext s.next
  pub at : (k : ℕ) → IsAt state k → IsNextAt s.next (k + s.used)
  pub shows : (more : List ℕ) → shown method state (text ++ more) ≡ went method s.next (drop s.used text ++ more)

-- the same of first bytes of which there may be none
pub record IsRead (method : Method) (state : State) (text : List ℕ) (s : Stepped) : Type 0 where
  pub within : s.used ≤ length text
  pub is : IsNext s.next
  pub at : (k : ℕ) → IsAt state k → IsNextAt s.next (k + s.used)
  pub shows : (more : List ℕ) → shown method state (text ++ more) ≡ went method s.next (drop s.used text ++ more)

-- all bytes of so many were read, where nothing is decided
abbrev pub IsAllNext : ℕ → ℕ → Next → Type 0
IsAllNext used len (On state) = used ≡ len
IsAllNext used len (Over progress) = ⊤

abbrev pub IsAll : ℕ → Stepped → Type 0
IsAll len s = IsAllNext s.used len s.next
