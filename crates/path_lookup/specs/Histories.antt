-- What the index of a partition has after a history: the directories of its live Basic and Digest spaces.
-- A past is the list of the entries of calls, the latest first.
use Rattle.std.specs.Prelude.{◌≡◌, ◌<◌, ℕ, Bool, true, ◌==◌, ◌||◌, List, [], length, filter, map, All, AllPairs, if◌then◌else◌}
use Rattle.spaces.specs.declared.roster.Roster.{Roster}
use Rattle.auth_events.specs.declared.journal.Call.{Call}
use Rattle.auth_events.specs.declared.journal.Call.TheVariants.{Reject, Note as Notes}
use Rattle.auth_events.specs.declared.journal.BookReply.{BookReply}
use Rattle.auth_events.specs.declared.journal.BookReply.TheVariants.{Url, Removed, Given, Noted}
use Rattle.auth_events.specs.declared.journal.Entry.{Entry}
use Rattle.auth_events.specs.Past.{live}
use Rattle.auth_events.specs.Book.{NotedDir, dirs, is_basic, is_digest, scheme_is, target_of}
use Rattle.auth_events.specs.Tables.{Tables}
use Rattle.history_laws.specs.Partitions.{concerns}
use Rattle.path_lookup.specs.declared.index.Note.{Note}
use Rattle.path_lookup.specs.Notes.{added, dir_at, without}

-- a note, and how many entries stood before the one that made it
pub record Placed : Type 0 where
  pub note : Note
  pub place : ℕ

-- the directory of the note, as a history has it
abbrev pub noted_dir : Roster → Placed → NotedDir
noted_dir roster placed = record { dir = dir_at roster placed.note; place = placed.place }

-- the directories of the space
abbrev pub dirs_in : Roster → ℕ → List Placed → List NotedDir
dirs_in roster s placed = map (noted_dir roster) (filter (λ one. one.note.space == s) placed)

-- the space's scheme notes directories
abbrev pub may_note : Tables → ℕ → Bool
may_note names s = scheme_is names is_basic s || scheme_is names is_digest s

-- the notes are the directories of the live Basic and Digest spaces that pass the test, in the order in which the past added them, each with the number of its space's site
pub record HasDirs (roster : Roster) (names : Tables) (sites : ℕ → ℕ) (is_in : ℕ → Bool) (past : List Entry) (notes : List Note) : Type 0 where
  pub placed : List Placed
  pub are : notes ≡ map (λ one. one.note) placed
  pub each : (s : ℕ) → dirs_in roster s placed ≡ (if is_in s then dirs roster names past s else [])
  pub order : AllPairs (λ a b. a.place < b.place) placed
  pub before : All (λ one. one.place < length past) placed
  pub home : All (λ one. one.note.site ≡ sites one.note.space) placed
  pub alive : All (λ one. live past one.note.space ≡ true) placed
  pub fit : All (λ one. may_note names one.note.space ≡ true) placed

-- without the directories of a space that is evicted, if one is; no space is 0
abbrev pub without_gone : ℕ → List Note → List Note
without_gone gone notes = if gone == 0 then notes else without gone notes

-- with what an entry of the request does to an index that is told it
abbrev pub notes_after : Roster → Tables → (ℕ → ℕ) → ℕ → Call → BookReply → List Note → List Note
notes_after roster names sites r (Notes gift) Noted notes =
    added roster (record { space = gift.space; site = sites gift.space; request = r; target = target_of names gift.space }) notes
notes_after roster names sites r call (Url gift gone) notes = without_gone gone notes
notes_after roster names sites r call (Given gift gone) notes = without_gone gone notes
notes_after roster names sites r (Reject s ordinal) Removed notes = without s notes
notes_after roster names sites r call reply notes = notes

-- an index of the spaces that pass the test is told the entries that are about one of them
abbrev pub notes_told : Roster → Tables → (ℕ → ℕ) → (ℕ → Bool) → ℕ → Call → BookReply → List Note → List Note
notes_told roster names sites is_in r call reply notes =
    if concerns is_in call reply then notes_after roster names sites r call reply notes else notes
