-- What an index must be for a call to be answered, and for an entry to be told.
use Rattle.std.specs.Prelude.{◌≡◌, ◌<◌, ◌≤◌, ◌*◌, ℕ, true, IsTrue, is_some, length, Some, List, ◌∷◌, IfSome, if◌then◌else◌}
use Rattle.spaces.specs.declared.roster.Roster.{Roster}
use Rattle.spaces.specs.Sites.{numbered}
use Rattle.auth_events.specs.declared.journal.Call.{Call}
use Rattle.auth_events.specs.declared.journal.Call.TheVariants.{Select, Reject, Renew, Answer, Lose, Take, Note}
use Rattle.auth_events.specs.declared.journal.BookReply.{BookReply}
use Rattle.auth_events.specs.declared.journal.BookReply.TheVariants.{Cached, Lead, Removed, Renewed, Noted}
use Rattle.auth_events.specs.declared.journal.Entry.{Entry}
use Rattle.auth_events.specs.Tables.{AreFew, AreNames, Tables}
use Rattle.auth_events.specs.Past.{is_lead}
use Rattle.auth_events.specs.Book.{IsLegalPast, allowed}
use Rattle.auth_events.specs.Told.{is_pending}
use Rattle.auth_cache.specs.declared.cache.Held.{Held}
use Rattle.auth_cache.specs.Cached.{held_in, holds}
use Rattle.path_lookup.specs.declared.index.Note.{Note as PathNote}
use Rattle.path_lookup.specs.Notes.{has_free_row}
use Rattle.prompt_queue.specs.declared.queue.PromptTake.TheVariants.{Pending}
use Rattle.prompt_queue.specs.declared.queue.Joined.TheVariants.{Lead as Leads}
use Rattle.prompt_queue.specs.Prompts.{Queue, ending_of, joined, prompt_of}
use Rattle.auth_book.specs.declared.index.BookIndex.{BookIndex}
use Rattle.auth_book.specs.Indices.{StandsFor}
use Rattle.history_laws.specs.Partitions.{space_about}
use Rattle.auth_book.specs.Parts.{notes_at}
use Rattle.auth_book.specs.Replies.{entries_in, givings_in, part_in}

-- the space was added to the queue, which has room for a prompt
abbrev pub HasRoom : Queue → ℕ → Type 0
HasRoom queue s = (s < queue.spaces) × (length queue.prompts < 32 * queue.requests)

abbrev pub CanJoin : Queue → Call → Type 0
CanJoin queue (Select s t) = HasRoom queue s
CanJoin queue (Take p) = IsTrue (is_some (prompt_of queue.prompts p))
CanJoin queue call = Unit {0}

-- a call may be answered
pub record IsReady (index : BookIndex) (call : Call) : Type 0 where
  pub givings : (s : ℕ) → givings_in index s ≤ 131072
  pub prompts : CanJoin index.prompts call

-- what an entry uses, the cache has
abbrev pub CacheFits : Call → BookReply → List Held → Type 0
CacheFits call (Cached gift) entries = IsTrue (is_some (held_in entries gift.space))
CacheFits (Renew gift t) Renewed entries = IsTrue (is_some (held_in entries gift.space))
CacheFits (Reject s ordinal) Removed entries = holds (record { space = s; ordinal = ordinal }) (held_in entries s) ≡ true
CacheFits call reply entries = Unit {0}

-- there is room for what an entry notes
abbrev pub PathsFit : Roster → ℕ → Call → BookReply → List PathNote → Type 0
PathsFit roster r (Note gift) Noted notes =
    IsTrue (has_free_row 32 notes gift.space) × IsTrue (is_some (numbered roster.requests r))
PathsFit roster r call reply notes = Unit {0}

-- the prompt that an entry leads is the next one, and one that it settles is open
abbrev pub PromptsFit : Call → BookReply → Queue → Type 0
PromptsFit (Select s t) (Lead p o) queue = HasRoom queue s × (joined queue.prompts s ≡ Leads p o)
PromptsFit (Answer p text t) reply queue = ending_of queue.prompts p ≡ Some Pending
PromptsFit (Lose p loss) reply queue = ending_of queue.prompts p ≡ Some Pending
PromptsFit call reply queue = Unit {0}

-- an entry may be told
pub record CanTell (roster : Roster) (r : ℕ) (call : Call) (reply : BookReply) (index : BookIndex) : Type 0 where
  pub cache : CacheFits call reply (entries_in index (space_about call reply))
  pub paths : PathsFit roster r call reply (notes_at (part_in index (space_about call reply)))
  pub prompts : PromptsFit call reply index.prompts
  pub spaces : (s : ℕ) → IfSome (numbered index.spaces.items s) (λ row. row.givings ≤ 131072)
  pub led : IsTrue (is_lead reply) → length index.led.items < index.led.room
  pub epochs : (n : ℕ) → IfSome (numbered index.epochs.items n) (λ epoch. epoch ≤ 131072)

-- the index stands for a legal history on which the call's conditions hold
pub record MayDecide (index : BookIndex) (roster : Roster) (names : Tables) (r : ℕ) (call : Call) : Type 0 where
  pub past : List Entry
  pub caller : ℕ
  pub legal : IsLegalPast roster names past
  pub stands : StandsFor index roster names past
  pub may : IsTrue (allowed roster names past caller r call)

-- the names are such as a book has, for a roster that a book may have
pub record AreOfBook (roster : Roster) (names : Tables) : Type 0 where
  pub are_names : AreNames names
  pub few : AreFew (length roster.requests) names
  pub requests : length roster.requests ≤ 2048

-- the entry that the call made
abbrev pub made : ℕ → ℕ → Call → BookReply → Entry
made caller r call reply = record { caller = caller; request = r; call = call; reply = reply }

-- the past with the entry, unless its reply is `Pending`
abbrev pub past_after : List Entry → Entry → List Entry
past_after past entry = if is_pending entry.reply then past else entry ∷ past
