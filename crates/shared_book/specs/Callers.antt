-- What clauses see of a shared book and of its callers.
use Rattle.std.specs.Prelude.{◌≡◌, ℕ, ◌+◌, ◌*◌, ◌^◌, ◌<◌, ◌≤◌, IsTrue, List, [], ◌∷◌, ◌++◌, ◌-◌, length, reverse, flat_map, slice_get, All, Option, Some}
use mathlib.Core.List.{IsPrefix}
use Rattle.atomic_table.specs.Seated.{TableId}
use Rattle.spaces.specs.declared.roster.Roster.{Roster}
use Rattle.nonce_words.specs.declared.draw.NonceDraw.{NonceDraw}
use Rattle.nonce_words.specs.Views.{DrawView, WordsView, epoch_at}
use Rattle.turnstile.specs.Names.{name_of}
use Rattle.turnstile.specs.Passes.{PassView, TurnstileView}
use Rattle.auth_events.specs.declared.journal.BookReply.{BookReply}
use Rattle.auth_events.specs.declared.journal.Call.{Call}
use Rattle.auth_events.specs.declared.journal.Call.TheVariants.{Take}
use Rattle.auth_events.specs.declared.told.Told.{Told}
use Rattle.auth_events.specs.Book.{IsLegal, allowed, answer, epoch}
use Rattle.auth_events.specs.Tables.{Tables}
use Rattle.auth_events.specs.Told.{journal, names_told, past, told_after}
use Rattle.book_laws.specs.Owners.{HasSeen, IsOwned, items_of, owner}
use Rattle.book_laws.specs.Shares.{IsWithinShares}
use Rattle.shared_book.specs.declared.locked.Fixed.{Fixed}

-- a caller: its number; what it has seen of the book's told list, and its own items there; how many draws are left to it, and what it drew; what no turn changes; and which turnstile and words it is of
pub record CallerView : Type 0 where
  pub number : ℕ
  pub seen : List Told
  pub mine : List Told
  pub quota : ℕ
  pub drawn : List NonceDraw
  pub fixed : Option Fixed
  pub history : TableId
  pub turns : TableId
  pub words : TableId

-- a shared book: its roster, its callers and nonces, and which turnstile and words are its
pub record SharedView : Type 0 where
  pub roster : Roster
  pub callers : ℕ
  pub nonces : ℕ
  pub history : TableId
  pub turns : TableId
  pub words : TableId

-- what is shown of the turnstile round a book, of the words and of the number of callers
abbrev pub shown : TurnstileView Fixed → WordsView → ℕ → SharedView
shown turnstile words callers =
    record { roster = turnstile.fixed.roster; callers = callers; nonces = words.nonces; history = turnstile.history; turns = turnstile.turns; words = words.table }

-- what no turn of the shared book changes
abbrev pub fixed_of : SharedView → Fixed
fixed_of s = record { roster = s.roster; callers = s.callers; words = name_of s.words }

-- the caller is of the shared book
pub record IsCallerOf (s : SharedView) (c : CallerView) : Type 0 where
  pub history : c.history ≡ s.history
  pub turns : c.turns ≡ s.turns
  pub words : c.words ≡ s.words
  pub fixed : c.fixed ≡ Some (fixed_of s)

-- the book may be asked for the call, by what the caller has seen
abbrev pub IsAllowed : SharedView → CallerView → ℕ → Call → Type 0
IsAllowed s c request call = IsTrue (allowed s.roster (names_told c.seen) (past c.seen) c.number request call)

-- the epoch of the nonce, by what the caller has seen
abbrev pub epoch_seen : CallerView → ℕ → ℕ
epoch_seen c nonce = epoch (names_told c.seen) (past c.seen) nonce

-- one draw more, and one less left
abbrev pub HasDrawn : CallerView → CallerView → NonceDraw → Type 0
HasDrawn before after draw = after ≡ record before { quota = before.quota - 1; drawn = before.drawn ++ draw ∷ [] }

-- what a caller keeps
pub record IsCaller (number : ℕ) (p : PassView Told Fixed) (d : DrawView) : Type 0 where
  -- its pass has its number, and it has seen all items of its own
  pub numbered : p.number ≡ number
  pub own : p.mine ≡ items_of number p.seen
  -- its number is that of one of the callers
  pub within : (f : Fixed) → p.fixed ≡ Some f → (1 ≤ number) × (number ≤ f.callers)
  -- its draws are no older than what it has seen
  pub knows : (n : ℕ) → 0 < n → epoch (names_told p.seen) (past p.seen) n ≤ epoch_at d.known n
  -- what is left of its draws and what it drew are 2^20 together, and it drew named nonces' numbers
  pub share : d.quota + length d.drawn ≡ 2 ^ 20
  pub drawn : All (λ (x : NonceDraw). 1 ≤ x.nonce) d.drawn
  -- the entries that it has seen are legal under the roster and the names that it has seen, and its nonces are in range
  pub legal : (f : Fixed) → p.fixed ≡ Some f → IsLegal f.roster (names_told p.seen) (journal p.seen)
  pub nonces : (f : Fixed) → p.fixed ≡ Some f → length (names_told p.seen).nonces ≤ 16 * length f.roster.requests

-- the caller's number, quota and draws are what they were
pub record IsSameCaller (before after : CallerView) : Type 0 where
  pub number : after.number ≡ before.number
  pub quota : after.quota ≡ before.quota
  pub drawn : after.drawn ≡ before.drawn

-- a turn with a call: the reply is the answer to what stood before it, which began with all that the caller had seen; where it is no `Pending`, an entry was added to it, and to the caller's own items
pub record HadTurn (roster : Roster) (before after : CallerView) (request : ℕ) (call : Call) (reply : BookReply) : Type 0 where
  pub stood : List Told
  pub kept : IsPrefix before.seen stood
  pub may : IsTrue (allowed roster (names_told stood) (past stood) before.number request call)
  pub answered : reply ≡ answer roster (names_told stood) (past stood) request call
  pub seen : after.seen ≡ told_after stood (record { caller = before.number; request = request; call = call; reply = reply })
  pub mine : after.mine ≡ told_after before.mine (record { caller = before.number; request = request; call = call; reply = reply })

-- a list of callers, and how many it holds without asking for memory
pub record CallersView : Type 0 where
  pub list : List CallerView
  pub room : ℕ

-- a caller of the shared book, which has seen, made and drawn nothing; its number is counted from the list's end
pub record IsNewCaller (s : SharedView) (k : ℕ) (c : CallerView) : Type 0 where
  pub caller : IsCallerOf s c
  pub counted : c.number + k ≡ s.callers
  pub seen : c.seen ≡ []
  pub mine : c.mine ≡ []
  pub quota : c.quota ≡ 2 ^ 20
  pub drawn : c.drawn ≡ []

-- the callers of a new shared book: the last has number 1, the one before it 2, and so on
abbrev pub AreNewCallers : SharedView → List CallerView → Type 0
AreNewCallers s callers = (k : ℕ) (c : CallerView) → slice_get callers k ≡ Some c → IsNewCaller s k c

-- the told list begins with what the caller has seen, and its own items are all that are there of its number
pub record IsKnown (told : List Told) (c : CallerView) : Type 0 where
  pub seen : IsPrefix c.seen told
  pub mine : c.mine ≡ items_of c.number told

-- what the callers drew, the last caller first
abbrev pub drawn_by : List CallerView → List NonceDraw
drawn_by callers = flat_map (λ c. c.drawn) (reverse callers)

-- a caller that waits for a prompt's answer: it has seen more than at first, and may take the answer still
pub record IsWaiting (s : SharedView) (first now : CallerView) (request prompt : ℕ) : Type 0 where
  pub caller : IsCallerOf s now
  pub same : IsSameCaller first now
  pub mine : now.mine ≡ first.mine
  pub kept : IsPrefix first.seen now.seen
  pub own : now.number ≡ owner s.callers request
  pub may : IsAllowed s now request (Take prompt)

-- the book that a caller finds in its turn: it is the shared one, no caller has named more than its share, and the caller has seen its beginning, which is legal, and all of its own items there
pub record IsBookOf (s : SharedView) (c : CallerView) (roster : Roster) (told : List Told) : Type 0 where
  pub roster_is : roster ≡ s.roster
  pub owned : IsOwned s.callers told
  pub within : IsWithinShares told
  pub seen : HasSeen c.number c.seen told
  pub mine : c.mine ≡ items_of c.number told
  pub number : (1 ≤ c.number) × (c.number ≤ s.callers)
  pub legal : IsLegal s.roster (names_told c.seen) (journal c.seen)

-- a turn in which a thing was named, unless it had its number: by the names that stood before it there is a new item or none, which is then the caller's
pub record HasNamed (news : Tables → List Told) (before after : CallerView) : Type 0 where
  pub stood : List Told
  pub kept : IsPrefix before.seen stood
  pub seen : after.seen ≡ stood ++ news (names_told stood)
  pub mine : after.mine ≡ before.mine ++ news (names_told stood)
