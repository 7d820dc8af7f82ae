-- What holds where one caller serves a request.
use Rattle.std.specs.Prelude.{ℕ, ◌≡◌, ◌==◌, ◌<◌, ◌≤◌, false, not, IsTrue, List, ◌∷◌, ◌++◌, length, reverse}
use Rattle.spaces.specs.declared.roster.Request.{Request}
use Rattle.spaces.specs.declared.roster.Roster.{Roster}
use Rattle.spaces.specs.declared.site.Target.{Target}
use Rattle.auth_events.specs.declared.journal.BookReply.{BookReply}
use Rattle.auth_events.specs.declared.journal.Call.{Call}
use Rattle.auth_events.specs.declared.journal.Call.TheVariants.{Answer, End, Lose}
use Rattle.auth_events.specs.declared.journal.Loss.TheVariants.{Memory}
use Rattle.auth_events.specs.declared.journal.Entry.{Entry}
use Rattle.auth_events.specs.Book.{IsLegalPast, allowed, answer}
use Rattle.auth_events.specs.Tables.{Tables, no_names}
use Rattle.auth_events.specs.Told.{is_pending}
use Rattle.auth_runs.specs.declared.event.Event.{Event}
use Rattle.trace_laws.specs.Answering.{made}
use Rattle.trace_laws.specs.Lengths.{gives_terms, terms_given}
use Rattle.trace_rule.specs.Growing.{NamesGrow}
use Rattle.trace_rule.specs.Holding.{Held}
use Rattle.trace_rule.specs.Moves.Want.{Answers, Calls}
use Rattle.trace_rule.specs.Settings.{Setting, setting_of}
use Rattle.trace_rule.specs.Traces.{IsPast, IsTrace, may_cut, prompt_open, with_loss}
use Rattle.run_rule.specs.Naming.{are_names_in_order, are_names_used}
use Rattle.serving_laws.specs.Alone.{IsAlone, has_open_prompt}
use Rattle.serving_laws.specs.Knowing.{KnowsBook}
use Rattle.serving_laws.specs.Meeting.{AreNamesMet}
use Rattle.serving_laws.specs.Reads.{IsHeldBy, IsReadOf}
use Rattle.serving_laws.specs.Rooms.{begun}
use Rattle.serving_laws.specs.Taking.{ComesNext, IsTaken}

-- SETTINGS

-- the setting of a book knows the book
abbrev pub BooksKnowThemselves : Type 0
BooksKnowThemselves =
    (roster : Roster) → (seed : List ℕ) → (names : Tables) → (entries : List Entry) → (r : ℕ) → (request : Request)
    → KnowsBook roster seed names entries r request (setting_of roster seed names entries r request)

-- a setting that knows a book with more names and entries knows it as it was
abbrev pub WhatIsKnownWasKnown : Type 0
WhatIsKnownWasKnown =
    (roster : Roster) → (seed : List ℕ) → (names more : Tables) → (later entries : List Entry) → (r : ℕ) → (request : Request) → (s : Setting)
    → NamesGrow names more → IsLegalPast roster more (later ++ entries)
    → KnowsBook roster seed more (later ++ entries) r request s → KnowsBook roster seed names entries r request s

-- CALLS

-- what holds wherever one caller serves a request
abbrev pub WhereAlone : ((roster : Roster) → (seed : List ℕ) → (names : Tables) → (before entries : List Entry) → (r : ℕ) → Request → List Event → Type 0) → Type 0
WhereAlone P =
    (roster : Roster) → (seed : List ℕ) → (names : Tables) → (before entries : List Entry)
    → (r : ℕ) → (request : Request) → (past : List Event)
    → IsAlone roster names before entries r request past → P roster seed names before entries r request past

-- a call that comes next may be asked of the book
abbrev pub NextCallsAreAllowed : Type 0
NextCallsAreAllowed =
    WhereAlone (λ roster seed names before entries r request past.
    (call : Call) → ComesNext roster seed names entries r request past (Calls call) → IsTrue (allowed roster names entries 1 r call))

-- so may the answer to a prompt, with a text that is named
abbrev pub NextAnswersAreAllowed : Type 0
NextAnswersAreAllowed =
    WhereAlone (λ roster seed names before entries r request past.
    (p text t : ℕ) → ComesNext roster seed names entries r request past (Answers p t) → text ≤ length names.texts
    → IsTrue (allowed roster names entries 1 r (Answer p text t)))

-- the book is never waiting for another caller's prompt
abbrev pub NothingIsPending : Type 0
NothingIsPending =
    WhereAlone (λ roster seed names before entries r request past.
    (call : Call) → IsTrue (allowed roster names entries 1 r call) → is_pending (answer roster names entries r call) ≡ false)

-- its reply is one that the rule takes
abbrev pub NextRepliesAreTaken : Type 0
NextRepliesAreTaken =
    WhereAlone (λ roster seed names before entries r request past.
    (call : Call) → (reply : BookReply) → IsLegalPast roster names (made 1 r call reply ∷ entries)
    → ComesNext roster seed names entries r request past (Calls call)
    → IsTaken roster seed names before entries r request past call reply)

-- so is its reply to the answer of a prompt, with a text
abbrev pub NextTextsAreTaken : Type 0
NextTextsAreTaken =
    WhereAlone (λ roster seed names before entries r request past.
    (p text t : ℕ) → (reply : BookReply) → IsLegalPast roster names (made 1 r (Answer p text t) reply ∷ entries)
    → ComesNext roster seed names entries r request past (Answers p t) → IsTrue (not (text == 0))
    → IsTaken roster seed names before entries r request past (Answer p text t) reply)

-- WANT OF MEMORY

-- where memory may run out, the prompt that the request leads may be lost
abbrev pub OpenPromptsMayBeLost : Type 0
OpenPromptsMayBeLost =
    WhereAlone (λ roster seed names before entries r request past.
    IsPast (setting_of roster seed names entries r request) past → IsTrue (may_cut past) → IsTrue (not (prompt_open past past == 0))
    → IsTrue (allowed roster names entries 1 r (Lose (prompt_open past past) Memory)))

-- and behind that, or where it leads none, it may end
abbrev pub SpentRequestsMayEnd : Type 0
SpentRequestsMayEnd =
    (roster : Roster) → (seed : List ℕ) → (names : Tables) → (before entries : List Entry)
    → (r : ℕ) → (request : Request) → (past : List Event)
    → IsPast (setting_of roster seed names entries r request) past → IsTrue (may_cut past)
    → IsAlone roster names before entries r request (with_loss (prompt_open past past) past)
    → IsTrue (allowed roster names entries 1 r End)

-- READING

-- what the request holds may be read of the book
abbrev pub WhatIsHeldIsRead : Type 0
WhatIsHeldIsRead =
    WhereAlone (λ roster seed names before entries r request past.
    (t : Target) → (h : Held) → IsHeldBy roster seed names entries r request past t h
    → IsReadOf roster seed names entries r request h)

-- NAMING

-- where a call comes next that gives terms, fewer than 16 gave them before
abbrev pub TermsAreLeft : Type 0
TermsAreLeft =
    WhereAlone (λ roster seed names before entries r request past.
    (call : Call) → IsTrue (gives_terms call) → ComesNext roster seed names entries r request past (Calls call)
    → terms_given past < 16)

-- a request that has begun is one of the roster beside those that were begun before
abbrev pub RequestsAreLeft : Type 0
RequestsAreLeft =
    WhereAlone (λ roster seed names before entries r request past.
    (event : Event) → (earlier : List Event) → past ≡ event ∷ earlier → IsPast (setting_of roster seed names entries r request) past
    → begun before < length roster.requests)

-- names that were met before a request, and those of the request
abbrev pub NamesJoin : Type 0
NamesJoin =
    (old new : Tables) → (later earlier : List Entry)
    → AreNamesMet no_names old earlier → AreNamesMet old new later → AreNamesMet no_names new (later ++ earlier)

-- where all names of a journal are met, its calls name each of them, in order
abbrev pub MetNamesAreUsed : Type 0
MetNamesAreUsed =
    (names : Tables) → (journal : List Entry) → AreNamesMet no_names names (reverse journal)
    → IsTrue (are_names_used names journal) × IsTrue (are_names_in_order journal)

-- THE END

-- once the request is over no prompt is open
abbrev pub NoPromptStaysOpen : Type 0
NoPromptStaysOpen =
    (roster : Roster) → (seed : List ℕ) → (names : Tables) → (before entries : List Entry)
    → (r : ℕ) → (request : Request) → (events : List Event)
    → IsAlone roster names before entries r request (reverse events)
    → IsTrace (setting_of roster seed names entries r request) events → has_open_prompt entries ≡ false
