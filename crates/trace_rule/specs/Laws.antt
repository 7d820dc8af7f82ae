-- What holds of every trace, said once each.
use Rattle.std.specs.Prelude.{◌≡◌, ℕ, ◌≤◌, Bool, true, false, IsTrue, List, [], ◌++◌, length, reverse, is_some}
use Rattle.spaces.specs.declared.roster.Request.{Request}
use Rattle.spaces.specs.declared.roster.Roster.{Roster}
use Rattle.spaces.specs.declared.site.Target.{Target}
use Rattle.spaces.specs.Sites.{numbered}
use Rattle.auth_events.specs.declared.journal.Call.{Call}
use Rattle.auth_events.specs.declared.journal.Call.TheVariants.{Answer}
use Rattle.auth_events.specs.declared.journal.Entry.{Entry}
use Rattle.auth_events.specs.Tables.{Tables}
use Rattle.auth_events.specs.Book.{IsLegalPast, allowed, own}
use Rattle.auth_runs.specs.declared.event.Event.{Event}
use Rattle.trace_rule.specs.Settings.{Setting, setting_of, IsNumbered}
use Rattle.trace_rule.specs.Holding.{heads}
use Rattle.trace_rule.specs.Moves.{rounds}
use Rattle.trace_rule.specs.Moves.Want.{Calls, Answers, Draws}
use Rattle.trace_rule.specs.Closings.{want}
use Rattle.trace_rule.specs.Traces.{Follows, is_over, is_spent, IsPast, IsTrace}
use Rattle.trace_rule.specs.Growing.{KnowsMore, NamesGrow, grown}
use Rattle.trace_rule.specs.Entries.{AreEntries, calls}
use Rattle.trace_rule.specs.Serving.{IsServing, setting_in}
use Rattle.trace_rule.specs.Tapes.{Teller, Tale, AreTold}
use Rattle.trace_rule.specs.Counting.{draws}

-- ENDS

-- nothing follows the outcome
abbrev pub NothingFollows : Type 0
NothingFollows =
    (s : Setting) → (past : List Event) → (event : Event)
    → is_over past ≡ true → Follows s past (want s past) event → ⊥

-- MORE IS KNOWN

-- a trace stays one where more is known
abbrev pub TracesLast : Type 0
TracesLast =
    (s later : Setting) → (events : List Event)
    → KnowsMore s later → IsTrace s events → IsTrace (grown s later) events

-- a trace that was judged by what a book had named and given is one by all that it names and gives later
abbrev pub TracesLastInABook : Type 0
TracesLastInABook =
    (roster : Roster) → (seed : List ℕ) → (names more : Tables) → (later past : List Entry)
    → (number : ℕ) → (request : Request) → (events : List Event)
    → NamesGrow names more → IsLegalPast roster more (later ++ past)
    → IsTrace (setting_of roster seed names past number request) events
    → IsTrace (setting_of roster seed more (later ++ past) number request) events

-- TOLD

-- two traces of one request that take their tales from the same tapes, and meet no want of memory, are equal
abbrev pub TracesAreDetermined : Type 0
TracesAreDetermined =
    (s : Setting) → (a b : List Event) → (tapes : Teller → List Tale)
    → IsTrace s a → IsTrace s b
    → is_spent (reverse a) ≡ false → is_spent (reverse b) ≡ false
    → AreTold s [] a tapes → AreTold s [] b tapes → a ≡ b

-- THE BOOK

-- what holds wherever a book serves a request, by its setting and the past
abbrev pub WhereServed : ((names : Tables) → (entries : List Entry) → (roster : Roster) → (caller r : ℕ) → Setting → List Event → Type 0) → Type 0
WhereServed P =
    (negotiate : Bool) → (roster : Roster) → (seed : List ℕ) → (names : Tables) → (entries : List Entry)
    → (caller r : ℕ) → (request : Request) → (past : List Event)
    → IsServing roster names entries caller r request (setting_in negotiate roster seed names entries r request) past
    → P names entries roster caller r (setting_in negotiate roster seed names entries r request) past

-- a call that comes next may be asked of the book
abbrev pub WantedCallsAreAllowed : Type 0
WantedCallsAreAllowed =
    WhereServed (λ names entries roster caller r s past.
    (call : Call) → want s past ≡ Calls call → IsTrue (allowed roster names entries caller r call))

-- so may the answer to a prompt, with a text that is named
abbrev pub WantedAnswersAreAllowed : Type 0
WantedAnswersAreAllowed =
    WhereServed (λ names entries roster caller r s past.
    (p text terms : ℕ) → want s past ≡ Answers p terms → text ≤ length names.texts
    → IsTrue (allowed roster names entries caller r (Answer p text terms)))

-- a nonce of which a count is wanted has its name
abbrev pub DrawnNoncesAreNamed : Type 0
DrawnNoncesAreNamed =
    WhereServed (λ names entries roster caller r s past.
    (target : Target) → (nonce : ℕ) → want s past ≡ Draws target nonce
    → IsTrue (is_some (numbered names.nonces nonce)))

-- the number of a space stands for it in the setting of a book
abbrev pub SpacesAreNumbered : Type 0
SpacesAreNumbered =
    (negotiate : Bool) → (roster : Roster) → (seed : List ℕ) → (names : Tables) → (entries : List Entry)
    → (r : ℕ) → (request : Request) → IsNumbered (setting_in negotiate roster seed names entries r request)

-- HOW MANY

-- a request has at most 17 rounds
abbrev pub RoundsAreFew : Type 0
RoundsAreFew = (s : Setting) → (past : List Event) → IsPast s past → rounds s past ≤ 17

-- it makes at most 56 calls
abbrev pub CallsAreFew : Type 0
CallsAreFew = (s : Setting) → IsNumbered s → (past : List Event) → IsPast s past → length (calls past) ≤ 56

-- so it has at most 56 entries
abbrev pub EntriesAreFew : Type 0
EntriesAreFew =
    (s : Setting) → IsNumbered s → (entries : List Entry) → (r : ℕ) → (past : List Event)
    → IsPast s past → AreEntries entries r past → length (own entries r) ≤ 56

-- it writes at most 18 heads
abbrev pub HeadsAreFew : Type 0
HeadsAreFew = (s : Setting) → (past : List Event) → IsPast s past → heads past ≤ 18

-- it draws at most 36 counts
abbrev pub DrawsAreFew : Type 0
DrawsAreFew = (s : Setting) → (past : List Event) → IsPast s past → draws past ≤ 36
