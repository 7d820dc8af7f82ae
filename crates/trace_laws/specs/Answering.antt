-- What a book answers is one of the replies that the rule of a request takes.
use Rattle.std.specs.Prelude.{ℕ, ◌≡◌, ◌==◌, not, Bool, IsTrue, List, ◌∷◌}
use Rattle.spaces.specs.declared.roster.Request.{Request}
use Rattle.spaces.specs.declared.roster.Roster.{Roster}
use Rattle.auth_events.specs.declared.journal.BookReply.{BookReply}
use Rattle.auth_events.specs.declared.journal.Call.{Call}
use Rattle.auth_events.specs.declared.journal.Call.TheVariants.{Answer}
use Rattle.auth_events.specs.declared.journal.Entry.{Entry}
use Rattle.auth_events.specs.Book.{IsStep}
use Rattle.auth_events.specs.Tables.{Tables}
use Rattle.auth_runs.specs.declared.event.Event.{Event}
use Rattle.trace_rule.specs.Closings.{want}
use Rattle.trace_rule.specs.Moves.Want.{Answers, Calls}
use Rattle.trace_rule.specs.Serving.{IsServing, setting_in}
use Rattle.trace_rule.specs.Traces.{suits}

abbrev pub made : ℕ → ℕ → Call → BookReply → Entry
made caller r call reply = record { caller = caller; request = r; call = call; reply = reply }

-- where a book that serves a request makes an entry of the call that comes next, its reply suits the call, by all that the book knows with it
abbrev pub AnswersSuit : Type 0
AnswersSuit =
    (negotiate : Bool) → (roster : Roster) → (seed : List ℕ) → (names : Tables) → (entries : List Entry)
    → (caller r : ℕ) → (request : Request) → (past : List Event) → (call : Call) → (reply : BookReply)
    → IsServing roster names entries caller r request (setting_in negotiate roster seed names entries r request) past
    → want (setting_in negotiate roster seed names entries r request) past ≡ Calls call
    → IsStep roster names entries (made caller r call reply)
    → IsTrue (suits (setting_in negotiate roster seed names (made caller r call reply ∷ entries) r request) past call reply)

-- so does its reply to the answer to a prompt, with a text
abbrev pub TextsSuit : Type 0
TextsSuit =
    (negotiate : Bool) → (roster : Roster) → (seed : List ℕ) → (names : Tables) → (entries : List Entry)
    → (caller r : ℕ) → (request : Request) → (past : List Event) → (prompt text terms : ℕ) → (reply : BookReply)
    → IsServing roster names entries caller r request (setting_in negotiate roster seed names entries r request) past
    → want (setting_in negotiate roster seed names entries r request) past ≡ Answers prompt terms
    → IsTrue (not (text == 0))
    → IsStep roster names entries (made caller r (Answer prompt text terms) reply)
    → IsTrue (suits (setting_in negotiate roster seed names (made caller r (Answer prompt text terms) reply ∷ entries) r request) past (Answer prompt text terms) reply)
