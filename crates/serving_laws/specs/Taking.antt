-- What a book replies to a request, taken by the rule.
use Rattle.std.specs.Prelude.{ℕ, ◌≡◌, IsTrue, List, ◌∷◌}
use Rattle.spaces.specs.declared.roster.Request.{Request}
use Rattle.spaces.specs.declared.roster.Roster.{Roster}
use Rattle.auth_events.specs.declared.journal.BookReply.{BookReply}
use Rattle.auth_events.specs.declared.journal.Call.{Call}
use Rattle.auth_events.specs.declared.journal.Entry.{Entry}
use Rattle.auth_events.specs.Tables.{Tables}
use Rattle.auth_runs.specs.declared.event.Event.{Event}
use Rattle.auth_runs.specs.declared.event.Event.TheVariants.{Called}
use Rattle.trace_laws.specs.Answering.{made}
use Rattle.trace_rule.specs.Closings.{want}
use Rattle.trace_rule.specs.Moves.{Want}
use Rattle.trace_rule.specs.Settings.{Setting}
use Rattle.trace_rule.specs.Traces.{IsPast, suits}
use Rattle.serving_laws.specs.Alone.{IsAlone}
use Rattle.serving_laws.specs.Knowing.{KnowsBook}

-- by each setting that knows the book the past is one of the request, and this comes next
abbrev pub ComesNext : Roster → List ℕ → Tables → List Entry → ℕ → Request → List Event → Want → Type 0
ComesNext roster seed names entries r request past next =
    (s : Setting) → KnowsBook roster seed names entries r request s → IsPast s past × (want s past ≡ next)

-- with the reply the request is still served by one caller, and the reply suits the call by each setting that knows the book then
pub record IsTaken (roster : Roster) (seed : List ℕ) (names : Tables) (before entries : List Entry) (r : ℕ) (request : Request) (past : List Event) (call : Call) (reply : BookReply) : Type 0 where
  pub alone : IsAlone roster names before (made 1 r call reply ∷ entries) r request (Called call reply ∷ past)
  pub suited : (s : Setting) → KnowsBook roster seed names (made 1 r call reply ∷ entries) r request s → IsTrue (suits s past call reply)
