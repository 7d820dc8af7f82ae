-- A machine that one caller serves: what it says of its book and its words.
use Rattle.std.specs.Prelude.{ℕ, ◌+◌, ◌^◌, ◌≤◌, Bool, true, false, not, IsTrue, List, Some, None}
use Rattle.spaces.specs.declared.roster.Request.{Request}
use Rattle.spaces.specs.declared.roster.Roster.{Roster}
use Rattle.auth_events.specs.declared.journal.Drawn.{Drawn}
use Rattle.auth_events.specs.declared.told.Told.{Told}
use Rattle.auth_events.specs.Tables.{AreFew}
use Rattle.auth_events.specs.Told.{names_told, past}
use Rattle.auth_runs.specs.declared.event.Event.{Event}
use Rattle.plain_book.specs.Words.{draws_of}
use Rattle.run_rule.specs.Naming.{unless_zero}
use Rattle.trace_rule.specs.Settings.{Setting}
use Rattle.trace_rule.specs.Traces.{is_spent}
use Rattle.request_machine.specs.declared.stage.Stage.{Stage}
use Rattle.request_machine.specs.declared.stage.Stage.TheVariants.{Answer, NameTerms, Over, Renew, RenewLast, Select, Spent, SpentEnd, SpentOver}
use Rattle.request_machine.specs.Kept.{Kept, Ties}
use Rattle.serving_laws.specs.Knowing.{KnowsBook}
use Rattle.serving_laws.specs.Meeting.{Pending, none_pending}
use Rattle.serving_laws.specs.Rooms.{HasNamed, begun}
use Rattle.serving_laws.specs.Service.{IsServed}

-- by each setting that knows the book the fields say what the past says
abbrev pub AreTiesKnown : Roster → List Told → Request → Kept → Type 0
AreTiesKnown roster told request m =
    (s : Setting) → KnowsBook roster m.seed (names_told told) (past told) m.number request s → Ties s m

-- the numbers that were told for the next call, by the stage
abbrev pub pending_at : Stage → Pending
pending_at (NameTerms t space) = record { space = Some space; terms = None; text = None }
pending_at (Select t space terms) = record { space = Some space; terms = unless_zero terms; text = None }
pending_at (Renew t gift terms) = record { space = None; terms = unless_zero terms; text = None }
pending_at (RenewLast t gift terms c) = record { space = None; terms = unless_zero terms; text = None }
pending_at (Answer p text) = record { space = None; terms = None; text = unless_zero text }
pending_at stage = none_pending

-- memory hasn't run out
abbrev pub has_memory : Stage → List Event → Bool
has_memory Spent events = false
has_memory SpentEnd events = false
has_memory SpentOver events = false
has_memory Over events = not (is_spent events)
has_memory stage events = true

-- one caller serves the machine's request
pub record IsServing (roster : Roster) (before told : List Told) (first words : List Drawn) (request : Request) (m : Kept) : Type 0 where
  pub served : IsServed roster before told first words m.number request m.past
  pub known : AreTiesKnown roster told request m
  -- there were no more names than the requests that were begun have, and there are no more with this one
  pub few_before : AreFew (begun (past before)) (names_told before)
  pub few : AreFew (begun (past before) + 1) (names_told told)
  -- each word had given few counts
  pub few_draws : (n : ℕ) → draws_of first n ≤ 2 ^ 29
  -- unless memory has run out, each name that was made is met in a call, or is told for the next one
  pub named : IsTrue (has_memory m.stage m.past) → HasNamed (names_told before) (names_told told) m.number m.past (pending_at m.stage)
