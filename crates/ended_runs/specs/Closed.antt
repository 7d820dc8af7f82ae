-- What is so at the end of a run's journal: each request has ended, and nothing that was open is left so.
use Rattle.std.specs.Prelude.{ℕ, ◌≡◌, ◌≤◌, IsTrue, List, length, reverse}
use Rattle.spaces.specs.declared.roster.Roster.{Roster}
use Rattle.auth_events.specs.Book.{without_draws}
use Rattle.ended_laws.specs.Ended.{has_begun, has_ended, AreAllSettled, AreAllTaken}
use Rattle.auth_runs.specs.Runs.{Run, history}
use Rattle.run_rule.specs.Outside.{Outside}
use Rattle.run_rule.specs.Runs.{IsRunBy}

-- the journal, the latest entry first, leaves nothing open
pub record LeavesNothingOpen (run : Run) : Type 0 where
  -- each request began and has its end
  pub begun : (r : ℕ) → 1 ≤ r → r ≤ length run.roster.requests → IsTrue (has_begun (reverse run.journal) r)
  pub ended : (r : ℕ) → 1 ≤ r → r ≤ length run.roster.requests → IsTrue (has_ended (reverse run.journal) r)
  -- every prompt has exactly one answer or loss
  pub settled : AreAllSettled (reverse run.journal)
  -- every request that follows a prompt takes its end behind that, exactly once
  pub taken : AreAllTaken (reverse run.journal)

-- the history of a run without its draws is the journal
abbrev pub JournalsAreHistories : Type 0
JournalsAreHistories =
    (callers : ℕ) → (roster : Roster) → (outside : Outside) → (seed : List ℕ) → (run : Run)
    → IsRunBy callers roster outside seed run → without_draws (history run) ≡ run.journal

-- the journal of a run, by however many callers, leaves nothing open
abbrev pub RunsLeaveNothingOpen : Type 0
RunsLeaveNothingOpen =
    (callers : ℕ) → (roster : Roster) → (outside : Outside) → (seed : List ℕ) → (run : Run)
    → IsRunBy callers roster outside seed run → LeavesNothingOpen run
