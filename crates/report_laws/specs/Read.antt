-- What is proved of a run that was read.
use Rattle.std.specs.Prelude.{◌≡◌, ◌≤◌, length}
use Rattle.auth_events.specs.Tables.{AreNames, AreFew}
use Rattle.auth_events.specs.Pages.{IsWithinRoom}
use Rattle.auth_runs.specs.Runs.{Run}
use Rattle.report_laws.specs.Kept.{AreTraces}

pub record HasRoom (run : Run) : Type 0 where
  -- at most 2,048 requests
  pub few : length run.roster.requests ≤ 2048
  -- each entry is of a request of the roster and fits, and none has more than 64
  pub journal : IsWithinRoom (length run.roster.requests) run.journal
  -- one trace for each request
  pub all_traced : length run.traces ≡ length run.roster.requests

pub record HasNames (run : Run) : Type 0 where
  -- no two spaces are equal and no two terms of a space, terms are at home, and their nonces are numbered as they come
  pub names : AreNames run.names
  pub few_names : AreFew (length run.roster.requests) run.names

-- each trace is whole, its calls are its request's entries in order, and its replies are tidy
pub record HasTraces (run : Run) : Type 0 where
  pub traces : AreTraces run.journal 1 run.traces
