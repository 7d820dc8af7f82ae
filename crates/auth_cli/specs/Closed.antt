-- What `alone` writes tells of a run that leaves nothing open.
use Rattle.std.specs.Prelude.{ℕ, List, Option}
use Rattle.session_text.specs.declared.session.Session.{Session}
use Rattle.ended_runs.specs.Closed.{LeavesNothingOpen}
use Rattle.auth_cli.specs.Headline.{IsLoneReport}
use Rattle.auth_cli.specs.Whole.{WasWritten}

-- the text is the report of a session's run by one caller, whose journal leaves nothing open
pub record IsClosedReport (seed printed : List ℕ) : Type 0 where
  pub asked : Session
  pub report : IsLoneReport asked seed printed
  pub closed : LeavesNothingOpen report.run

-- such a text was written
abbrev pub WasClosed : List ℕ → Option (List ℕ) → Option (List ℕ) → Type 0
WasClosed seed held_old held_new =
    (printed : List ℕ) × IsClosedReport seed printed × WasWritten held_old held_new printed
