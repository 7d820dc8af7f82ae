-- What a command's text tells of the session that was read.
use Rattle.std.specs.Prelude.{ℕ, ◌≡◌, ◌≤◌, ◌-◌, List, length, Option, Ok}
use Rattle.link_trait.specs.Links.{stream_in}
use Rattle.link_trait.specs.Prompts.{answer_in}
use Rattle.link_trait.specs.Tokens.{step_at}
use Rattle.session_text.specs.declared.session.Session.{Session}
use Rattle.session_text.specs.Sessions.{session}
use Rattle.session_text.specs.Counts.{counts_line}
use Rattle.auth_runs.specs.Runs.{Run}
use Rattle.trace_rule.specs.Heard.{ended}
use Rattle.run_rule.specs.Outside.{Outside}
use Rattle.run_rule.specs.Runs.{IsLoneRun}
use Rattle.auth_report.specs.Report.{text}
use Rattle.auth_cli.specs.declared.words.Command.{Command}
use Rattle.auth_cli.specs.declared.words.Command.TheVariants.{Check, Alone}
use Rattle.auth_cli.specs.Whole.{WasRead, WasWritten, WasWrittenInPart}

-- RUNS

-- what a session recorded: the whole streams of its links, the steps of its provider and its answers
abbrev pub recorded : Session → Outside
recorded asked = record {
  streams = λ link. ended (stream_in asked.links link);
  steps = λ r n. step_at asked.steps r (n - 1);
  answers = answer_in asked.answers;
}

-- a run of the session by one caller over what it recorded, where nothing fails
abbrev pub IsLoneRunOf : Session → List ℕ → Run → Type 0
IsLoneRunOf asked seed run = IsLoneRun asked.roster (recorded asked) seed run

-- the text is the report of such a run
pub record IsLoneReport (asked : Session) (seed : List ℕ) (printed : List ℕ) : Type 0 where
  pub run : Run
  pub is_run : IsLoneRunOf asked seed run
  pub is_text : printed ≡ text run

-- TEXTS

-- the command's text for a session: `check` counts what it asks for, `alone` reports a run of it by one caller
abbrev pub IsTextOf : Command → List ℕ → Session → List ℕ → Type 0
IsTextOf Check seed asked printed = printed ≡ counts_line asked
IsTextOf Alone seed asked printed = IsLoneReport asked seed printed

-- the input is a session, and the text is the command's for it
pub record IsSessionText (asker : Command) (seed input printed : List ℕ) : Type 0 where
  pub asked : Session
  pub is_session : session input ≡ Ok asked
  pub is_text : IsTextOf asker seed asked printed

-- what a command makes of its input
abbrev pub IsTextFor : Command → List ℕ → List ℕ → List ℕ → Type 0
IsTextFor Check seed input printed = IsSessionText Check seed input printed
IsTextFor Alone seed input printed = IsSessionText Alone seed input printed

-- THE INPUT

-- the input was read to its end, and is no longer than a session may be
abbrev pub WasReadWhole : Option (List ℕ) → Option (List ℕ) → List ℕ → Type 0
WasReadWhole left_old left_new input = WasRead left_old left_new input × (length input ≤ 4194304)

-- what a command reads
abbrev pub WasInput : Command → Option (List ℕ) → Option (List ℕ) → List ℕ → Type 0
WasInput Check left_old left_new input = WasReadWhole left_old left_new input
WasInput Alone left_old left_new input = WasReadWhole left_old left_new input

-- the text is the command's for the input that it read
pub record IsMade (asker : Command) (seed : List ℕ) (left_old left_new : Option (List ℕ)) (printed : List ℕ) : Type 0 where
  pub input : List ℕ
  pub read : WasInput asker left_old left_new input
  pub is_text : IsTextFor asker seed input printed

-- THE OUTPUT

-- the command's text was written
abbrev pub IsServed : Command → List ℕ → Option (List ℕ) → Option (List ℕ) → Option (List ℕ) → Option (List ℕ) → Type 0
IsServed asker seed left_old left_new held_old held_new =
    (printed : List ℕ) × IsMade asker seed left_old left_new printed × WasWritten held_old held_new printed

-- a front of it was written
abbrev pub IsServedInPart : Command → List ℕ → Option (List ℕ) → Option (List ℕ) → Option (List ℕ) → Option (List ℕ) → Type 0
IsServedInPart asker seed left_old left_new held_old held_new =
    (printed : List ℕ) × IsMade asker seed left_old left_new printed × WasWrittenInPart held_old held_new printed
