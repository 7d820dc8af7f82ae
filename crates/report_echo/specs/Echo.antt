-- What a run reads, writes and answers.
use Rattle.std.specs.Prelude.{◌≡◌, ◌<◌, ℕ, List, length, Err, IsOk}
use Rattle.std.specs.declared.option.Option.{Option}
use Rattle.std.specs.Io.KnownBytes.{Keeps, Appends}
use Rattle.auth_report.specs.Reading.{report}
use Rattle.report_echo.specs.declared.echo.Outcome.{Outcome}
use Rattle.report_echo.specs.declared.echo.Outcome.TheVariants.{Done, BadLine, TooLarge, NoMemory}

-- a report is written again as it was read; where anything else is answered, nothing is written
abbrev pub IsEcho : List ℕ → Option (List ℕ) → Option (List ℕ) → Outcome → Type 0
IsEcho text old new Done = IsOk (report text) × Appends old new text
IsEcho text old new (BadLine line) = (report text ≡ Err line) × Keeps old new
IsEcho text old new TooLarge = (67108864 < length text) × Keeps old new
IsEcho text old new NoMemory = Keeps old new
