-- What a status says of the input and the output.
use Rattle.std.specs.Prelude.{ℕ, ◌≡◌, ◌≤◌, ◌⊎◌, nat_lt, List, length, Option, Result, Ok, Err, if◌then◌else◌}
use Rattle.session_text.specs.declared.session.Session.{Session}
use Rattle.session_text.specs.declared.session.SessionFault.{SessionFault}
use Rattle.session_text.specs.declared.session.SessionFault.TheVariants.{BadLine, TooMany, NoMemory as NoRoom}
use Rattle.session_text.specs.declared.session.What.{What}
use Rattle.session_text.specs.declared.session.What.TheVariants.{Bytes}
use Rattle.session_text.specs.Sessions.{session}
use Rattle.auth_cli.specs.declared.words.Command.{Command}
use Rattle.auth_cli.specs.declared.status.Status.{Status}
use Rattle.auth_cli.specs.declared.status.Status.TheVariants.{Done, Usage, BadSession, ReadFault, WriteFault, NoMemory, TooLarge, TooFewGears}
use Rattle.auth_cli.specs.Whole.{WasRead, WasReadPast}

abbrev pub refused : SessionFault → Status
refused (BadLine line) = BadSession line
refused (TooMany what number) = TooLarge what number
refused NoRoom = NoMemory

abbrev pub status_of : Result Session SessionFault → Status
status_of (Ok asked) = Done
status_of (Err fault) = refused fault

-- how a command ends where nothing fails: the size goes before the lines
abbrev pub expected : Command → List ℕ → Status
expected asked text = if nat_lt 4194304 (length text) then TooLarge Bytes 4194305 else status_of (session text)

-- the input was read to its end, has no more bytes than a session may have, and has that status
pub record WasJudged (status : Status) (left_old left_new : Option (List ℕ)) : Type 0 where
  pub input : List ℕ
  pub read : WasRead left_old left_new input
  pub short : length input ≤ 4194304
  pub judged : status_of (session input) ≡ status

-- more bytes were read than a session may have
pub record WasTooLong (what : What) (number : ℕ) (left_old left_new : Option (List ℕ)) : Type 0 where
  pub bytes : what ≡ Bytes
  pub first_past : number ≡ 4194305
  pub past : WasReadPast 4194304 left_old left_new

-- what a status shows of the input
abbrev pub IsCaused : Command → Status → Option (List ℕ) → Option (List ℕ) → Type 0
IsCaused asked Done left_old left_new = WasJudged Done left_old left_new
IsCaused asked (BadSession line) left_old left_new = WasJudged (BadSession line) left_old left_new
IsCaused asked (TooLarge what number) left_old left_new =
    WasTooLong what number left_old left_new ⊎ WasJudged (TooLarge what number) left_old left_new
-- the words are a command, and no command asks for gears so far
IsCaused asked Usage left_old left_new = ⊥
IsCaused asked (TooFewGears wanted given) left_old left_new = ⊥
-- want of memory is free; what a failure shows is the source's and the sink's count
IsCaused asked NoMemory left_old left_new = Unit {0}
IsCaused asked ReadFault left_old left_new = Unit {0}
IsCaused asked WriteFault left_old left_new = Unit {0}

-- the session was read, to the input's end
pub record WasAsked (asked : Session) (left_old left_new : Option (List ℕ)) : Type 0 where
  pub input : List ℕ
  pub read : WasRead left_old left_new input
  pub short : length input ≤ 4194304
  pub is_asked : session input ≡ Ok asked

-- a status by which a command ends before it serves anything
abbrev pub IsStop : Status → Type 0
IsStop Done = ⊥
IsStop WriteFault = ⊥
IsStop status = Unit {0}

-- nothing was written, but for these three
abbrev pub IsSilent : Status → Option (List ℕ) → Option (List ℕ) → Type 0
IsSilent Done held_old held_new = Unit {0}
IsSilent WriteFault held_old held_new = Unit {0}
IsSilent NoMemory held_old held_new = Unit {0}
IsSilent status held_old held_new = held_new ≡ held_old
