-- What the words of a command line ask for.
use Rattle.std.specs.Prelude.{ℕ, List, [], ◌∷◌, codes, bytes_eq, Option, None, Some, if◌then◌else◌}
use Rattle.auth_cli.specs.declared.words.Command.{Command}
use Rattle.auth_cli.specs.declared.words.Command.TheVariants.{Check, Alone}

abbrev pub command : List (List ℕ) → Option Command
command (word ∷ []) =
    if bytes_eq word (codes "check") then Some Check
    else if bytes_eq word (codes "alone") then Some Alone
    else None
command words = None
