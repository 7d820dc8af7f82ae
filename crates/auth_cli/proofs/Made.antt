-- What a command makes of the session that it read.
use Rattle.std.proofs.Common.{ℕ, List, Option}
use Rattle.session_text.specs.declared.session.Session.{Session}
use Rattle.auth_cli.specs.declared.words.Command.{Command}
use Rattle.auth_cli.specs.declared.words.Command.TheVariants.{Check, Alone}
use Rattle.auth_cli.specs.Statuses.{WasAsked}
use Rattle.auth_cli.specs.Headline.{IsTextOf, IsMade}

pub made_of : (asker : Command) (seed : List ℕ) (asked : Session) (left_old left_new : Option (List ℕ)) (printed : List ℕ)
    → WasAsked asked left_old left_new → IsTextOf asker seed asked printed → IsMade asker seed left_old left_new printed
made_of Check seed asked left_old left_new printed was is = record {
  input = was.input;
  read = (was.read, was.short);
  is_text = record { asked = asked; is_session = was.is_asked; is_text = is };
}
made_of Alone seed asked left_old left_new printed was is = record {
  input = was.input;
  read = (was.read, was.short);
  is_text = record { asked = asked; is_session = was.is_asked; is_text = is };
}
