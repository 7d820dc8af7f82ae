use Rattle.liars.proofs.Refused.{unused_text_is_refused, space_twice_is_refused, text_again_is_refused}
use Rattle.liars.proofs.lies.names.Goals as goal

pub returns : goal.returns
returns c = record {
  unused_text = unused_text_is_refused;
  space_twice = space_twice_is_refused;
  text_again = text_again_is_refused;
}
