use Rattle.liars.proofs.Refused.{nobody_asked_is_refused, not_listened_is_refused, another_identity_is_refused, never_asked_is_refused, asked_twice_is_refused}
use Rattle.liars.proofs.Renewing.{asked_anew_is_refused}
use Rattle.liars.proofs.lies.prompts.Goals as goal

pub returns : goal.returns
returns c = record {
  nobody_asked = nobody_asked_is_refused;
  not_listened = not_listened_is_refused;
  another_identity = another_identity_is_refused;
  never_asked = never_asked_is_refused;
  asked_twice = asked_twice_is_refused;
  asked_anew = asked_anew_is_refused;
}
