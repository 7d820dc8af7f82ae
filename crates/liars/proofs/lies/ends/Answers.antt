use Rattle.liars.proofs.Refused.{too_early_is_refused, given_up_is_refused, no_note_is_refused}
use Rattle.liars.proofs.lies.ends.Goals as goal

pub returns : goal.returns
returns c = record {
  too_early = too_early_is_refused;
  given_up = given_up_is_refused;
  no_note = no_note_is_refused;
}
