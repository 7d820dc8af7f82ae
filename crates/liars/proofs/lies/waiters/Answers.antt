use Rattle.liars.proofs.Sharing.{cancelled_for_one_is_refused, not_taken_is_refused, asked_again_is_refused}
use Rattle.liars.proofs.lies.waiters.Goals as goal

pub returns : goal.returns
returns c = record {
  cancelled_for_one = cancelled_for_one_is_refused;
  not_taken = not_taken_is_refused;
  asked_again = asked_again_is_refused;
}
