use Rattle.liars.proofs.Drawing.{drawn_twice_is_refused, out_of_turn_is_refused, passed_over_is_refused, future_epoch_is_refused, never_drawn_is_refused, nonce_twice_is_refused}
use Rattle.liars.proofs.lies.draws.Goals as goal

pub returns : goal.returns
returns c = record {
  drawn_twice = drawn_twice_is_refused;
  out_of_turn = out_of_turn_is_refused;
  passed_over = passed_over_is_refused;
  future_epoch = future_epoch_is_refused;
  never_drawn = never_drawn_is_refused;
  nonce_twice = nonce_twice_is_refused;
}
