use Rattle.liars.proofs.Refused.{entry_twice_is_refused, untraced_call_is_refused, two_as_one_is_refused, another_gift_is_refused, another_partitions_gift_is_refused, request_left_out_is_refused}
use Rattle.liars.proofs.lies.journals.Goals as goal

pub returns : goal.returns
returns c = record {
  entry_twice = entry_twice_is_refused;
  untraced_call = untraced_call_is_refused;
  two_as_one = two_as_one_is_refused;
  another_gift = another_gift_is_refused;
  another_partitions_gift = another_partitions_gift_is_refused;
  request_left_out = request_left_out_is_refused;
}
