use Rattle.liars.proofs.Refused.{reply_of_another_link_is_refused, broken_reply_is_refused, dial_fault_is_refused, read_fault_is_refused}
use Rattle.liars.proofs.lies.links.Goals as goal

pub returns : goal.returns
returns c = record {
  reply_of_another_link = reply_of_another_link_is_refused;
  broken_reply = broken_reply_is_refused;
  dial_fault = dial_fault_is_refused;
  read_fault = read_fault_is_refused;
}
