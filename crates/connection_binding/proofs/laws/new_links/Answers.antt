use Rattle.connection_binding.proofs.NewLinks.{told_of_link, reply_sent, fault_sent}
use Rattle.connection_binding.proofs.laws.new_links.Goals as goal

pub returns : goal.returns
returns c = record {
  told = told_of_link;
  reply_sent = reply_sent;
  fault_sent = fault_sent;
}
