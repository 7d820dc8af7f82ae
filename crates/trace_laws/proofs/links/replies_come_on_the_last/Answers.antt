use Rattle.trace_laws.proofs.LastLinks.{replies_on_last}
use Rattle.trace_laws.proofs.links.replies_come_on_the_last.Goals as goal

pub returns : goal.returns
returns c = replies_on_last
