use Rattle.trace_laws.proofs.LastLinks.{heads_over_last}
use Rattle.trace_laws.proofs.links.heads_go_over_the_last.Goals as goal

pub returns : goal.returns
returns c = heads_over_last
