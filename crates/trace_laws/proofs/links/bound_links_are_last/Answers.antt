use Rattle.trace_laws.proofs.LastLinks.{bound_is_last}
use Rattle.trace_laws.proofs.links.bound_links_are_last.Goals as goal

pub returns : goal.returns
returns c = bound_is_last
