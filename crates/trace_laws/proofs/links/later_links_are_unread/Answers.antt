use Rattle.trace_laws.proofs.LastLinks.{later_unread}
use Rattle.trace_laws.proofs.links.later_links_are_unread.Goals as goal

pub returns : goal.returns
returns c = later_unread
