use Rattle.link_laws.proofs.Readings.{at_more}
use Rattle.link_laws.proofs.hearing.unread_links_keep_theirs.Goals as goal

pub returns : goal.returns
returns c = at_more
