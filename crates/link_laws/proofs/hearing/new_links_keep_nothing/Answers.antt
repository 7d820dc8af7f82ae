use Rattle.link_laws.proofs.Readings.{new_at}
use Rattle.link_laws.proofs.hearing.new_links_keep_nothing.Goals as goal

pub returns : goal.returns
returns c = new_at
