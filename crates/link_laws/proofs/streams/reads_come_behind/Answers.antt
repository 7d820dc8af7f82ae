use Rattle.link_laws.proofs.Readings.{reads_more}
use Rattle.link_laws.proofs.streams.reads_come_behind.Goals as goal

pub returns : goal.returns
returns c = reads_more
