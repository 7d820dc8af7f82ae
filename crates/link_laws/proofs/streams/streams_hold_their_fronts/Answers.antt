use Rattle.link_laws.proofs.Fronts.{fronts_more}
use Rattle.link_laws.proofs.streams.streams_hold_their_fronts.Goals as goal

pub returns : goal.returns
returns c = fronts_more
