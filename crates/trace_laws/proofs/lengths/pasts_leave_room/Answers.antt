use Rattle.trace_laws.proofs.Sums.{short_pasts}
use Rattle.trace_laws.proofs.lengths.pasts_leave_room.Goals as goal

pub returns : goal.returns
returns c = short_pasts
