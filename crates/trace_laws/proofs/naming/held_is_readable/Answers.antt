use Rattle.trace_laws.proofs.Readings.{readable}
use Rattle.trace_laws.proofs.naming.held_is_readable.Goals as goal

pub returns : goal.returns
returns c = readable
