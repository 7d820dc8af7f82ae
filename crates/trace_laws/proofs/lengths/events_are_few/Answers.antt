use Rattle.trace_laws.proofs.Sums.{short_traces}
use Rattle.trace_laws.proofs.lengths.events_are_few.Goals as goal

pub returns : goal.returns
returns c = short_traces
