use Rattle.trace_laws.proofs.Outcomes.{whole_traces}
use Rattle.trace_laws.proofs.endings.traces_are_whole.Goals as goal

pub returns : goal.returns
returns c = whole_traces
