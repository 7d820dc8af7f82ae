use Rattle.trace_laws.proofs.Settling.{settled_traces}
use Rattle.trace_laws.proofs.endings.prompts_are_settled.Goals as goal

pub returns : goal.returns
returns c = settled_traces
