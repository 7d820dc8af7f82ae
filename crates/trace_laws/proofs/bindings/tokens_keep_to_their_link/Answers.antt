use Rattle.trace_laws.proofs.Contexts.{bound_traces}
use Rattle.trace_laws.proofs.bindings.tokens_keep_to_their_link.Goals as goal

pub returns : goal.returns
returns c = bound_traces
