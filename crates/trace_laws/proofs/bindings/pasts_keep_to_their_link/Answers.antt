use Rattle.trace_laws.proofs.Contexts.{bound_pasts}
use Rattle.trace_laws.proofs.bindings.pasts_keep_to_their_link.Goals as goal

pub returns : goal.returns
returns c = bound_pasts
