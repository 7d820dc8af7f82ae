use Rattle.trace_laws.proofs.Settling.{cut_allowed}
use Rattle.trace_laws.proofs.endings.cuts_are_allowed.Goals as goal

pub returns : goal.returns
returns c = cut_allowed
