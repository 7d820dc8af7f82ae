use Rattle.trace_laws.proofs.Settling.{loss_allowed}
use Rattle.trace_laws.proofs.endings.losses_are_allowed.Goals as goal

pub returns : goal.returns
returns c = loss_allowed
