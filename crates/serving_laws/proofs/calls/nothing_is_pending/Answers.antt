use Rattle.serving_laws.proofs.Calling.{answered}
use Rattle.serving_laws.proofs.calls.nothing_is_pending.Goals as goal

pub returns : goal.returns
returns c = answered
