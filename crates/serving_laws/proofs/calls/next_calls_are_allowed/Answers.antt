use Rattle.serving_laws.proofs.Calling.{call_allowed}
use Rattle.serving_laws.proofs.calls.next_calls_are_allowed.Goals as goal

pub returns : goal.returns
returns c = call_allowed
