use Rattle.serving_laws.proofs.Calling.{call_taken}
use Rattle.serving_laws.proofs.calls.next_replies_are_taken.Goals as goal

pub returns : goal.returns
returns c = call_taken
