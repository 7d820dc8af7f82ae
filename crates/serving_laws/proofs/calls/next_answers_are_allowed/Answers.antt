use Rattle.serving_laws.proofs.Calling.{answer_allowed}
use Rattle.serving_laws.proofs.calls.next_answers_are_allowed.Goals as goal

pub returns : goal.returns
returns c = answer_allowed
