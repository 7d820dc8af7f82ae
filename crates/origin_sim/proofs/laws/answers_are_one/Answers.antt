use Rattle.origin_sim.proofs.OneAnswer.{one_answer}
use Rattle.origin_sim.proofs.laws.answers_are_one.Goals as goal

pub returns : goal.returns
returns c = one_answer
