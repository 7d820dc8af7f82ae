use Rattle.history_laws.specs.Laws.{past_of}
use Rattle.history_laws.proofs.Prompting.{settled_once, all_taken}
use Rattle.history_laws.proofs.laws.prompts_have_one_answer.Goals as goal

pub returns : goal.returns
returns c = record {
  one = λ roster names history p legal. settled_once roster names (past_of history) legal p;
  taken = λ roster names history legal. all_taken roster names (past_of history) legal;
}
