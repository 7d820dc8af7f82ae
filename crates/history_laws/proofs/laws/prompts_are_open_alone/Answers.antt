use Rattle.history_laws.specs.Laws.{past_of}
use Rattle.history_laws.proofs.Prompting.{open_once}
use Rattle.history_laws.proofs.laws.prompts_are_open_alone.Goals as goal

pub returns : goal.returns
returns c = λ roster names history s legal. open_once roster names (past_of history) legal s
