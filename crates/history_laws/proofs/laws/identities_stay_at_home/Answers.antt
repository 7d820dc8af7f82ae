use Rattle.history_laws.specs.Laws.{past_of}
use Rattle.history_laws.proofs.Telling.{all_told}
use Rattle.history_laws.proofs.laws.identities_stay_at_home.Goals as goal

pub returns : goal.returns
returns c = λ roster names history legal. all_told roster names (past_of history) legal
