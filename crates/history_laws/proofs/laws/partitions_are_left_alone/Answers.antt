use Rattle.history_laws.specs.Laws.{past_of}
use Rattle.history_laws.proofs.Apart.{all_left_alone}
use Rattle.history_laws.proofs.laws.partitions_are_left_alone.Goals as goal

pub returns : goal.returns
returns c = λ roster names history legal. all_left_alone roster names (past_of history) legal
