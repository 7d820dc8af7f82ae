use Rattle.history_laws.specs.Laws.{past_of}
use Rattle.history_laws.proofs.Rooms.{live_few}
use Rattle.history_laws.proofs.laws.at_most_32_spaces_of_a_partition_are_live.Goals as goal

pub returns : goal.returns
returns c = λ roster names history legal. live_few roster names (past_of history) legal
