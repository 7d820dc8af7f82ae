use Rattle.ended_runs.proofs.Closed.{history_journal}
use Rattle.ended_runs.proofs.journals_are_histories.Goals as goal

pub returns : goal.returns
returns c = history_journal
