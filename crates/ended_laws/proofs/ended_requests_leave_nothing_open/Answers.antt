use Rattle.history_laws.specs.Laws.{past_of}
use Rattle.ended_laws.proofs.Waiting.{all_settled}
use Rattle.ended_laws.proofs.Taking.{all_taken}
use Rattle.ended_laws.proofs.ended_requests_leave_nothing_open.Goals as goal

pub returns : goal.returns
returns c = record {
  settled = λ roster names history legal ended. all_settled roster names (past_of history) legal ended;
  taken = λ roster names history legal ended. all_taken roster names (past_of history) legal ended;
}
