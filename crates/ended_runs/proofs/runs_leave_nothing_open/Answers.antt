use Rattle.ended_runs.proofs.Closed.{nothing_open}
use Rattle.ended_runs.proofs.runs_leave_nothing_open.Goals as goal

pub returns : goal.returns
returns c = nothing_open
