use Rattle.lone_laws.proofs.Whole.{lone_run_in_order}
use Rattle.lone_laws.proofs.runs.served_requests_make_runs.Goals as goal

pub returns : goal.returns
returns c = lone_run_in_order
