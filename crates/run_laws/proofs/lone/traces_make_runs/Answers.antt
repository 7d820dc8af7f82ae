use Rattle.run_laws.proofs.OneCaller.{run_is_traces}
use Rattle.run_laws.proofs.lone.traces_make_runs.Goals as goal

pub returns : goal.returns
returns c = run_is_traces
