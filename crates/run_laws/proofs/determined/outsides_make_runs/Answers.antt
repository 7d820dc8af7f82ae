use Rattle.run_laws.proofs.Alone.{runs_are_one}
use Rattle.run_laws.proofs.determined.outsides_make_runs.Goals as goal

pub returns : goal.returns
returns c = runs_are_one
