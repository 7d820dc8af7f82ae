use Rattle.run_rule.proofs.Ending.{request_ends_well}
use Rattle.run_rule.proofs.laws.requests_end_well.Goals as goal

pub returns : goal.returns
returns c = request_ends_well
