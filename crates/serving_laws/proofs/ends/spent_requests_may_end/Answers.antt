use Rattle.serving_laws.proofs.Cutting.{spent_end}
use Rattle.serving_laws.proofs.ends.spent_requests_may_end.Goals as goal

pub returns : goal.returns
returns c = spent_end
