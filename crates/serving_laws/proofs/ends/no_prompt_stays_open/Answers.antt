use Rattle.serving_laws.proofs.Cutting.{closed_at_end}
use Rattle.serving_laws.proofs.ends.no_prompt_stays_open.Goals as goal

pub returns : goal.returns
returns c = closed_at_end
