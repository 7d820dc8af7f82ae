use Rattle.serving_laws.proofs.Cutting.{spent_loss}
use Rattle.serving_laws.proofs.ends.open_prompts_may_be_lost.Goals as goal

pub returns : goal.returns
returns c = λ roster seed names before entries r request past alone run may some. spent_loss roster seed names before entries r request past run may alone some
