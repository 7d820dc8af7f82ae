use Rattle.serving_laws.proofs.Meeting.{names_both}
use Rattle.serving_laws.proofs.names.names_join.Goals as goal

pub returns : goal.returns
returns c = names_both
