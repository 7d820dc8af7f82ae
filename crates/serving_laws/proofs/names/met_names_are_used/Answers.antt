use Rattle.serving_laws.proofs.Meeting.{names_whole}
use Rattle.serving_laws.proofs.names.met_names_are_used.Goals as goal

pub returns : goal.returns
returns c = names_whole
