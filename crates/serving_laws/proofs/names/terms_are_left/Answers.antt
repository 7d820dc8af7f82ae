use Rattle.serving_laws.proofs.Rooms.{terms_left}
use Rattle.serving_laws.proofs.names.terms_are_left.Goals as goal

pub returns : goal.returns
returns c = terms_left
