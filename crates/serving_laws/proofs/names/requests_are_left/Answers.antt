use Rattle.serving_laws.proofs.Rooms.{request_left}
use Rattle.serving_laws.proofs.names.requests_are_left.Goals as goal

pub returns : goal.returns
returns c = request_left
