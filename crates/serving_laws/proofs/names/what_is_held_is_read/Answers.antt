use Rattle.serving_laws.proofs.Reading.{read_of}
use Rattle.serving_laws.proofs.names.what_is_held_is_read.Goals as goal

pub returns : goal.returns
returns c = read_of
