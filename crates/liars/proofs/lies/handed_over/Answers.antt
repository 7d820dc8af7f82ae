use Rattle.liars.proofs.Refused.{another_seed_is_refused}
use Rattle.liars.proofs.lies.handed_over.Goals as goal

pub returns : goal.returns
returns c = record { another_seed = another_seed_is_refused }
