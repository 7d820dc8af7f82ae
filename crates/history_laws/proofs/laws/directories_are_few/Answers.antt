use Rattle.history_laws.proofs.Holding.{dirs_fit}
use Rattle.history_laws.proofs.laws.directories_are_few.Goals as goal

pub returns : goal.returns
returns c = dirs_fit
