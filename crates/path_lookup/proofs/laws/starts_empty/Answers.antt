use Rattle.path_lookup.proofs.HistoryLemmas.{none_live}
use Rattle.path_lookup.proofs.laws.starts_empty.Goals as goal

pub returns : goal.returns
returns c = λ roster names sites is_in past legal dead. none_live roster names sites is_in past legal dead
