use Rattle.path_lookup.proofs.HistoryLemmas.{keeps_dirs}
use Rattle.path_lookup.proofs.laws.keeps_the_directories.Goals as goal

pub returns : goal.returns
returns c = λ roster names sites partition past entry notes legal has. keeps_dirs roster names sites partition past legal.0 notes has entry legal.1
