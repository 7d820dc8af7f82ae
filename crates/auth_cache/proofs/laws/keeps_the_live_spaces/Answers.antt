use Rattle.auth_cache.proofs.HistoryLemmas.{keeps_live}
use Rattle.auth_cache.proofs.laws.keeps_the_live_spaces.Goals as goal

pub returns : goal.returns
returns c = λ roster names partition past entry entries legal has. keeps_live roster names partition past legal.0 entries has entry legal.1
