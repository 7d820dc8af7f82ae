use Rattle.auth_cache.proofs.Steps.{lasts}
use Rattle.auth_cache.proofs.laws.lasts_under_more_names.Goals as goal

pub returns : goal.returns
returns c = λ names more partition past entries same has. lasts names more partition past entries same has
