use Rattle.auth_cache.proofs.Steps.{none_live}
use Rattle.auth_cache.proofs.laws.starts_empty.Goals as goal

pub returns : goal.returns
returns c = λ is_in past dead. none_live is_in past dead
