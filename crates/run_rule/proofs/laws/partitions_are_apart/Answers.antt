use Rattle.run_rule.proofs.Apart.{apart_in}
use Rattle.run_rule.proofs.laws.partitions_are_apart.Goals as goal

pub returns : goal.returns
returns c = apart_in
