use Rattle.trace_rule.proofs.Drops.{entries_bound}
use Rattle.trace_rule.proofs.laws.entries_are_few.Goals as goal

pub returns : goal.returns
returns c = entries_bound
