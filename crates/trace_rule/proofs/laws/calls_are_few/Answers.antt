use Rattle.trace_rule.proofs.Drops.{calls_bound}
use Rattle.trace_rule.proofs.laws.calls_are_few.Goals as goal

pub returns : goal.returns
returns c = calls_bound
