use Rattle.trace_rule.proofs.Drops.{spaces_numbered}
use Rattle.trace_rule.proofs.laws.spaces_are_numbered.Goals as goal

pub returns : goal.returns
returns c = spaces_numbered
