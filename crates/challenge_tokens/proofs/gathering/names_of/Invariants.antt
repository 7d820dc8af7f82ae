use Rattle.std.proofs.Common.{take}
use Rattle.challenge_tokens.specs.Indexes.{IsIndexOf}
use Rattle.challenge_tokens.proofs.gathering.names_of.Given as goal

abbrev pub invariant-loop-param : goal.invariant-loop-param
invariant-loop-param l = IsIndexOf l.names (take l.param-index l.params)
