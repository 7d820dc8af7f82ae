use Rattle.std.proofs.Common.{◌≡◌, drop}
use Rattle.challenge_tokens.specs.Names.{value_under}
use Rattle.challenge_tokens.proofs.params.value_of.Given as goal

abbrev pub invariant-loop-param : goal.invariant-loop-param
invariant-loop-param l = value_under l.name (drop l.param-index l.params) ≡ value_under l.name l.params
