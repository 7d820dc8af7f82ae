use Rattle.std.proofs.Common.{◌≡◌, ◌++◌, take}
use Rattle.std.specs.List.{flat_map}
use Rattle.challenge_tokens.specs.Writing.{param_behind}
use Rattle.challenge_tokens.proofs.write.push_more.Given as goal

abbrev pub invariant-loop-param : goal.invariant-loop-param
invariant-loop-param l = l.out ≡ l.fn.out ++ flat_map param_behind (take l.param-index l.params)
