use Rattle.std.proofs.Common.{◌≡◌, length}
use Rattle.bench_callers.proofs.ground.roster_of.Given as goal

abbrev pub invariant-loop-made : goal.invariant-loop-made
invariant-loop-made l = length l.requests ≡ l._made
