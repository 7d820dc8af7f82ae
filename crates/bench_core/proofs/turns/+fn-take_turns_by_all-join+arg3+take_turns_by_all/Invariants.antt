use Rattle.std.proofs.Common.{length}
use Rattle.bench_core.proofs.turns.+fn-take_turns_by_all-join+arg3+take_turns_by_all.Given as goal

abbrev pub decreases-join+arg3 : goal.decreases-join+arg3
decreases-join+arg3 g l = length l.passes.list

abbrev pub decreases-take_turns_by_all : goal.decreases-take_turns_by_all
decreases-take_turns_by_all g l = length l.passes.list
