use Rattle.std.proofs.Common.{length}
use Rattle.bench_callers.proofs.crew.+each_works+fn-each_works-join+arg3.Given as goal

abbrev pub decreases-join+arg3 : goal.decreases-join+arg3
decreases-join+arg3 g l = length l.callers.list

abbrev pub decreases-each_works : goal.decreases-each_works
decreases-each_works g l = length l.callers.list
