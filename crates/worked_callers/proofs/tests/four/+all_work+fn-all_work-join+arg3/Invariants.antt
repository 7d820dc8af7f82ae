use Rattle.std.proofs.Common.{length}
use Rattle.worked_callers.proofs.tests.four.+all_work+fn-all_work-join+arg3.Given as goal

abbrev pub decreases-join+arg3 : goal.decreases-join+arg3
decreases-join+arg3 g l = length l.callers.list

abbrev pub decreases-all_work : goal.decreases-all_work
decreases-all_work g l = length l.callers.list
