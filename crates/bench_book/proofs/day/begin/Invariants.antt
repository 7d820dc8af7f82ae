use Rattle.std.proofs.Common.{◌≡◌}
use Rattle.bench_book.proofs.day.begin.Given as goal

abbrev pub invariant-loop-request : goal.invariant-loop-request
invariant-loop-request g l = g.B.Controller.roster l.book ≡ l.roster

abbrev pub invariant-loop-last : goal.invariant-loop-last
invariant-loop-last g l = g.B.Controller.roster l.book ≡ l.roster
