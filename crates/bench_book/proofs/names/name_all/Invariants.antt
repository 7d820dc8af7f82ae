use Rattle.std.proofs.Common.{◌≡◌}
use Rattle.bench_book.proofs.names.name_all.Given as goal

abbrev pub invariant-loop-side : goal.invariant-loop-side
invariant-loop-side g l = g.B.Controller.roster l.book ≡ l.roster
