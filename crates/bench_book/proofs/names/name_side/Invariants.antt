use Rattle.std.proofs.Common.{◌≡◌}
use Rattle.bench_book.proofs.names.name_side.Given as goal

abbrev pub invariant-loop-host : goal.invariant-loop-host
invariant-loop-host g l = g.B.Controller.roster l.book ≡ l.roster
