use Rattle.std.proofs.Common.{◌≡◌}
use Rattle.bench_book.proofs.names.name_host.Given as goal

abbrev pub invariant-loop-visit : goal.invariant-loop-visit
invariant-loop-visit g l = g.B.Controller.roster l.book ≡ l.roster
