use Rattle.std.proofs.Common.{◌≡◌}
use Rattle.bench_index.proofs.history.played.Given as goal

abbrev pub invariant-loop-pair : goal.invariant-loop-pair
invariant-loop-pair g l = g.B.Controller.roster l.book ≡ l.roster
