use Rattle.std.proofs.Common.{◌≡◌}
use Rattle.bench_index.proofs.history.serve.Given as goal

abbrev pub invariant-loop-call : goal.invariant-loop-call
invariant-loop-call g l = g.B.Controller.roster l.book ≡ l.roster

abbrev pub invariant-loop-turn : goal.invariant-loop-turn
invariant-loop-turn g l = g.B.Controller.roster l.book ≡ l.roster
