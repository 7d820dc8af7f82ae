use Rattle.std.proofs.Common.{◌≡◌}
use Rattle.worked_books.proofs.tests.sources.play_sources.Given as goal

abbrev pub invariant-loop-n : goal.invariant-loop-n
invariant-loop-n g l = g.B.Controller.roster l.book ≡ l.roster
