use Rattle.std.proofs.Common.{◌≡◌}
use Rattle.worked_books.proofs.tests.book.play.Given as goal

abbrev pub invariant-loop-row : goal.invariant-loop-row
invariant-loop-row g l = g.B.Controller.roster l.book ≡ l.roster
