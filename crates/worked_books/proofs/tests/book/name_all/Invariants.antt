use Rattle.std.proofs.Common.{◌≡◌}
use Rattle.worked_books.proofs.tests.book.name_all.Given as goal

abbrev pub invariant-loop-request : goal.invariant-loop-request
invariant-loop-request g l = g.B.Controller.roster l.book ≡ l.roster
