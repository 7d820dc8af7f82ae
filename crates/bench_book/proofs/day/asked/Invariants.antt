use Rattle.std.proofs.Common.{◌≡◌, ◌≤◌}
use Rattle.bench_book.proofs.day.asked.Given as goal

abbrev pub invariant-loop-last : goal.invariant-loop-last
invariant-loop-last g l = (g.B.Controller.roster l.book ≡ l.roster) × (l.asked ≤ l.last)
