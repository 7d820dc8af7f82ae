use Rattle.shared_book.specs.Callers.{IsWaiting}
use Rattle.bench_callers.proofs.works.takes.Given as goal

abbrev pub invariant-loop-taken : goal.invariant-loop-taken
invariant-loop-taken g l = IsWaiting l.fn.shared l.fn.caller l.caller l.fn.request 1
