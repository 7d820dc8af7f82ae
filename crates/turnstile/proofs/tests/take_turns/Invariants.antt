use Rattle.std.proofs.Common.{◌≡◌}
use Rattle.turnstile.specs.Passes.{IsOf}
use Rattle.turnstile.proofs.tests.take_turns.Given as goal

abbrev pub invariant-loop-value : goal.invariant-loop-value
invariant-loop-value g l = IsOf l.fn.lock l.pass × (l.pass.number ≡ l.fn.number)
