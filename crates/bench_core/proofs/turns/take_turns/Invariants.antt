use Rattle.std.proofs.Common.{◌≡◌, ◌+◌, length}
use Rattle.turnstile.specs.Passes.{IsOf}
use Rattle.bench_core.proofs.turns.take_turns.Given as goal

abbrev pub invariant-loop-turn : goal.invariant-loop-turn
invariant-loop-turn g l = IsOf l.fn.lock l.pass × (l.pass.number ≡ l.fn.worker.number) × (length l.pass.mine ≡ length l.fn.worker.pass.mine + l.turn)
