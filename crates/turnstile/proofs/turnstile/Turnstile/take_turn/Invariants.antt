use Rattle.std.proofs.Common.{◌≡◌, ℕ, ◌%◌, []}
use Rattle.turnstile.specs.Turns.{waiting}
use Rattle.turnstile.proofs.turnstile.Turnstile.take_turn.Given as goal

abbrev pub invariant-loop : goal.invariant-loop
invariant-loop g l = (t : ℕ) × (l.turn.me ≡ (waiting l.fn.turn.me.0 t, [])) × (l.ticket ≡ t % 18446744073709551616) × (l.turn.table_id ≡ l.fn.turn.table_id)
