use Rattle.std.proofs.Common.{◌≡◌}
use Rattle.turnstile.proofs.turnstile.Turnstile.draw_ticket.Given as goal

abbrev pub invariant-loop : goal.invariant-loop
invariant-loop g l = (l.turn.me ≡ l.fn.turn.me) × (l.turn.table_id ≡ l.fn.turn.table_id)
