use Rattle.std.proofs.Common.{◌≡◌, ◌-◌, ◌≤◌, [], length, vec_len, vec_capacity, Some}
use Rattle.turnstile.specs.Turns.{turn}
use Rattle.turnstile.specs.Names.{history_of}
use Rattle.turnstile.specs.Opening.{AreDealt}
use Rattle.turnstile.proofs.opening.deal.Given as goal

abbrev pub invariant-loop-past : goal.invariant-loop-past
invariant-loop-past g l =
    let key = l.fn.turns.shared.key in
    let fixed = Some (g.S.Told.fixed key.state.value) in
    (l.seat.table_id ≡ l.fn.turns.shared.table_id)
    × (l.seat.me ≡ (turn (vec_len l.fn.pasts - length l.yielded) [] 0 fixed (history_of key.passes key.home.value.table_id), []))
    × (vec_len l.passes ≡ length l.yielded) × (vec_len l.fn.pasts ≤ vec_capacity l.passes)
    × AreDealt key.home.value.table_id l.fn.turns.shared.table_id fixed l.passes.items
