use Rattle.std.proofs.Common.{◌≡◌, ◌≤◌, [], vec_len, vec_capacity}
use Rattle.turnstile.specs.History.{past}
use Rattle.turnstile.specs.Opening.{AreNewSeats}
use Rattle.turnstile.proofs.opening.found.Given as goal

abbrev pub invariant-loop-made : goal.invariant-loop-made
invariant-loop-made g l =
    (l.home.table_id ≡ l.history.shared.table_id) × (l.home.me ≡ (past 0 1 l._made [] [] [] [], []))
    × (vec_len l.pasts ≡ l._made) × (l.fn.passes ≤ vec_capacity l.pasts)
    × AreNewSeats l.history.shared.table_id l.pasts.items
    × (l.history.shared.table_id.words ≡ 1)
