use Rattle.std.proofs.Common.{◌≡◌, ◌+◌, ◌<◌, ◌++◌, [], List, length}
use Rattle.turnstile.specs.Totals.{Each}
use Rattle.turnstile.specs.Passes.{PassView}
use Rattle.turnstile.specs.Knows.{Knows}
use Rattle.turnstile.proofs.turnstile.Turnstile.gather.Given as goal

abbrev pub invariant-loop-pass : goal.invariant-loop-pass
invariant-loop-pass g l =
    (rest : List (PassView g.row.S-Item.Denot g.row.S-Fixed.Denot))
    × (l.fn.passes.items ≡ l.passes.items ++ rest)
    × (Each (Knows l.past.me.0) rest × Knows l.past.me.0 l.fn.first)
    × ((l.past.table_id ≡ l.fn.self.history) × (l.past.me.1 ≡ []) × (l.past.me.0.home ≡ 0) × (0 < l.past.me.0.number))
    × ((l.turn.table_id ≡ l.fn.self.turns) × (l.turn.me.1 ≡ []) × (l.turn.me.0.tickets ≡ []) × (l.turn.me.0.holds ≡ 0) × (l.turn.me.0.parts ≡ length rest + 1))

abbrev pub decreases-loop-pass : goal.decreases-loop-pass
decreases-loop-pass g l = length l.passes.items
