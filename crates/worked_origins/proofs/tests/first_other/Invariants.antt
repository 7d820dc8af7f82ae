use Rattle.std.proofs.Common.{◌≡◌}
use Rattle.worked_origins.proofs.tests.first_other.Given as goal

abbrev pub invariant-loop-i : goal.invariant-loop-i
invariant-loop-i g l =
    (g.D.Dialer.opened l.dialer ≡ g.D.Dialer.opened l.initial.dialer)
    × (g.D.Dialer.dials l.dialer ≡ g.D.Dialer.dials l.initial.dialer)
