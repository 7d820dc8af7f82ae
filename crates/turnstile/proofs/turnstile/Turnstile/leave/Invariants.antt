use Rattle.std.proofs.Common.{length, drop}
use Rattle.turnstile.proofs.turnstile.Turnstile.leave.Given as goal

abbrev pub ghosts-leave_by : goal.ghosts-leave_by
ghosts-leave_by g a = record { news = drop (length a.inside.seen) (g.S.Told.items a.state) }
