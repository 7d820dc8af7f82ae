use Rattle.std.proofs.Common.{◌≡◌}
use Rattle.turnstile.proofs.Totals.{each_of_all}
use Rattle.turnstile.proofs.HistoryRule.{prefix_added}
use Rattle.turnstile.proofs.turnstile.Turnstile.leave.Goals as goal

pub leave_by-requires-clause-told : goal.leave_by-requires-clause-told
leave_by-requires-clause-told g c = (prefix_added c.args.inside.seen (g.S.Told.items c.args.state) c.requires.kept, each_of_all (λ item. g.S.Told.by item ≡ c.args.inside.number) _ c.requires.own)
