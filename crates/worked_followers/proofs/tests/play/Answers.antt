use Rattle.std.proofs.Common.{Some}
use Rattle.worked_followers.proofs.First.{first_following}
use Rattle.worked_followers.proofs.tests.play.Goals as goal

pub follow-is_over-requires-clause-following : goal.follow-is_over-requires-clause-following
follow-is_over-requires-clause-following g c =
    let made = c.in_ok-machine.ensures in
    first_following c.args.session.roster c.new-dialer.result.log.opened (Some c.new-dialer.result.log.dials) c.in_ok-machine.machine c.requires.requests c.new-dialer.ensures.opened c.new-dialer.ensures.dials made.stage made.line made.ties
