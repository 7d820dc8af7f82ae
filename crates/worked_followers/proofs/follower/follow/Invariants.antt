-- The machine goes on as a follower's.
use Rattle.worked_followers.specs.Following.{HasFollowing}
use Rattle.worked_followers.proofs.follower.follow.Given as goal

abbrev pub invariant-loop : goal.invariant-loop
invariant-loop g l = HasFollowing l.roster l.is_named (g.D.Dialer.opened l.gear.dialer) (g.D.Dialer.dials l.gear.dialer) l.machine
