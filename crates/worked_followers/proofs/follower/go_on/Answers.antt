use Rattle.std.proofs.Common.{ap}
use Rattle.request_machine.specs.Linked.{is_ending, way}
use Rattle.auth_controller.proofs.NeedStages.{over_need}
use Rattle.worked_followers.proofs.Told.{setting, setting_in, stepped, told}
use Rattle.worked_followers.proofs.follower.go_on.Goals as goal

pub step-need-requires-clause-tied : goal.step-need-requires-clause-tied
step-need-requires-clause-tied g c =
    setting_in c.args.roster.now c.args.is_named (g.D.Dialer.opened c.args.gear.now.dialer) (g.D.Dialer.dials c.args.gear.now.dialer) c.args.machine.now c.requires.following

pub returns-in-Ended : goal.returns-in-Ended
returns-in-Ended g c =
    let e = c.step-need.ensures in
    let over = over_need c.step-need.new.self c.step-need.new.self.stage c.in-Ended.ensures.need in
    let has =
    stepped c.args.roster.now c.args.is_named (g.D.Dialer.opened c.args.gear.now.dialer) (g.D.Dialer.opened c.step-need.new.gear.dialer) (g.D.Dialer.dials c.args.gear.now.dialer) (g.D.Dialer.dials c.step-need.new.gear.dialer)
    c.args.machine.now c.step-need.new.self c.requires.following e.number e.seed e.ties e.linked e.links e.dialed in
    record {
      over = over;
      closed = e.closed (ap (λ x. is_ending (way x)) over);
      tied = setting c.args.roster.now c.args.is_named (g.D.Dialer.opened c.step-need.new.gear.dialer) (g.D.Dialer.dials c.step-need.new.gear.dialer) c.step-need.new.self has;
    }

pub gave-requires : goal.gave-requires
gave-requires g c =
    let e = c.step-need.ensures in
    let has =
    stepped c.args.roster.now c.args.is_named (g.D.Dialer.opened c.args.gear.now.dialer) (g.D.Dialer.opened c.step-need.new.gear.dialer) (g.D.Dialer.dials c.args.gear.now.dialer) (g.D.Dialer.dials c.step-need.new.gear.dialer)
    c.args.machine.now c.step-need.new.self c.requires.following e.number e.seed e.ties e.linked e.links e.dialed in
    record { tied = setting c.args.roster.now c.args.is_named (g.D.Dialer.opened c.step-need.new.gear.dialer) (g.D.Dialer.dials c.step-need.new.gear.dialer) c.step-need.new.self has }

pub returns-in-Some : goal.returns-in-Some
returns-in-Some g c =
    let e = c.step-need.ensures in
    let given = c.gave.ensures in
    let has =
    stepped c.args.roster.now c.args.is_named (g.D.Dialer.opened c.args.gear.now.dialer) (g.D.Dialer.opened c.step-need.new.gear.dialer) (g.D.Dialer.dials c.args.gear.now.dialer) (g.D.Dialer.dials c.step-need.new.gear.dialer)
    c.args.machine.now c.step-need.new.self c.requires.following e.number e.seed e.ties e.linked e.links e.dialed in
    told c.args.roster.now (g.D.Dialer.opened c.step-need.new.gear.dialer) (g.D.Dialer.dials c.step-need.new.gear.dialer) c.step-need.new.self c.gave.new.self
    given.number given.seed given.link given.links given.linked c.step-need.result c.in-Some.gave c.args.is_named c.in-Some.named e.need c.in-Some.ensures has given.ties
