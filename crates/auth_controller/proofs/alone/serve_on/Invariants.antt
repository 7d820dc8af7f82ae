-- The machine's request is served on, and with each answer less of it is left.
use Rattle.std.proofs.Common.{◌≡◌, []}
use Rattle.request_machine.specs.Failed.{RoseBy, ask_faults, link_faults}
use Rattle.request_machine.specs.Work.{work_left}
use Rattle.auth_controller.specs.Driving.{HasDriving, peers, seen}
use Rattle.auth_controller.proofs.alone.serve_on.Given as goal

abbrev pub invariant-loop-book : goal.invariant-loop-book
invariant-loop-book g l =
    let first = l.initial in
    (g.B.Controller.roster l.book ≡ g.B.Controller.roster first.book)
    × (l.machine.number ≡ first.machine.number)
    × (l.machine.seed ≡ first.machine.seed)
    × (l.gear.tokens ≡ first.gear.tokens)
    × (g.D.Dialer.streams l.gear.dialer ≡ g.D.Dialer.streams first.gear.dialer)
    × (g.P.Prompter.answers l.prompter ≡ g.P.Prompter.answers first.prompter)
    × RoseBy g.D.Dialer.sticks (g.D.Dialer.faults first.gear.dialer) (link_faults l.machine.past) (g.D.Dialer.faults l.gear.dialer)
    × (g.D.Dialer.quiet first.gear.dialer → g.D.Dialer.quiet l.gear.dialer × (link_faults l.machine.past ≡ []))
    × RoseBy g.P.Prompter.sticks (g.P.Prompter.faults first.prompter) (ask_faults l.machine.past) (g.P.Prompter.faults l.prompter)
    × (g.P.Prompter.quiet first.prompter → g.P.Prompter.quiet l.prompter × (ask_faults l.machine.past ≡ []))
    × HasDriving l.roster
    (peers (g.D.Dialer.streams first.gear.dialer) (g.P.Prompter.answers first.prompter))
    (seen (g.B.Controller.told first.book) first.words (g.D.Dialer.dials first.gear.dialer) (g.D.Dialer.opened first.gear.dialer) (g.D.Dialer.traffic first.gear.dialer) (g.P.Prompter.told first.prompter))
    (seen (g.B.Controller.told l.book) l.words (g.D.Dialer.dials l.gear.dialer) (g.D.Dialer.opened l.gear.dialer) (g.D.Dialer.traffic l.gear.dialer) (g.P.Prompter.told l.prompter))
    l.machine

abbrev pub decreases-loop-book : goal.decreases-loop-book
decreases-loop-book g l = work_left l.machine
