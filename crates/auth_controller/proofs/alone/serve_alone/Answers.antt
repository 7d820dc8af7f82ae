-- One request is driven from its first call to its outcome, and what was seen of it is what its trace says.
use Rattle.std.proofs.Common.{◌≡◌, [], sym, ap, ◌∙◌, subst}
use Rattle.request_machine.specs.Failed.{RoseBy, ask_faults, link_faults}
use Rattle.request_machine.specs.Linked.{Line}
use Rattle.auth_controller.specs.Driving.{Peers, Seen, peers, seen}
use Rattle.auth_controller.proofs.Answered.{served_setting}
use Rattle.auth_controller.proofs.Ends.{driven_carried, driven_closed, driven_prompted, driven_served, first_driving, past_of_trace}
use Rattle.auth_controller.proofs.alone.serve_alone.Goals as goal

pub serve_on-requires-clause-number : goal.serve_on-requires-clause-number
serve_on-requires-clause-number g c = sym (ap (λ (l : Line). l.number) c.in_ok-machine.ensures.line)

pub serve_on-requires-clause-unbegun : goal.serve_on-requires-clause-unbegun
serve_on-requires-clause-unbegun g c = c.in_ok-machine.ensures.past

pub serve_on-requires-clause-driving : goal.serve_on-requires-clause-driving
serve_on-requires-clause-driving g c =
    let book = c.args.book.now in
    let made = c.in_ok-machine.ensures in
    first_driving c.args.roster.now (g.B.Controller.roster book) (g.B.Controller.names book) (g.B.Controller.told book) c.args.words.now
    (peers (g.D.Dialer.streams c.args.gear.now.dialer) (g.P.Prompter.answers c.args.prompter.now))
    (g.D.Dialer.dials c.args.gear.now.dialer) (g.D.Dialer.opened c.args.gear.now.dialer) (g.D.Dialer.traffic c.args.gear.now.dialer) (g.P.Prompter.told c.args.prompter.now)
    c.in_ok-machine.machine c.args.request c.args.seed
    c.requires.roster (g.met.B.Controller.told_names book) (g.met.B.Controller.no_draw book) (g.met.B.Controller.legal book) (g.met.B.Controller.are_names book)
    c.requires.request c.requires.unserved c.requires.settled c.requires.few c.requires.words c.requires.draws c.requires.epochs c.requires.unlinked c.requires.undialed
    made.stage made.past made.line made.ties

pub finish-requires-clause-tied : goal.finish-requires-clause-tied
finish-requires-clause-tied g c =
    let has = c.serve_on.ensures.driving in
    served_setting c.args.roster.now (g.B.Controller.told c.args.book.now) (g.B.Controller.told c.serve_on.new.book) c.args.words.now c.serve_on.new.words has.request c.serve_on.new.machine has.driving.serving

pub returns-clause-served : goal.returns-clause-served
returns-clause-served g c =
    let number = c.serve_on.ensures.number ∙ ap (λ (l : Line). l.number) c.in_ok-machine.ensures.line in
    let seed = c.serve_on.ensures.seed ∙ ap (λ (l : Line). l.seed) c.in_ok-machine.ensures.line in
    let peer : Peers = peers (g.D.Dialer.streams c.args.gear.now.dialer) (g.P.Prompter.answers c.args.prompter.now) in
    let start : Seen = seen (g.B.Controller.told c.args.book.now) c.args.words.now (g.D.Dialer.dials c.args.gear.now.dialer) (g.D.Dialer.opened c.args.gear.now.dialer) (g.D.Dialer.traffic c.args.gear.now.dialer) (g.P.Prompter.told c.args.prompter.now) in
    let now : Seen = seen (g.B.Controller.told c.serve_on.new.book) c.serve_on.new.words (g.D.Dialer.dials c.serve_on.new.gear.dialer) (g.D.Dialer.opened c.serve_on.new.gear.dialer) (g.D.Dialer.traffic c.serve_on.new.gear.dialer) (g.P.Prompter.told c.serve_on.new.prompter) in
    λ found is. driven_served c.args.roster.now peer start now found c.serve_on.new.machine c.args.request c.args.seed number seed c.serve_on.ensures.driving c.serve_on.ensures.over c.serve_on.ensures.closed c.finish.result c.finish.ensures.events is

pub returns-clause-carried : goal.returns-clause-carried
returns-clause-carried g c =
    let number = c.serve_on.ensures.number ∙ ap (λ (l : Line). l.number) c.in_ok-machine.ensures.line in
    let seed = c.serve_on.ensures.seed ∙ ap (λ (l : Line). l.seed) c.in_ok-machine.ensures.line in
    let peer : Peers = peers (g.D.Dialer.streams c.args.gear.now.dialer) (g.P.Prompter.answers c.args.prompter.now) in
    let start : Seen = seen (g.B.Controller.told c.args.book.now) c.args.words.now (g.D.Dialer.dials c.args.gear.now.dialer) (g.D.Dialer.opened c.args.gear.now.dialer) (g.D.Dialer.traffic c.args.gear.now.dialer) (g.P.Prompter.told c.args.prompter.now) in
    let now : Seen = seen (g.B.Controller.told c.serve_on.new.book) c.serve_on.new.words (g.D.Dialer.dials c.serve_on.new.gear.dialer) (g.D.Dialer.opened c.serve_on.new.gear.dialer) (g.D.Dialer.traffic c.serve_on.new.gear.dialer) (g.P.Prompter.told c.serve_on.new.prompter) in
    λ found is. driven_carried c.args.roster.now peer start now found c.serve_on.new.machine c.args.request c.args.seed number seed c.serve_on.ensures.driving c.serve_on.ensures.over c.serve_on.ensures.closed c.finish.result c.finish.ensures.events is

pub returns-clause-prompted : goal.returns-clause-prompted
returns-clause-prompted g c =
    let number = c.serve_on.ensures.number ∙ ap (λ (l : Line). l.number) c.in_ok-machine.ensures.line in
    let seed = c.serve_on.ensures.seed ∙ ap (λ (l : Line). l.seed) c.in_ok-machine.ensures.line in
    let peer : Peers = peers (g.D.Dialer.streams c.args.gear.now.dialer) (g.P.Prompter.answers c.args.prompter.now) in
    let start : Seen = seen (g.B.Controller.told c.args.book.now) c.args.words.now (g.D.Dialer.dials c.args.gear.now.dialer) (g.D.Dialer.opened c.args.gear.now.dialer) (g.D.Dialer.traffic c.args.gear.now.dialer) (g.P.Prompter.told c.args.prompter.now) in
    let now : Seen = seen (g.B.Controller.told c.serve_on.new.book) c.serve_on.new.words (g.D.Dialer.dials c.serve_on.new.gear.dialer) (g.D.Dialer.opened c.serve_on.new.gear.dialer) (g.D.Dialer.traffic c.serve_on.new.gear.dialer) (g.P.Prompter.told c.serve_on.new.prompter) in
    λ found is. driven_prompted c.args.roster.now peer start now found c.serve_on.new.machine c.args.request c.args.seed number seed c.serve_on.ensures.driving c.serve_on.ensures.over c.serve_on.ensures.closed c.finish.result c.finish.ensures.events is

pub returns-clause-faults : goal.returns-clause-faults
returns-clause-faults g c =
    subst (λ past. RoseBy g.D.Dialer.sticks (g.D.Dialer.faults c.args.gear.now.dialer) (link_faults past) (g.D.Dialer.faults c.serve_on.new.gear.dialer))
    (past_of_trace c.serve_on.new.machine.past c.finish.result c.finish.ensures.events) c.serve_on.ensures.faults

pub returns-clause-quiet : goal.returns-clause-quiet
returns-clause-quiet g c =
    subst (λ past. g.D.Dialer.quiet c.args.gear.now.dialer → g.D.Dialer.quiet c.serve_on.new.gear.dialer × (link_faults past ≡ []))
    (past_of_trace c.serve_on.new.machine.past c.finish.result c.finish.ensures.events) c.serve_on.ensures.quiet

pub returns-clause-prompt_faults : goal.returns-clause-prompt_faults
returns-clause-prompt_faults g c =
    subst (λ past. RoseBy g.P.Prompter.sticks (g.P.Prompter.faults c.args.prompter.now) (ask_faults past) (g.P.Prompter.faults c.serve_on.new.prompter))
    (past_of_trace c.serve_on.new.machine.past c.finish.result c.finish.ensures.events) c.serve_on.ensures.prompt_faults

pub returns-clause-prompt_quiet : goal.returns-clause-prompt_quiet
returns-clause-prompt_quiet g c =
    subst (λ past. g.P.Prompter.quiet c.args.prompter.now → g.P.Prompter.quiet c.serve_on.new.prompter × (ask_faults past ≡ []))
    (past_of_trace c.serve_on.new.machine.past c.finish.result c.finish.ensures.events) c.serve_on.ensures.prompt_quiet

pub returns-clause-closed : goal.returns-clause-closed
returns-clause-closed g c =
    let number = c.serve_on.ensures.number ∙ ap (λ (l : Line). l.number) c.in_ok-machine.ensures.line in
    let seed = c.serve_on.ensures.seed ∙ ap (λ (l : Line). l.seed) c.in_ok-machine.ensures.line in
    let peer : Peers = peers (g.D.Dialer.streams c.args.gear.now.dialer) (g.P.Prompter.answers c.args.prompter.now) in
    let start : Seen = seen (g.B.Controller.told c.args.book.now) c.args.words.now (g.D.Dialer.dials c.args.gear.now.dialer) (g.D.Dialer.opened c.args.gear.now.dialer) (g.D.Dialer.traffic c.args.gear.now.dialer) (g.P.Prompter.told c.args.prompter.now) in
    let now : Seen = seen (g.B.Controller.told c.serve_on.new.book) c.serve_on.new.words (g.D.Dialer.dials c.serve_on.new.gear.dialer) (g.D.Dialer.opened c.serve_on.new.gear.dialer) (g.D.Dialer.traffic c.serve_on.new.gear.dialer) (g.P.Prompter.told c.serve_on.new.prompter) in
    let has = c.serve_on.ensures.driving in
    driven_closed c.args.roster.now peer start now has.request c.serve_on.new.machine c.args.request c.args.seed number seed has c.serve_on.ensures.over c.serve_on.ensures.closed c.finish.result c.finish.ensures.events c.requires.unlinked
