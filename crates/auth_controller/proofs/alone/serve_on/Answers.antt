-- What the machine does by itself, and each answer, keeps that one caller drives its request.
use Rattle.std.proofs.Common.{◌≡◌, ◌<◌, ◌≤◌, refl, sym, ap, ◌∙◌, subst, Some, arith}
use Rattle.request_machine.specs.Failed.{RoseBy, ask_faults, link_faults}
use Rattle.request_machine.specs.Linked.{is_ending, way}
use Rattle.request_machine.specs.Work.{work_left}
use Rattle.request_machine.proofs.Unasked.{untouched}
use Rattle.auth_controller.specs.Driving.{Peers, Seen, peers, seen}
use Rattle.auth_controller.proofs.Answered.{served_setting_in}
use Rattle.auth_controller.proofs.Driving.{IsStepped, StepsPrompts, StepsTraffic, answer_on, asks_given, links_given, still_quiet, step_on, step_serving}
use Rattle.auth_controller.proofs.NeedStages.{over_need}
use Rattle.auth_controller.proofs.alone.serve_on.Goals as goal

pub loop-book-init : goal.loop-book-init
loop-book-init g c =
    let none = c.requires.unbegun in (
      refl,
      refl,
      refl,
      refl,
      refl,
      refl,
      subst (λ past. RoseBy g.D.Dialer.sticks (g.D.Dialer.faults c.args.gear.now.dialer) (link_faults past) (g.D.Dialer.faults c.args.gear.now.dialer)) (sym none) (omega arith),
      λ quiet. (quiet, ap link_faults none),
      subst (λ past. RoseBy g.P.Prompter.sticks (g.P.Prompter.faults c.args.prompter.now) (ask_faults past) (g.P.Prompter.faults c.args.prompter.now)) (sym none) (omega arith),
      λ quiet. (quiet, ap ask_faults none),
      c.requires.driving,
    )

pub step-need-requires-clause-tied : goal.step-need-requires-clause-tied
step-need-requires-clause-tied g c =
    let book = c.args.book.now in
    let has = c.loop-book.invariant.10 in
    served_setting_in c.args.roster.now (g.B.Controller.told book) (g.B.Controller.told c.loop-book.book) c.args.words.now c.loop-book.words has.request c.loop-book.machine has.driving.serving

pub step-need-requires-clause-linked : goal.step-need-requires-clause-linked
step-need-requires-clause-linked g c = c.loop-book.invariant.10.driving.linked

pub step-need-requires-clause-links : goal.step-need-requires-clause-links
step-need-requires-clause-links g c = c.loop-book.invariant.10.driving.only

pub step-need-requires-clause-told : goal.step-need-requires-clause-told
step-need-requires-clause-told g c = c.loop-book.invariant.10.driving.undialed

pub answer-requires : goal.answer-requires
answer-requires g c =
    let book = c.args.book.now in
    let e = c.step-need.ensures in
    let I = c.loop-book.invariant in
    let peer : Peers = peers (g.D.Dialer.streams c.args.gear.now.dialer) (g.P.Prompter.answers c.args.prompter.now) in
    let start : Seen = seen (g.B.Controller.told book) c.args.words.now (g.D.Dialer.dials c.args.gear.now.dialer) (g.D.Dialer.opened c.args.gear.now.dialer) (g.D.Dialer.traffic c.args.gear.now.dialer) (g.P.Prompter.told c.args.prompter.now) in
    let now : Seen = seen (g.B.Controller.told c.loop-book.book) c.loop-book.words (g.D.Dialer.dials c.loop-book.gear.dialer) (g.D.Dialer.opened c.loop-book.gear.dialer) (g.D.Dialer.traffic c.loop-book.gear.dialer) (g.P.Prompter.told c.loop-book.prompter) in
    let later : Seen = record now { dials = g.D.Dialer.dials c.step-need.new.gear.dialer; opened = g.D.Dialer.opened c.step-need.new.gear.dialer; traffic = g.D.Dialer.traffic c.step-need.new.gear.dialer; asks = g.P.Prompter.told c.step-need.new.prompter } in
    let stepped : IsStepped c.args.roster.now peer c.loop-book.machine c.step-need.new.self now later = record {
      number = e.number;
      seed = e.seed;
      ties = e.ties;
      linked = e.linked;
      only = e.links;
      undialed = e.dialed;
      others = e.others;
      dialed = e.dials;
      same_inside = e.insides;
      traffic = subst (λ streams. StepsTraffic c.args.roster.now streams c.loop-book.machine c.step-need.new.self now.traffic later.traffic) I.4 e.traffic;
      prompts = subst (λ answers. StepsPrompts c.args.roster.now answers c.loop-book.machine c.step-need.new.self now.asks later.asks) I.5 e.prompts;
      still = e.still;
      free = e.free;
      spent = e.spent;
      unspent = e.unspent;
    } in
    record {
      serving = step_serving c.args.roster.now (g.B.Controller.roster c.loop-book.book) (c.requires.roster ∙ sym I.0) peer start now c.loop-book.machine c.step-need.new.self later I.10 stepped;
      number = c.requires.number ∙ sym (e.number ∙ I.1);
      need = e.need;
      going = c.in_default.not-Ended;
    }

pub loop-book-smaller : goal.loop-book-smaller
loop-book-smaller g c =
    let a : work_left c.answer.new.machine < work_left c.step-need.new.self = c.answer.ensures.given.left in
    let b : work_left c.step-need.new.self ≤ work_left c.loop-book.machine = c.step-need.ensures.left in
    let it : work_left c.answer.new.machine < work_left c.loop-book.machine = omega (arith, a, b) in
    it

pub loop-book-preserved : goal.loop-book-preserved
loop-book-preserved g c =
    let book = c.args.book.now in
    let e = c.step-need.ensures in
    let I = c.loop-book.invariant in
    let peer : Peers = peers (g.D.Dialer.streams c.args.gear.now.dialer) (g.P.Prompter.answers c.args.prompter.now) in
    let start : Seen = seen (g.B.Controller.told book) c.args.words.now (g.D.Dialer.dials c.args.gear.now.dialer) (g.D.Dialer.opened c.args.gear.now.dialer) (g.D.Dialer.traffic c.args.gear.now.dialer) (g.P.Prompter.told c.args.prompter.now) in
    let now : Seen = seen (g.B.Controller.told c.loop-book.book) c.loop-book.words (g.D.Dialer.dials c.loop-book.gear.dialer) (g.D.Dialer.opened c.loop-book.gear.dialer) (g.D.Dialer.traffic c.loop-book.gear.dialer) (g.P.Prompter.told c.loop-book.prompter) in
    let later : Seen = record now { dials = g.D.Dialer.dials c.step-need.new.gear.dialer; opened = g.D.Dialer.opened c.step-need.new.gear.dialer; traffic = g.D.Dialer.traffic c.step-need.new.gear.dialer; asks = g.P.Prompter.told c.step-need.new.prompter } in
    let stepped : IsStepped c.args.roster.now peer c.loop-book.machine c.step-need.new.self now later = record {
      number = e.number;
      seed = e.seed;
      ties = e.ties;
      linked = e.linked;
      only = e.links;
      undialed = e.dialed;
      others = e.others;
      dialed = e.dials;
      same_inside = e.insides;
      traffic = subst (λ streams. StepsTraffic c.args.roster.now streams c.loop-book.machine c.step-need.new.self now.traffic later.traffic) I.4 e.traffic;
      prompts = subst (λ answers. StepsPrompts c.args.roster.now answers c.loop-book.machine c.step-need.new.self now.asks later.asks) I.5 e.prompts;
      still = e.still;
      free = e.free;
      spent = e.spent;
      unspent = e.unspent;
    } in
    let links_same : link_faults c.answer.new.machine.past ≡ link_faults c.step-need.new.self.past =
    ap link_faults c.answer.ensures.given.as_it.past ∙ links_given c.step-need.new.self c.answer.ensures.given.gave in
    let asks_same : ask_faults c.answer.new.machine.past ≡ ask_faults c.step-need.new.self.past =
    ap ask_faults c.answer.ensures.given.as_it.past ∙ asks_given c.step-need.new.self c.answer.ensures.given.gave in (
      c.answer.ensures.roster ∙ I.0,
      c.answer.ensures.given.as_it.number ∙ (e.number ∙ I.1),
      c.answer.ensures.given.as_it.seed ∙ (e.seed ∙ I.2),
      untouched c.args.roster.now c.loop-book.machine c.step-need.new.self c.loop-book.gear.tokens c.step-need.new.gear.tokens
          (served_setting_in c.args.roster.now (g.B.Controller.told book) (g.B.Controller.told c.loop-book.book) c.args.words.now c.loop-book.words I.10.request c.loop-book.machine I.10.driving.serving) e.ties e.touched ∙ I.3,
      e.streams ∙ I.4,
      e.answers ∙ I.5,
      subst (λ counts. RoseBy g.D.Dialer.sticks (g.D.Dialer.faults c.args.gear.now.dialer) counts (g.D.Dialer.faults c.step-need.new.gear.dialer)) (sym links_same) (e.faults (g.D.Dialer.faults c.args.gear.now.dialer) I.6),
      still_quiet (g.D.Dialer.quiet c.args.gear.now.dialer) (g.D.Dialer.quiet c.loop-book.gear.dialer) (g.D.Dialer.quiet c.step-need.new.gear.dialer)
          (link_faults c.loop-book.machine.past) (link_faults c.step-need.new.self.past) (link_faults c.answer.new.machine.past) e.quiet links_same I.7,
      subst (λ counts. RoseBy g.P.Prompter.sticks (g.P.Prompter.faults c.args.prompter.now) counts (g.P.Prompter.faults c.step-need.new.prompter)) (sym asks_same) (e.prompt_faults (g.P.Prompter.faults c.args.prompter.now) I.8),
      still_quiet (g.P.Prompter.quiet c.args.prompter.now) (g.P.Prompter.quiet c.loop-book.prompter) (g.P.Prompter.quiet c.step-need.new.prompter)
          (ask_faults c.loop-book.machine.past) (ask_faults c.step-need.new.self.past) (ask_faults c.answer.new.machine.past) e.prompt_quiet asks_same I.9,
      answer_on c.args.roster.now (g.B.Controller.roster c.loop-book.book) (c.requires.roster ∙ sym I.0) peer start now c.loop-book.machine c.step-need.new.self later I.10 stepped
          c.answer.new.machine (g.B.Controller.told c.answer.new.book) c.answer.new.words c.answer.ensures.given c.answer.ensures.serving,
    )

pub returns-clause-roster : goal.returns-clause-roster
returns-clause-roster g c = c.loop-book.invariant.0

pub returns-clause-number : goal.returns-clause-number
returns-clause-number g c = c.step-need.ensures.number ∙ c.loop-book.invariant.1

pub returns-clause-seed : goal.returns-clause-seed
returns-clause-seed g c = c.step-need.ensures.seed ∙ c.loop-book.invariant.2

pub returns-clause-tokens : goal.returns-clause-tokens
returns-clause-tokens g c =
    let I = c.loop-book.invariant in
    untouched c.args.roster.now c.loop-book.machine c.step-need.new.self c.loop-book.gear.tokens c.step-need.new.gear.tokens
    (served_setting_in c.args.roster.now (g.B.Controller.told c.args.book.now) (g.B.Controller.told c.loop-book.book) c.args.words.now c.loop-book.words I.10.request c.loop-book.machine I.10.driving.serving)
    c.step-need.ensures.ties c.step-need.ensures.touched ∙ I.3

pub returns-clause-streams : goal.returns-clause-streams
returns-clause-streams g c = c.step-need.ensures.streams ∙ c.loop-book.invariant.4

pub returns-clause-answers : goal.returns-clause-answers
returns-clause-answers g c = c.step-need.ensures.answers ∙ c.loop-book.invariant.5

pub returns-clause-faults : goal.returns-clause-faults
returns-clause-faults g c = c.step-need.ensures.faults (g.D.Dialer.faults c.args.gear.now.dialer) c.loop-book.invariant.6

pub returns-clause-quiet : goal.returns-clause-quiet
returns-clause-quiet g c =
    still_quiet (g.D.Dialer.quiet c.args.gear.now.dialer) (g.D.Dialer.quiet c.loop-book.gear.dialer) (g.D.Dialer.quiet c.step-need.new.gear.dialer)
    (link_faults c.loop-book.machine.past) (link_faults c.step-need.new.self.past) (link_faults c.step-need.new.self.past) c.step-need.ensures.quiet refl c.loop-book.invariant.7

pub returns-clause-prompt_faults : goal.returns-clause-prompt_faults
returns-clause-prompt_faults g c = c.step-need.ensures.prompt_faults (g.P.Prompter.faults c.args.prompter.now) c.loop-book.invariant.8

pub returns-clause-prompt_quiet : goal.returns-clause-prompt_quiet
returns-clause-prompt_quiet g c =
    still_quiet (g.P.Prompter.quiet c.args.prompter.now) (g.P.Prompter.quiet c.loop-book.prompter) (g.P.Prompter.quiet c.step-need.new.prompter)
    (ask_faults c.loop-book.machine.past) (ask_faults c.step-need.new.self.past) (ask_faults c.step-need.new.self.past) c.step-need.ensures.prompt_quiet refl c.loop-book.invariant.9

pub returns-clause-over : goal.returns-clause-over
returns-clause-over g c = over_need c.step-need.new.self c.step-need.new.self.stage (c.step-need.ensures.need ∙ ap Some c.in-Ended.is)

pub returns-clause-closed : goal.returns-clause-closed
returns-clause-closed g c =
    let over = over_need c.step-need.new.self c.step-need.new.self.stage (c.step-need.ensures.need ∙ ap Some c.in-Ended.is) in
    c.step-need.ensures.closed (ap (λ x. is_ending (way x)) over)

pub returns-clause-driving : goal.returns-clause-driving
returns-clause-driving g c =
    let book = c.args.book.now in
    let e = c.step-need.ensures in
    let I = c.loop-book.invariant in
    let peer : Peers = peers (g.D.Dialer.streams c.args.gear.now.dialer) (g.P.Prompter.answers c.args.prompter.now) in
    let start : Seen = seen (g.B.Controller.told book) c.args.words.now (g.D.Dialer.dials c.args.gear.now.dialer) (g.D.Dialer.opened c.args.gear.now.dialer) (g.D.Dialer.traffic c.args.gear.now.dialer) (g.P.Prompter.told c.args.prompter.now) in
    let now : Seen = seen (g.B.Controller.told c.loop-book.book) c.loop-book.words (g.D.Dialer.dials c.loop-book.gear.dialer) (g.D.Dialer.opened c.loop-book.gear.dialer) (g.D.Dialer.traffic c.loop-book.gear.dialer) (g.P.Prompter.told c.loop-book.prompter) in
    let later : Seen = record now { dials = g.D.Dialer.dials c.step-need.new.gear.dialer; opened = g.D.Dialer.opened c.step-need.new.gear.dialer; traffic = g.D.Dialer.traffic c.step-need.new.gear.dialer; asks = g.P.Prompter.told c.step-need.new.prompter } in
    let stepped : IsStepped c.args.roster.now peer c.loop-book.machine c.step-need.new.self now later = record {
      number = e.number;
      seed = e.seed;
      ties = e.ties;
      linked = e.linked;
      only = e.links;
      undialed = e.dialed;
      others = e.others;
      dialed = e.dials;
      same_inside = e.insides;
      traffic = subst (λ streams. StepsTraffic c.args.roster.now streams c.loop-book.machine c.step-need.new.self now.traffic later.traffic) I.4 e.traffic;
      prompts = subst (λ answers. StepsPrompts c.args.roster.now answers c.loop-book.machine c.step-need.new.self now.asks later.asks) I.5 e.prompts;
      still = e.still;
      free = e.free;
      spent = e.spent;
      unspent = e.unspent;
    } in
    step_on c.args.roster.now (g.B.Controller.roster c.loop-book.book) (c.requires.roster ∙ sym I.0) peer start now c.loop-book.machine c.step-need.new.self later I.10 stepped
