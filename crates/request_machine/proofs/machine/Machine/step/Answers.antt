use Rattle.std.proofs.Common.{◌≡◌, false, rules, inl, refl, ap, arith, sym, subst, ◌∙◌}
use Rattle.link_trait.specs.Told.{grown}
use Rattle.trace_rule.specs.Telling.{dials}
use Rattle.request_machine.specs.Driven.{insides}
use Rattle.request_machine.specs.Failed.{link_faults, ask_faults}
use Rattle.request_machine.proofs.Stepping.{turned}
use Rattle.request_machine.specs.Kept.{Kept}
use Rattle.request_machine.specs.Turns.{is_asking}
use Rattle.request_machine.specs.Rooms.{HasSettingOf}
use Rattle.request_machine.proofs.Rooms.{idle_goes}
use Rattle.request_machine.proofs.Driving.{driven_then}
use Rattle.request_machine.proofs.Turning.{need_traffic, turn_traffic, need_prompts, turn_prompts, need_link_faults, turn_link_faults, need_ask_faults, turn_ask_faults}
use Rattle.request_machine.specs.Provided.{IsTouchedBySteps, steps, step_faults}
use Rattle.request_machine.proofs.Providing.{need_steps, tells_steps_then, touched_then}
use Rattle.request_machine.proofs.machine.Machine.step.Goals as goal

pub turn-requires-clause-tied : goal.turn-requires-clause-tied
turn-requires-clause-tied g c =
    let number : c.self.inside.number ≡ c.args.self.now.number = ap (λ (v : Kept). v.number) c.self.view_is in
    let request : c.requires.tied.setting.request ≡ c.in-Some.request.now = cc (c.requires.tied.is_of.is_request, c.in-Some.ensures) in
    record {
      setting = c.requires.tied.setting;
      same_request = request;
      numbers = c.requires.tied.numbers;
      ties = c.next_need.ensures.ties c.requires.tied.setting (c.loop-need.invariant.ties c.requires.tied.setting request c.requires.tied.ties);
    }

pub turn-requires-clause-going : goal.turn-requires-clause-going
turn-requires-clause-going g c =
    let number : c.self.inside.number ≡ c.args.self.now.number = ap (λ (v : Kept). v.number) c.self.view_is in
    let request : c.requires.tied.setting.request ≡ c.in-Some.request.now = cc (c.requires.tied.is_of.is_request, c.in-Some.ensures) in
    let tied : HasSettingOf c.in-Some.request.now c.next_need.new.self = record {
      setting = c.requires.tied.setting;
      same_request = request;
      numbers = c.requires.tied.numbers;
      ties = c.next_need.ensures.ties c.requires.tied.setting (c.loop-need.invariant.ties c.requires.tied.setting request c.requires.tied.ties);
    } in
    let idle : is_asking c.next_need.new.self ≡ false = search rules in
    idle_goes c.in-Some.request.now c.next_need.new.self tied idle

pub returns-in-Some-next_need-clause-traffic : goal.returns-in-Some-next_need-clause-traffic
returns-in-Some-next_need-clause-traffic g c = λ s before more of t grew it.
    let number : c.self.inside.number ≡ c.args.self.now.number = ap (λ (v : Kept). v.number) c.self.view_is in
    let by : s.request ≡ c.in-Some.request.now = cc (of.is_request, c.in-Some.ensures) in
    need_traffic c.in-Some.request.now c.args.self.now c.loop-need.self c.next_need.new.self c.next_need.new.self _ _ (g.D.Dialer.traffic c.loop-need.gear.dialer) _ c.loop-need.invariant.traffic c.next_need.ensures.carried c.next_need.ensures.traffic s before more by t grew it

pub returns-in-Some-next_need-clause-prompts : goal.returns-in-Some-next_need-clause-prompts
returns-in-Some-next_need-clause-prompts g c = λ s before of t it.
    let number : c.self.inside.number ≡ c.args.self.now.number = ap (λ (v : Kept). v.number) c.self.view_is in
    let by : s.request ≡ c.in-Some.request.now = cc (of.is_request, c.in-Some.ensures) in
    need_prompts c.in-Some.request.now c.args.self.now c.loop-need.self c.next_need.new.self c.next_need.new.self _ _ _ c.loop-need.invariant.prompts c.loop-need.invariant.ties c.next_need.ensures.past c.next_need.ensures.given c.next_need.ensures.space s before by t it

pub returns-in-Some-next_need-clause-asked : goal.returns-in-Some-next_need-clause-asked
returns-in-Some-next_need-clause-asked g c = λ s before calls of t grew far.
    let number : c.self.inside.number ≡ c.args.self.now.number = ap (λ (v : Kept). v.number) c.self.view_is in
    let by : s.request ≡ c.in-Some.request.now = cc (of.is_request, c.in-Some.ensures) in
    let kept = c.loop-need.invariant in
    (need_steps c.in-Some.request.now g.T.Tokens.sticks c.args.self.now c.loop-need.self c.next_need.new.self _ _ kept.ties kept.provider c.next_need.ensures.past c.next_need.ensures.same).asked s before calls by t grew far

pub returns-in-Some-next_need-clause-script : goal.returns-in-Some-next_need-clause-script
returns-in-Some-next_need-clause-script g c = c.loop-need.invariant.provider.script

pub returns-in-Some-next_need-clause-step_faults : goal.returns-in-Some-next_need-clause-step_faults
returns-in-Some-next_need-clause-step_faults g c =
    let kept = c.loop-need.invariant in
    (need_steps c.in-Some.request.now g.T.Tokens.sticks c.args.self.now c.loop-need.self c.next_need.new.self _ _ kept.ties kept.provider c.next_need.ensures.past c.next_need.ensures.same).faults

pub returns-in-Some-next_need-clause-step_quiet : goal.returns-in-Some-next_need-clause-step_quiet
returns-in-Some-next_need-clause-step_quiet g c = λ quiet.
    let before = c.loop-need.invariant.steps_quiet quiet in
    (before.0, ap step_faults c.next_need.ensures.past ∙ before.1)

pub returns-in-Some-next_need-clause-touched : goal.returns-in-Some-next_need-clause-touched
returns-in-Some-next_need-clause-touched g c = touched_then c.args.gear.now.tokens c.loop-need.gear.tokens c.loop-need.gear.tokens c.args.self.now.past c.loop-need.self.past c.next_need.new.self.past c.loop-need.invariant.touched (inl (refl, ap steps c.next_need.ensures.past))

pub loop-need-preserved : goal.loop-need-preserved
loop-need-preserved g c =
    let kept = c.loop-need.invariant in
    let idle : is_asking c.next_need.new.self ≡ false = search rules in
    record {
      driven = driven_then c.args.self.now c.loop-need.self c.turn.new.self _ _ _ _ _ kept.driven
          (driven_then c.loop-need.self c.next_need.new.self c.turn.new.self _ _ _ _ _ c.next_need.ensures.driven c.turn.ensures.driven);
      ties = λ s by t. c.turn.ensures.ties s by (c.next_need.ensures.ties s (kept.ties s by t));
      way = turned c.args.self.now _ c.next_need.new.self c.turn.new.self kept.way c.next_need.ensures.same idle c.turn.ensures.free c.turn.ensures.spent c.turn.ensures.told_spent;
      provider = tells_steps_then c.in-Some.request.now g.T.Tokens.sticks c.args.self.now c.next_need.new.self c.turn.new.self _ _ _
          (λ s by t. c.next_need.ensures.ties s (kept.ties s by t))
          (need_steps c.in-Some.request.now g.T.Tokens.sticks c.args.self.now c.loop-need.self c.next_need.new.self _ _ kept.ties kept.provider c.next_need.ensures.past c.next_need.ensures.same)
          c.turn.ensures.provider;
      steps_quiet = λ quiet.
          let before = kept.steps_quiet quiet in
          let now = c.turn.ensures.steps_quiet before.0 in
          (now.0, now.1 ∙ ap step_faults c.next_need.ensures.past ∙ before.1);
      touched = touched_then c.args.gear.now.tokens c.loop-need.gear.tokens c.turn.new.tokens c.args.self.now.past c.loop-need.self.past c.turn.new.self.past kept.touched
          (subst (λ past. IsTouchedBySteps c.loop-need.gear.tokens c.turn.new.tokens past c.turn.new.self.past) c.next_need.ensures.past c.turn.ensures.touched);
      less = omega (arith, c.turn.ensures.less, c.next_need.ensures.less, c.loop-need.invariant.less);
      insides = c.turn.ensures.insides ∙ ap insides c.next_need.ensures.past ∙ kept.insides;
      traffic = turn_traffic c.in-Some.request.now c.args.self.now c.loop-need.self c.next_need.new.self c.turn.new.self _ _ _ _ _
          (need_traffic c.in-Some.request.now c.args.self.now c.loop-need.self c.next_need.new.self c.turn.new.self _ _ (g.D.Dialer.traffic c.loop-need.gear.dialer) _ c.loop-need.invariant.traffic c.next_need.ensures.carried c.next_need.ensures.traffic)
          (λ s by t. c.next_need.ensures.ties s (kept.ties s by t)) (c.next_need.ensures.streams ∙ kept.streams) c.turn.ensures.traffic;
      streams = c.turn.ensures.streams ∙ c.next_need.ensures.streams ∙ kept.streams;
      faults = turn_link_faults c.in-Some.request.now c.args.self.now c.loop-need.self c.next_need.new.self c.turn.new.self g.D.Dialer.sticks _ _ _
          (need_link_faults c.in-Some.request.now c.args.self.now c.loop-need.self c.next_need.new.self c.turn.new.self g.D.Dialer.sticks _ _ _ kept.faults c.next_need.ensures.past c.next_need.ensures.faults) c.turn.ensures.faults;
      quiet = λ quiet.
          let before = kept.quiet quiet in
          let now = c.turn.ensures.quiet (c.next_need.ensures.quiet before.0) in
          (now.0, now.1 ∙ ap link_faults c.next_need.ensures.past ∙ before.1);
      prompts = turn_prompts c.in-Some.request.now c.args.self.now c.loop-need.self c.next_need.new.self c.turn.new.self _ _ _ _ _
          (need_prompts c.in-Some.request.now c.args.self.now c.loop-need.self c.next_need.new.self c.turn.new.self _ _ _ c.loop-need.invariant.prompts c.loop-need.invariant.ties c.next_need.ensures.past c.next_need.ensures.given c.next_need.ensures.space)
          (λ s by t. c.next_need.ensures.ties s (kept.ties s by t)) kept.answers c.turn.ensures.prompts;
      answers = c.turn.ensures.answers ∙ kept.answers;
      prompt_faults = turn_ask_faults c.in-Some.request.now c.args.self.now c.loop-need.self c.next_need.new.self c.turn.new.self g.P.Prompter.sticks _ _ _
          (need_ask_faults c.in-Some.request.now c.args.self.now c.loop-need.self c.next_need.new.self c.turn.new.self g.P.Prompter.sticks _ _ kept.prompt_faults c.next_need.ensures.past) c.turn.ensures.prompt_faults;
      prompt_quiet = λ quiet.
          let before = kept.prompt_quiet quiet in
          let now = c.turn.ensures.prompt_quiet before.0 in
          (now.0, now.1 ∙ ap ask_faults c.next_need.ensures.past ∙ before.1);
      dials = λ s before by t told.
          c.turn.ensures.dials s before by (c.next_need.ensures.ties s (kept.ties s by t))
          (c.next_need.ensures.dials ∙ kept.dials s before by t told ∙ ap (λ past. grown before (dials s past)) (sym c.next_need.ensures.past));
    }
