use Rattle.std.proofs.Common.{sym, ap, ◌∙◌, subst}
use Rattle.link_trait.specs.Told.{grown}
use Rattle.trace_rule.specs.Telling.{prompted}
use Rattle.request_machine.specs.Kept.{Kept}
use Rattle.request_machine.specs.Failed.{ask_faults, RoseBy}
use Rattle.request_machine.specs.Prompted.{AreAnswered}
use Rattle.request_machine.proofs.Answering.{prompts_asked}
use Rattle.request_machine.proofs.Asking.{asked_behind}
use Rattle.request_machine.proofs.machine.Machine.ask_next.Goals as goal

pub returns-clause-prompts : goal.returns-clause-prompts
returns-clause-prompts g c = λ s before t it.
    prompts_asked s before _ c.args.self.now c.ask.new.self c.args.prompt c.args.ordinal c.in-Some.space _ _ c.requires.stage (sym c.in-Some.ensures.value) t
    (asked_behind c.args.prompt.number c.args.self.now c.take_space.new.self c.ask.new.self c.in-Some.ensures.rest c.ask.ensures.past)
    (λ is told. c.ask.ensures.prompted s before (c.in-Some.ensures.ties s t) is (told ∙ ap (λ (v : Kept). grown before (prompted s v.past)) (sym c.in-Some.ensures.rest)))
    (λ is a by seen. c.ask.ensures.answered s a (c.in-Some.ensures.ties s t) is by (subst (λ (v : Kept). AreAnswered s a v.past) (sym c.in-Some.ensures.rest) seen)) it

pub returns-clause-faults : goal.returns-clause-faults
returns-clause-faults g c = λ first rose.
    c.ask.ensures.faults first (subst (λ (v : Kept). RoseBy g.P.Prompter.sticks first (ask_faults v.past) (g.P.Prompter.faults c.args.prompter.now)) (sym c.in-Some.ensures.rest) rose)

pub returns-clause-quiet : goal.returns-clause-quiet
returns-clause-quiet g c = λ quiet.
    let still = c.ask.ensures.quiet quiet in
    (still.0, still.1 ∙ ap (λ (v : Kept). ask_faults v.past) c.in-Some.ensures.rest)
