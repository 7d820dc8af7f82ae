use Rattle.std.proofs.Common.{sym, subst, ◌∙◌}
use Rattle.request_machine.specs.declared.stage.Stage.TheVariants.{Ask}
use Rattle.request_machine.specs.Kept.{Kept, Ties}
use Rattle.request_machine.proofs.Prompting.{led_ties}
use Rattle.request_machine.proofs.machine.Machine.led.Goals as goal

pub returns-clause-ties : goal.returns-clause-ties
returns-clause-ties c = λ s suited t.
    subst (λ (v : Kept). Ties s (record v { prompt = c.args.number; stage = Ask (record { target = c.args.target; number = c.args.number; space = c.args.space; terms = c.args.terms }) c.args.ordinal })) (sym (c.self.view_is ∙ c.push.ensures))
    (led_ties s c.args.self.now c.args.target c.args.space c.args.terms c.args.number c.args.ordinal c.requires.stage suited t)
