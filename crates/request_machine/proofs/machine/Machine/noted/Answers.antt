use Rattle.std.proofs.Common.{sym, subst, ◌∙◌}
use Rattle.request_machine.specs.declared.stage.Stage.TheVariants.{Close}
use Rattle.request_machine.specs.Kept.{Kept, Ties}
use Rattle.request_machine.proofs.Ending.{noted_ties}
use Rattle.request_machine.proofs.machine.Machine.noted.Goals as goal

pub returns-clause-ties : goal.returns-clause-ties
returns-clause-ties c = λ s suited t.
    subst (λ (v : Kept). Ties s (record v { stage = Close c.args.rest })) (sym (c.self.view_is ∙ c.push.ensures))
    (noted_ties s c.args.self.now c.args.closing c.args.rest c.args.gift c.args.reply c.requires.stage c.requires.outcome c.requires.left suited t)
