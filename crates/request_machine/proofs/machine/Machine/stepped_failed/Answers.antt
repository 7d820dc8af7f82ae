use Rattle.std.proofs.Common.{◌∷◌, sym, subst, ◌∙◌}
use Rattle.link_trait.specs.declared.steps.StepSeen.TheVariants.{Failed}
use Rattle.auth_runs.specs.declared.event.Event.TheVariants.{Stepped}
use Rattle.request_machine.specs.declared.stage.Closing.{Closing}
use Rattle.request_machine.specs.declared.stage.Stage.TheVariants.{Close}
use Rattle.request_machine.specs.Kept.{Kept, Ties}
use Rattle.request_machine.proofs.Tokens.{step_failed_ties}
use Rattle.request_machine.proofs.machine.Machine.stepped_failed.Goals as goal

pub returns-clause-ties : goal.returns-clause-ties
returns-clause-ties c = λ s asking b t.
    subst (λ (v : Kept). Ties s (record v { stage = Close c.closing_by.result })) (sym (c.self.view_is ∙ c.push.ensures))
    (subst (λ (closing : Closing). Ties s (record c.args.self.now { past = Stepped c.args.target (Failed c.args.count) ∷ c.args.self.now.past; stage = Close closing })) (sym c.closing_by.ensures)
    (step_failed_ties s c.args.self.now c.args.target asking c.args.count b t))
