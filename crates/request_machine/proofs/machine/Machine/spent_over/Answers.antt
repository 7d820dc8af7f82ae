use Rattle.std.proofs.Common.{sym, subst, ◌∙◌}
use Rattle.request_machine.specs.declared.stage.Stage.TheVariants.{Over}
use Rattle.request_machine.specs.Kept.{Kept, Ties}
use Rattle.request_machine.proofs.Spending.{spent_over_ties}
use Rattle.request_machine.proofs.machine.Machine.spent_over.Goals as goal

pub returns-clause-ties : goal.returns-clause-ties
returns-clause-ties c = λ s t.
    subst (λ (v : Kept). Ties s (record v { stage = Over })) (sym (c.self.view_is ∙ c.push.ensures)) (spent_over_ties s c.args.self.now c.requires.stage t)
