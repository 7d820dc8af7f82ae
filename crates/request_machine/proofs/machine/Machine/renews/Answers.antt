use Rattle.request_machine.proofs.Working.{renews_left}
use Rattle.request_machine.specs.Work.{work_left}
use Rattle.std.proofs.Common.{sym, subst, ◌∙◌, ◌≤◌, Some}
use Rattle.request_machine.specs.declared.stage.Stage.TheVariants.{NameLast}
use Rattle.request_machine.specs.Kept.{Kept, Ties}
use Rattle.request_machine.proofs.NextNonces.{renews_ties}
use Rattle.request_machine.proofs.machine.Machine.renews.Goals as goal

pub returns-clause-ties : goal.returns-clause-ties
returns-clause-ties c = λ s t.
    subst (λ (v : Kept). Ties s (record v { stage = NameLast c.args.target c.args.renewal.gift c.args.closing }))
    (sym (c.self.view_is ∙ c.put_terms.ensures))
    (renews_ties s c.args.self.now c.args.target c.args.closing c.args.renewal c.requires.stage c.requires.some t)

pub returns-clause-less : goal.returns-clause-less
returns-clause-less c =
    subst (λ (v : Kept). work_left (record v { stage = NameLast c.args.target c.args.renewal.gift c.args.closing }) ≤ work_left c.args.self.now)
    (sym (c.self.view_is ∙ c.put_terms.ensures))
    (renews_left c.args.self.now c.args.target c.args.closing c.args.renewal.gift (Some c.args.renewal.terms) c.requires.stage)
