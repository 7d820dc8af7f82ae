use Rattle.request_machine.proofs.Working.{picked_left}
use Rattle.request_machine.specs.Work.{work_left}
use Rattle.std.proofs.Common.{sym, subst, ap, ◌∙◌, ◌≤◌, Some}
use Rattle.request_machine.specs.declared.stage.Stage.TheVariants.{NameSpace}
use Rattle.request_machine.specs.Kept.{Kept, Ties}
use Rattle.request_machine.proofs.Picking.{picked_ties}
use Rattle.request_machine.proofs.machine.Machine.picked.Goals as goal

pub returns-clause-ties : goal.returns-clause-ties
returns-clause-ties c = λ s is t.
    subst (λ (v : Kept). Ties s (record v { stage = NameSpace c.args.target }))
    (sym (c.self.view_is ∙ c.put_terms.ensures ∙ ap (λ (m : Kept). record m { unnamed_terms = c.args.pick.terms }) c.put_space.ensures))
    (picked_ties s c.args.self.now c.args.target c.args.pick c.requires.stage is t)

pub returns-clause-less : goal.returns-clause-less
returns-clause-less c =
    subst (λ (v : Kept). work_left (record v { stage = NameSpace c.args.target }) ≤ work_left c.args.self.now)
    (sym (c.self.view_is ∙ c.put_terms.ensures ∙ ap (λ (m : Kept). record m { unnamed_terms = c.args.pick.terms }) c.put_space.ensures))
    (picked_left c.args.self.now c.args.target (Some c.args.pick.space) c.args.pick.terms c.requires.stage)
