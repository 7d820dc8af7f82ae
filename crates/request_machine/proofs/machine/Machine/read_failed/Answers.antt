use Rattle.std.proofs.Common.{◌∷◌, sym, subst, ◌∙◌}
use Rattle.auth_runs.specs.declared.event.Event.TheVariants.{ReadFailed}
use Rattle.request_machine.specs.declared.stage.Stage.TheVariants.{Close}
use Rattle.request_machine.specs.Kept.{Kept, Ties}
use Rattle.request_machine.proofs.Ending.{read_failed_ties}
use Rattle.request_machine.proofs.machine.Machine.read_failed.Goals as goal

pub returns-clause-ties : goal.returns-clause-ties
returns-clause-ties c = λ s t.
    subst (λ (v : Kept). Ties s (record v { stage = Close c.closing_by.result })) (sym (c.self.view_is ∙ c.push.ensures))
    (subst (λ r. Ties s (record c.args.self.now { past = ReadFailed c.args.link c.args.count ∷ c.args.self.now.past; stage = Close r })) (sym c.closing_by.ensures)
    (read_failed_ties s c.args.self.now c.args.link c.args.count c.requires.stage t))
