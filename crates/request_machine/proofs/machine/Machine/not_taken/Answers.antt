use Rattle.std.proofs.Common.{◌∷◌, sym, subst, ◌∙◌}
use Rattle.auth_events.specs.declared.journal.Call.TheVariants.{Take}
use Rattle.auth_events.specs.declared.journal.BookReply.TheVariants.{Cancelled}
use Rattle.auth_runs.specs.declared.event.Event.TheVariants.{Called}
use Rattle.request_machine.specs.declared.stage.Stage.TheVariants.{Close}
use Rattle.request_machine.specs.Kept.{Kept, Ties}
use Rattle.request_machine.proofs.Following.{not_taken_ties}
use Rattle.request_machine.proofs.machine.Machine.not_taken.Goals as goal

pub returns-clause-ties : goal.returns-clause-ties
returns-clause-ties c = λ s suited t.
    subst (λ (v : Kept). Ties s (record v { stage = Close c.refused_by-closing.result })) (sym (c.self.view_is ∙ c.push.ensures))
    (subst (λ r. Ties s (record c.args.self.now { past = Called (Take c.args.prompt.number) Cancelled ∷ c.args.self.now.past; stage = Close r })) (sym c.refused_by-closing.ensures)
    (not_taken_ties s c.args.self.now c.args.prompt c.requires.stage suited t))
