use Rattle.std.proofs.Common.{sym, subst, ◌∙◌}
use Rattle.request_machine.specs.declared.stage.Stage.TheVariants.{End}
use Rattle.request_machine.specs.Kept.{Kept, Ties}
use Rattle.request_machine.proofs.Ending.{ended_ties}
use Rattle.request_machine.proofs.machine.Machine.ended.Goals as goal

pub returns-clause-ties : goal.returns-clause-ties
returns-clause-ties c = λ s suited t.
    subst (λ (v : Kept). Ties s (record v { stage = End c.args.closing.outcome })) (sym (c.self.view_is ∙ c.push.ensures))
    (ended_ties s c.args.self.now c.args.closing c.args.reply c.requires.stage c.requires.left suited t)
