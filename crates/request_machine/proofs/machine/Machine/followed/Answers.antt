use Rattle.std.proofs.Common.{sym, subst, ◌∙◌}
use Rattle.request_machine.specs.declared.stage.Stage.TheVariants.{Take as Taking}
use Rattle.request_machine.specs.Kept.{Kept, Ties}
use Rattle.request_machine.proofs.Following.{followed_ties}
use Rattle.request_machine.proofs.machine.Machine.followed.Goals as goal

pub returns-clause-ties : goal.returns-clause-ties
returns-clause-ties c = λ s suited t.
    subst (λ (v : Kept). Ties s (record v { stage = Taking (record { target = c.args.target; number = c.args.number; space = c.args.space; terms = c.args.terms }) })) (sym (c.self.view_is ∙ c.push.ensures))
    (followed_ties s c.args.self.now c.args.target c.args.space c.args.terms c.args.number c.requires.stage suited t)
