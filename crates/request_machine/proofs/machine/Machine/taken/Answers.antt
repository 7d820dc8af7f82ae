use Rattle.std.proofs.Common.{sym, subst, ap, ◌∙◌}
use Rattle.spaces.specs.declared.site.Target.TheVariants.{Server, Proxy}
use Rattle.request_machine.specs.declared.stage.Stage.TheVariants.{Go}
use Rattle.request_machine.specs.Told.{held_chosen}
use Rattle.request_machine.specs.Kept.{Kept, Ties}
use Rattle.request_machine.proofs.Following.{taken_ties}
use Rattle.request_machine.proofs.machine.Machine.taken.Goals as goal

pub returns-clause-ties : goal.returns-clause-ties
returns-clause-ties c = λ s suited t.
    subst (λ (v : Kept). Ties s (record v { stage = Go }))
    (sym (c.self.view_is ∙ c.hold.ensures
    ∙ ap (λ (m : Kept). record m { proxy = held_chosen c.args.prompt.target c.args.gift c.args.prompt.terms Proxy m.proxy; server = held_chosen c.args.prompt.target c.args.gift c.args.prompt.terms Server m.server }) c.push.ensures))
    (taken_ties s c.args.self.now c.args.prompt c.args.gift c.requires.stage suited t)
