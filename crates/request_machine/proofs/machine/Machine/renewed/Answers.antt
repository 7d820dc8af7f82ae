use Rattle.std.proofs.Common.{sym, subst, ap, ◌∙◌}
use Rattle.spaces.specs.declared.site.Target.TheVariants.{Server, Proxy}
use Rattle.request_machine.specs.declared.stage.Stage.TheVariants.{Go}
use Rattle.request_machine.specs.Told.{held_chosen}
use Rattle.request_machine.specs.Kept.{Kept, Ties}
use Rattle.request_machine.proofs.Renewing.{renewed_ties}
use Rattle.request_machine.proofs.machine.Machine.renewed.Goals as goal

pub returns-clause-ties : goal.returns-clause-ties
returns-clause-ties c = λ s suited t.
    subst (λ (v : Kept). Ties s (record v { stage = Go }))
    (sym (c.self.view_is ∙ c.hold.ensures
    ∙ ap (λ (m : Kept). record m { proxy = held_chosen c.args.target c.args.gift c.args.terms Proxy m.proxy; server = held_chosen c.args.target c.args.gift c.args.terms Server m.server }) c.push.ensures))
    (renewed_ties s c.args.self.now c.args.target c.args.gift c.args.terms c.args.reply c.requires.stage suited t)
