use Rattle.std.proofs.Common.{true, sym, subst, ap, ◌∙◌}
use Rattle.spaces.specs.declared.site.Target.TheVariants.{Server, Proxy}
use Rattle.request_machine.specs.Replies.{challenged_told, stage_again}
use Rattle.request_machine.specs.Told.{held_rejected}
use Rattle.request_machine.specs.Kept.{Kept, Ties}
use Rattle.request_machine.proofs.Tokens.{none_ties}
use Rattle.request_machine.proofs.machine.Machine.stepped_none.Goals as goal

pub returns-clause-ties : goal.returns-clause-ties
returns-clause-ties c = λ s asking b t.
    subst (λ (v : Kept). Ties s (record v { has_none = true }))
    (sym (c.self.view_is ∙ c.choose_again.ensures.same
    ∙ ap (λ (v : Kept). record v { stage = stage_again (challenged_told v.is_proxied v.code) }) (c.drop_held.ensures
    ∙ ap (λ (m : Kept). record m { proxy = held_rejected c.args.target Proxy m.proxy; server = held_rejected c.args.target Server m.server }) c.push.ensures)))
    (none_ties s c.args.self.now c.args.target asking b c.requires.some c.requires.free t)
