use Rattle.std.proofs.Common.{◌∷◌, Some, None, sym, subst, ap, ◌∙◌, option_and_then}
use Rattle.spaces.specs.declared.site.Target.TheVariants.{Server}
use Rattle.auth_runs.specs.declared.event.Event.TheVariants.{Drew}
use Rattle.request_machine.specs.declared.stage.Stage.TheVariants.{Go}
use Rattle.request_machine.specs.Heads.{kept_drew}
use Rattle.request_machine.specs.Kept.{Kept, Ties}
use Rattle.request_machine.proofs.Drawing.{drew_server_ties}
use Rattle.request_machine.proofs.machine.Machine.drew_server.Goals as goal

pub returns-clause-ties : goal.returns-clause-ties
returns-clause-ties c = λ s t.
    subst (λ (v : Kept). Ties s (record v { stage = Go; drawn_server = Some c.args.drawn.count }))
    (sym (c.self.view_is ∙ c.hold_server.ensures
    ∙ ap (λ (m : Kept). record m { server = c.kept_drew.result }) (c.take_server-before.ensures.rest ∙ ap (λ (m : Kept). record m { server = None }) c.push.ensures)
    ∙ ap (λ h. record c.args.self.now { past = Drew Server c.args.nonce c.args.drawn.count c.args.drawn.epoch ∷ c.args.self.now.past; server = h })
    (c.kept_drew.ensures ∙ ap (option_and_then (kept_drew c.args.drawn.epoch)) (c.take_server-before.ensures.value ∙ ap (λ (m : Kept). m.server) c.push.ensures))))
    (drew_server_ties s c.args.self.now c.args.nonce c.args.drawn.count c.args.drawn.epoch c.requires.stage t)
