use Rattle.std.proofs.Common.{◌∷◌, None, sym, subst, ap, ◌∙◌}
use Rattle.spaces.specs.declared.site.Target.TheVariants.{Server, Proxy}
use Rattle.auth_events.specs.declared.journal.Call.TheVariants.{Preempt}
use Rattle.auth_runs.specs.declared.event.Event.TheVariants.{Called}
use Rattle.request_machine.specs.declared.stage.Stage.TheVariants.{Call as Calling}
use Rattle.request_machine.specs.Told.{held_first}
use Rattle.request_machine.specs.Kept.{Kept, Ties}
use Rattle.request_machine.proofs.Starting.{preempted_proxy_ties}
use Rattle.request_machine.proofs.machine.Machine.preempted_proxy.Goals as goal

pub returns-clause-ties : goal.returns-clause-ties
returns-clause-ties c = λ s suited t.
    subst (λ (v : Kept). Ties s (record v { stage = Calling (Preempt Server) }))
    (sym (c.self.view_is ∙ c.hold_proxy.ensures
    ∙ ap (λ (m : Kept). record m { proxy = c.held_first.result }) (c.take_proxy-before.ensures.rest ∙ ap (λ (m : Kept). record m { proxy = None }) c.push.ensures)
    ∙ ap (λ h. record c.args.self.now { past = Called (Preempt Proxy) c.args.reply ∷ c.args.self.now.past; proxy = h })
    (c.held_first.ensures ∙ ap (held_first c.args.reply) (c.take_proxy-before.ensures.value ∙ ap (λ (m : Kept). m.proxy) c.push.ensures))))
    (preempted_proxy_ties s c.args.self.now c.args.reply c.requires.stage suited t)
