use Rattle.request_machine.proofs.Working.{stage_left}
use Rattle.request_machine.specs.Work.{work_left}
use Rattle.std.proofs.Common.{sym, subst, ap, ◌∙◌, ◌≤◌, arith}
use Rattle.spaces.specs.declared.site.Target.TheVariants.{Server, Proxy}
use Rattle.auth_runs.specs.declared.event.Outcome.TheVariants.{Refused}
use Rattle.auth_runs.specs.declared.event.Why.TheVariants.{NoChallenge}
use Rattle.request_machine.specs.declared.stage.Stage.TheVariants.{Close, Choose}
use Rattle.request_machine.specs.Told.{unless_it}
use Rattle.request_machine.specs.Kept.{Kept, Ties}
use Rattle.request_machine.proofs.Picking.{refuses_ties}
use Rattle.request_machine.proofs.machine.Machine.refuse.Goals as goal

pub returns-clause-ties : goal.returns-clause-ties
returns-clause-ties c = λ s t.
    subst (λ (v : Kept). Ties s (record v { stage = Close (record { outcome = Refused v.code NoChallenge; proxy = c.unless_it.result; server = c.unless_it-2.result }) })) (sym c.self.view_is)
    (subst (λ g. Ties s (record c.args.self.now { stage = Close (record { outcome = Refused c.args.self.now.code NoChallenge; proxy = g; server = c.unless_it-2.result }) }))
    (sym (c.unless_it.ensures ∙ ap (λ (v : Kept). unless_it c.args.target Proxy v.noted_proxy) c.self.view_is))
    (subst (λ g. Ties s (record c.args.self.now { stage = Close (record { outcome = Refused c.args.self.now.code NoChallenge; proxy = unless_it c.args.target Proxy c.args.self.now.noted_proxy; server = g }) }))
    (sym (c.unless_it-2.ensures ∙ ap (λ (v : Kept). unless_it c.args.target Server v.noted_server) c.self.view_is))
    (refuses_ties s c.args.self.now c.args.target c.requires.stage c.requires.none t)))

pub returns-clause-less : goal.returns-clause-less
returns-clause-less c =
    subst (λ (v : Kept). work_left (record v { stage = Close (record { outcome = Refused v.code NoChallenge; proxy = c.unless_it.result; server = c.unless_it-2.result }) }) ≤ work_left c.args.self.now) (sym c.self.view_is)
    (stage_left c.args.self.now (Choose c.args.target) (Close (record { outcome = Refused c.args.self.now.code NoChallenge; proxy = c.unless_it.result; server = c.unless_it-2.result })) c.requires.stage (omega arith))
