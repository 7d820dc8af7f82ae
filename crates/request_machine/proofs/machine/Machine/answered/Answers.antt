use Rattle.request_machine.proofs.Working.{answered_free}
use Rattle.request_machine.specs.Work.{is_waiting}
use Rattle.std.proofs.Common.{◌∷◌, sym, subst, ap, ◌∙◌, ◌≡◌, false}
use Rattle.auth_runs.specs.declared.event.Event.TheVariants.{Replied}
use Rattle.auth_runs.specs.declared.event.Outcome.TheVariants.{Answered}
use Rattle.request_machine.specs.Renewals.{stage_answered}
use Rattle.request_machine.specs.Kept.{Kept, Ties}
use Rattle.request_machine.proofs.Ending.{answered_ties}
use Rattle.request_machine.proofs.machine.Machine.answered.Goals as goal

pub returns-clause-ties : goal.returns-clause-ties
returns-clause-ties c = λ s none t.
    let view = c.self.view_is ∙ c.push.ensures in
    subst (λ (v : Kept). Ties s (record v { code = c.args.reply.code; stays = c.args.reply.stays; stage = c.stage_answered-self-inside.result })) (sym view)
    (subst (λ r. Ties s (record c.args.self.now { past = Replied c.args.link c.args.reply ∷ c.args.self.now.past; code = c.args.reply.code; stays = c.args.reply.stays; stage = r }))
    (sym (c.stage_answered-self-inside.ensures ∙ ap (λ (v : Kept). stage_answered v.rounds (record { outcome = Answered c.args.reply.code; proxy = v.noted_proxy; server = v.noted_server })) view))
    (answered_ties s c.args.self.now c.args.link c.args.reply c.requires.stage none c.requires.reply t))

pub returns-clause-free : goal.returns-clause-free
returns-clause-free c = subst (λ st. is_waiting st ≡ false) (sym c.stage_answered-self-inside.ensures) (answered_free _ _)
