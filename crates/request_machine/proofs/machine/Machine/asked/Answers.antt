use Rattle.request_machine.proofs.Working.{asked_free}
use Rattle.request_machine.specs.Work.{is_waiting}
use Rattle.std.proofs.Common.{◌≡◌, ◌∷◌, true, refl, sym, subst, ◌∙◌, false}
use Rattle.auth_runs.specs.declared.event.Event.TheVariants.{AskedFor}
use Rattle.request_machine.specs.Kept.{Kept, Ties}
use Rattle.request_machine.specs.Turns.{is_asking}
use Rattle.request_machine.proofs.Asking.{asked_ties, asked_asks}
use Rattle.request_machine.proofs.machine.Machine.asked.Goals as goal

pub returns-clause-ties : goal.returns-clause-ties
returns-clause-ties c = λ s t.
    subst (λ (v : Kept). Ties s (record v { stage = c.stage_asked-self-inside.result })) (sym (c.self.view_is ∙ c.push.ensures))
    (subst (λ r. Ties s (record c.args.self.now { past = AskedFor c.args.prompt.number c.args.given ∷ c.args.self.now.past; stage = r })) (sym c.stage_asked-self-inside.ensures)
    (asked_ties s c.args.self.now c.args.prompt c.args.ordinal c.args.given c.requires.stage c.requires.kept t))

pub returns-clause-asks : goal.returns-clause-asks
returns-clause-asks c =
    subst (λ (v : Kept). is_asking (record v { stage = c.stage_asked-self-inside.result }) ≡ true) (sym (c.self.view_is ∙ c.push.ensures))
    (asked_asks c.args.self.now (record c.args.self.now { past = AskedFor c.args.prompt.number c.args.given ∷ c.args.self.now.past; stage = c.stage_asked-self-inside.result }) c.args.prompt c.args.given
    c.stage_asked-self-inside.ensures refl c.requires.kept)

pub returns-clause-free : goal.returns-clause-free
returns-clause-free c = subst (λ st. is_waiting st ≡ false) (sym c.stage_asked-self-inside.ensures) (asked_free c.args.prompt c.args.given)
