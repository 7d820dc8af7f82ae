use Rattle.request_machine.proofs.Working.{behind_left, behind_free}
use Rattle.request_machine.specs.Work.{work_left, is_waiting}
use Rattle.std.proofs.Common.{IsTrue, refl, subst, sym, ◌<◌, ◌≡◌, ◌≤◌, false}
use Rattle.request_machine.specs.Kept.{Kept, Ties}
use Rattle.request_machine.proofs.NextNonces.{not_renewed_ties}
use Rattle.request_machine.specs.Turns.{turns_left}
use Rattle.request_machine.specs.Linked.{way, goes_on}
use Rattle.request_machine.proofs.Driving.{behind_ends, behind_nearer}
use Rattle.request_machine.proofs.machine.Machine.not_renewed.Goals as goal

pub returns-clause-ties : goal.returns-clause-ties
returns-clause-ties c = λ s t.
    subst (λ (v : Kept). Ties s (record v { stage = c.stage_behind-self-inside.result })) (sym c.self.view_is)
    (subst (λ r. Ties s (record c.args.self.now { stage = r })) (sym c.stage_behind-self-inside.ensures)
    (not_renewed_ties s c.args.self.now c.args.target c.args.closing c.requires.stage c.requires.none t))

pub returns-clause-goes : goal.returns-clause-goes
returns-clause-goes c =
    subst (λ st. IsTrue (goes_on (way c.args.self.now.stage) (way st))) (sym c.stage_behind-self-inside.ensures) (behind_ends (way c.args.self.now.stage) c.args.target c.args.closing)

pub returns-clause-nearer : goal.returns-clause-nearer
returns-clause-nearer c =
    subst (λ (v : Kept). turns_left (record v { stage = c.stage_behind-self-inside.result }) < turns_left c.args.self.now) (sym c.self.view_is)
    (behind_nearer c.args.self.now (record c.args.self.now { stage = c.stage_behind-self-inside.result }) c.args.target c.args.closing refl c.stage_behind-self-inside.ensures c.requires.stage)

pub returns-clause-less : goal.returns-clause-less
returns-clause-less c =
    subst (λ (v : Kept). work_left (record v { stage = c.stage_behind-self-inside.result }) ≤ work_left c.args.self.now) (sym c.self.view_is)
    (subst (λ r. work_left (record c.args.self.now { stage = r }) ≤ work_left c.args.self.now) (sym c.stage_behind-self-inside.ensures)
    (behind_left c.args.self.now c.args.target c.args.closing c.requires.stage))

pub returns-clause-free : goal.returns-clause-free
returns-clause-free c = subst (λ st. is_waiting st ≡ false) (sym c.stage_behind-self-inside.ensures) (behind_free c.args.target c.args.closing)
