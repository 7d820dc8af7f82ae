use Rattle.request_machine.proofs.Working.{spent_left}
use Rattle.request_machine.specs.Work.{work_left}
use Rattle.request_machine.specs.Kept.{Kept}
use Rattle.request_machine.specs.declared.stage.Stage.TheVariants.{Spent}
use Rattle.std.proofs.Common.{◌≤◌, sym, subst}
use Rattle.request_machine.proofs.machine.Machine.spend.Goals as goal

pub returns-clause-less : goal.returns-clause-less
returns-clause-less c = subst (λ (v : Kept). work_left (record v { stage = Spent }) ≤ work_left c.args.self.now) (sym c.self.view_is) (spent_left c.args.self.now)
