use Rattle.request_machine.proofs.Working.{resume_left}
use Rattle.request_machine.specs.Work.{work_left}
use Rattle.request_machine.specs.Kept.{Kept}
use Rattle.request_machine.specs.declared.stage.Stage.TheVariants.{Go}
use Rattle.std.proofs.Common.{◌≤◌, sym, subst}
use Rattle.request_machine.proofs.machine.Machine.resume.Goals as goal

pub returns-clause-less : goal.returns-clause-less
returns-clause-less c = subst (λ (v : Kept). work_left (record v { stage = Go }) ≤ work_left c.args.self.now) (sym c.self.view_is) (resume_left c.args.self.now c.args.target c.args.piece c.requires.stage)
