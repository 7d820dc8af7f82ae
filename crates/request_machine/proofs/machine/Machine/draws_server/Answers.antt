use Rattle.std.proofs.Common.{◌≤◌, sym, subst}
use Rattle.spaces.specs.declared.site.Target.TheVariants.{Server}
use Rattle.request_machine.specs.declared.stage.Stage.TheVariants.{Draw}
use Rattle.request_machine.specs.Kept.{Kept, Ties}
use Rattle.request_machine.specs.Work.{work_left}
use Rattle.request_machine.proofs.Drawing.{draws_server_ties}
use Rattle.request_machine.proofs.Working.{draw_left}
use Rattle.request_machine.proofs.machine.Machine.draws_server.Goals as goal

pub returns-clause-ties : goal.returns-clause-ties
returns-clause-ties c = λ s t.
    subst (λ (v : Kept). Ties s (record v { stage = Draw Server c.args.nonce })) (sym c.self.view_is)
    (draws_server_ties s c.args.self.now c.args.nonce c.requires.stage c.requires.dialed c.requires.proxy c.requires.server c.requires.unbound c.requires.none c.requires.next t)

pub returns-clause-less : goal.returns-clause-less
returns-clause-less c =
    subst (λ (v : Kept). work_left (record v { stage = Draw Server c.args.nonce }) ≤ work_left c.args.self.now) (sym c.self.view_is)
    (draw_left c.args.self.now Server c.args.nonce c.requires.stage)
