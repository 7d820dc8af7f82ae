use Rattle.std.proofs.Common.{◌≡◌, true, sym, subst}
use Rattle.request_machine.specs.Linked.{way, is_ending}
use Rattle.request_machine.specs.Carried.{IsCarried}
use Rattle.request_machine.proofs.Carrying.{carried_settled}
use Rattle.request_machine.proofs.Driving.{driven_settled}
use Rattle.request_machine.proofs.machine.Machine.settle_link.Goals as goal

pub returns-then-is_ending-clause-driven : goal.returns-then-is_ending-clause-driven
returns-then-is_ending-clause-driven g c =
    let ends : is_ending (way c.args.self.now.stage) ≡ true = cc in
    driven_settled _ _ _ _ _ _ c.drop_link.ensures.same ends c.drop_link.ensures.opened c.drop_link.ensures.dials c.requires.links c.requires.told

pub returns-then-is_ending-clause-carried : goal.returns-then-is_ending-clause-carried
returns-then-is_ending-clause-carried g c = λ s streams before more it.
    subst (λ v. IsCarried s streams before v more) (sym c.drop_link.ensures.same) (carried_settled s streams before c.args.self.now more it)
