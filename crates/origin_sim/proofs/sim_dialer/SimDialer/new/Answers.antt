use Rattle.std.proofs.Common.{refl, arith}
use Rattle.origin_sim.proofs.ServingLemmas.{serving_none}
use Rattle.origin_sim.proofs.sim_dialer.SimDialer.new.Goals as goal

pub invariant_of-result : goal.invariant_of-result
invariant_of-result c = record {
  begun = omega (arith, c.said.ensures);
  dialed = rw c.new.ensures refl;
  ended_last = rw c.new.ensures refl;
  serving = ∣ serving_none c.new.result c.args.world c.said.result c.new-2.result.items c.new.ensures c.said.ensures c.new-2.ensures.items ∣₁;
}
