use Rattle.std.proofs.Common.{◌≡◌}
use Rattle.origin_sim.specs.Generated as spec
use Rattle.origin_sim.proofs.generator.requests.Given as goal

abbrev pub invariant-loop-i : goal.invariant-loop-i
invariant-loop-i l = l.requests ≡ spec.requests l.i
