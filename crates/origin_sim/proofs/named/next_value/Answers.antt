use Rattle.std.proofs.Common.{arith}
use Rattle.origin_sim.proofs.NamedLemmas.{quoted_within}
use Rattle.origin_sim.proofs.named.next_value.Goals as goal

pub overflow_add-result : goal.overflow_add-result
overflow_add-result c =
    let within = quoted_within c.in-Some.rest.now (c.in-Ok.value, c.in-Ok.n) c.in-Ok.ensures in
    omega (arith, within, c.in-Some.ensures.fit)
