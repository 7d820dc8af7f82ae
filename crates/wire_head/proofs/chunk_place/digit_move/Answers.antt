use Rattle.std.proofs.Common.{arith}
use Rattle.wire_head.proofs.RunLemmas.{value_small}
use Rattle.wire_head.proofs.chunk_place.digit_move.Goals as goal

pub overflow_mul-value : goal.overflow_mul-value
overflow_mul-value c = omega (arith, value_small c.args.count c.args.value c.requires.few c.requires.small)

pub overflow_add-value : goal.overflow_add-value
overflow_add-value c =
    omega (arith, value_small c.args.count c.args.value c.requires.few c.requires.small, c.digit_of.ensures.small)
