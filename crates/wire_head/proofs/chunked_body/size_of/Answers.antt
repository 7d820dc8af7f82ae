use Rattle.std.proofs.Common.{arith, refl}
use Rattle.std.proofs.lemmas.List.{take_more}
use Rattle.wire_head.proofs.ChunkLemmas.{size_below, size_more, digits_push}
use Rattle.wire_head.proofs.chunked_body.size_of.Goals as goal

pub overflow_mul-size : goal.overflow_mul-size
overflow_mul-size c = omega (arith, size_below c.loop-digit.digit-index c.loop-digit.size (omega arith) c.loop-digit.invariant.1)

pub overflow_add-size : goal.overflow_add-size
overflow_add-size c = omega (arith, size_below c.loop-digit.digit-index c.loop-digit.size (omega arith) c.loop-digit.invariant.1)

pub loop-digit-preserved : goal.loop-digit-preserved
loop-digit-preserved c = (
  rw (take_more c.args.digits.now c.loop-digit.digit-index 0 c.loop-digit-test.true, digits_push, ← c.loop-digit.invariant.0, ← c.digit_of.ensures.value) refl,
  size_more c.loop-digit.digit-index c.loop-digit.size c.digit_of.result c.loop-digit.invariant.1 c.digit_of.ensures.small,
)
