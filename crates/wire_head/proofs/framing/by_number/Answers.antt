use Rattle.std.proofs.Common.{◌≡◌, ◌+◌, ◌*◌, ◌<◌, true, Bool, cond, sym, refl, ap, arith, take, ℕ}
use Rattle.std.proofs.lemmas.List.{take_more}
use Rattle.std.specs.Prelude.{nat_lt}
use Rattle.std.specs.Str.Parse.{digits_value}
use Rattle.std.proofs.lemmas.Bool.Decides.{nat_tests}
use Rattle.wire_head.specs.declared.framing.Framing.TheVariants.{TooLong, Length}
use Rattle.wire_head.proofs.ChunkLemmas.{digits_push}
use Rattle.wire_head.proofs.NumberLemmas.{over}
use Rattle.wire_head.proofs.framing.by_number.Goals as goal

too_long : (n : ℕ) → 1048576 < n → TooLong ≡ cond (nat_lt 1048576 n) TooLong (Length n)
too_long n above =
    let test : nat_lt 1048576 n ≡ true = grind (arith, nat_tests) in
    sym (ap (λ (t : Bool). cond t TooLong (Length n)) test)

pub returns-then-number-gt1048576 : goal.returns-then-number-gt1048576
returns-then-number-gt1048576 c =
    let next : c.loop-digit.number * 10 + c.digit_of.result ≡ digits_value 10 (take (c.loop-digit.digit-index + 1) c.args.digits.now) =
    rw (take_more c.args.digits.now c.loop-digit.digit-index 0 c.loop-digit-test.true, digits_push, ← c.loop-digit.invariant.0, ← c.digit_of.ensures.value) refl in
    too_long (digits_value 10 c.args.digits.now)
    (over 1048576 (c.loop-digit.digit-index + 1) c.args.digits.now (rw (← next) c.if-number-gt1048576.true))

pub loop-digit-preserved : goal.loop-digit-preserved
loop-digit-preserved c = (
  rw (take_more c.args.digits.now c.loop-digit.digit-index 0 c.loop-digit-test.true, digits_push, ← c.loop-digit.invariant.0, ← c.digit_of.ensures.value) refl,
  omega arith,
)
