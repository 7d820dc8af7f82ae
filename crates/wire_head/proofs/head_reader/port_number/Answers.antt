use Rattle.std.proofs.Common.{◌≡◌, ◌+◌, ◌*◌, ◌<◌, true, Bool, cond, Option, Some, None, sym, refl, ap, arith, take, ℕ}
use Rattle.std.proofs.lemmas.List.{take_more}
use Rattle.std.specs.Prelude.{nat_lt}
use Rattle.std.specs.Str.Parse.{digits_value}
use Rattle.std.proofs.lemmas.Bool.Decides.{nat_tests}
use Rattle.wire_head.proofs.ChunkLemmas.{digits_push}
use Rattle.wire_head.proofs.NumberLemmas.{over}
use Rattle.wire_head.proofs.head_reader.port_number.Goals as goal

too_great : (n : ℕ) → 65535 < n → ◌≡◌ {A = Option ℕ} None (cond (nat_lt 65535 n) None (Some n))
too_great n above =
    let test : nat_lt 65535 n ≡ true = grind (arith, nat_tests) in
    sym (ap (λ (t : Bool). cond t None (Some n)) test)

pub returns-then-number-gt65535 : goal.returns-then-number-gt65535
returns-then-number-gt65535 c =
    let next : c.loop-digit.number * 10 + c.digit_of.result ≡ digits_value 10 (take (c.loop-digit.digit-index + 1) c.args.digits.now) =
    rw (take_more c.args.digits.now c.loop-digit.digit-index 0 c.loop-digit-test.true, digits_push, ← c.loop-digit.invariant.0, ← c.digit_of.ensures.value) refl in
    too_great (digits_value 10 c.args.digits.now)
    (over 65535 (c.loop-digit.digit-index + 1) c.args.digits.now (rw (← next) c.if-number-gt65535.true))

pub loop-digit-preserved : goal.loop-digit-preserved
loop-digit-preserved c = (
  rw (take_more c.args.digits.now c.loop-digit.digit-index 0 c.loop-digit-test.true, digits_push, ← c.loop-digit.invariant.0, ← c.digit_of.ensures.value) refl,
  omega arith,
)
