use Rattle.std.proofs.Common.{arith}
use Rattle.report_reading.proofs.ColonLemmas.{colon_found, colon_passed}
use Rattle.report_reading.proofs.values.last_colon.Goals as goal

pub loop-n-preserved : goal.loop-n-preserved
loop-n-preserved c =
    (colon_passed c.args.bytes.now c.loop-n.n c.loop-n-test.true c.loop-n.invariant.1 c.if-bytes-n-eq58.false c.loop-n.invariant.0, omega arith)

pub returns-then-bytes-n-eq58-clause-value : goal.returns-then-bytes-n-eq58-clause-value
returns-then-bytes-n-eq58-clause-value c =
    colon_found c.args.bytes.now c.loop-n.n c.loop-n-test.true c.loop-n.invariant.1 c.if-bytes-n-eq58.true c.loop-n.invariant.0
