-- The line that ends a trace.
use Rattle.report_reading.specs.Cuts.{lines}
use Rattle.auth_report.proofs.Tracing.{end_by}
use Rattle.auth_report.proofs.trace_front.read_trace.Goals as goal

pub returns-then-ended : goal.returns-then-ended
returns-then-ended c =
    end_by c.args.own.now c.args.request c.lines.events c.as_slice.result.now c.in-Some-2.event c.in_ok-event.field-0 c.push.new.self c.new.result c.ends-ended.result
    c.in-Some.line.now (lines c.lines.rest.now) (lines c.in-Some.left.now) (lines c.args.text.now)
    c.as_slice.ensures c.in-Some-2.is c.in_ok-event.ensures c.in_ok-push.ensures.ok c.new.ensures c.ends-ended.ensures c.if-ended.true c.lines.invariant.1 c.in-Some.ensures.lines c.lines.invariant.0
