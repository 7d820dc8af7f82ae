-- One trace after another.
use Rattle.std.proofs.Common.{◌≡◌, ℕ, ◌+◌, ◌-◌, ◌<◌, ◌++◌, ◌∷◌, [], List, length, sym, ap, ◌∙◌, arith, length-append}
use Rattle.report_reading.specs.Cuts.{lines}
use Rattle.auth_runs.specs.declared.event.Event.{Event}
use Rattle.auth_report.specs.Reading.{traces_front}
use Rattle.auth_report.proofs.Tracing.{stop_by, more_by}
use Rattle.auth_report.proofs.trace_front.read_traces.Goals as goal

pub returns-in_default : goal.returns-in_default
returns-in_default c =
    sym c.loop-i.invariant.0
    ∙ stop_by c.args.book.now.entries c.args.requests c.loop-i.i c.loop-i.traces (lines c.loop-i.rest.now) (lines c.in_ok-trace.left.now) c.own.result.now c.in_ok-trace.trace
    c.own.ensures c.in_default.is (omega (arith, c.loop-i-test.true)) c.loop-i.invariant.1 c.in_ok-trace.ensures

pub loop-i-preserved : goal.loop-i-preserved
loop-i-preserved c =
    let pushed : c.push.new.self ≡ c.loop-i.traces ++ c.in-Some.trace ∷ [] = c.in_ok-push.ensures.ok in
    let more = more_by c.args.book.now.entries c.args.requests c.loop-i.i c.loop-i.traces c.in-Some.trace (lines c.loop-i.rest.now) (lines c.in_ok-trace.left.now) c.own.result.now c.in_ok-trace.trace
    c.own.ensures c.in-Some.is (omega (arith, c.loop-i-test.true)) c.loop-i.invariant.1 c.in_ok-trace.ensures in (
      ap (λ (ts : List (List Event)). traces_front c.args.book.now.entries (c.args.requests - (c.loop-i.i + 1)) ts (lines c.in_ok-trace.left.now)) pushed ∙ sym more ∙ c.loop-i.invariant.0,
      omega (arith, ap length pushed, length-append c.loop-i.traces (c.in-Some.trace ∷ []), c.loop-i.invariant.1),
    )
