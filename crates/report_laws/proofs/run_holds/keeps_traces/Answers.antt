use Rattle.auth_runs.specs.Runs.{Each}
use Rattle.report_laws.specs.Ranges.{EventHolds}
use Rattle.report_laws.proofs.EachLemmas.{each_more, each_all}
use Rattle.report_laws.proofs.run_holds.keeps_traces.Goals as goal

pub loop-it-preserved : goal.loop-it-preserved
loop-it-preserved c =
    each_more (λ events. Each EventHolds events) c.args.all.now c.loop-it.it-index c.it-item.result c.it-item.result c.loop-it-test.true c.it-item.is c.loop-it.invariant
    c.keeps_trace.ensures

pub returns : goal.returns
returns c = each_all (λ events. Each EventHolds events) c.args.all.now c.loop-it.it-index c.loop-it-test.false c.loop-it.invariant
