use Rattle.report_laws.specs.Ranges.{EventHolds}
use Rattle.report_laws.proofs.EachLemmas.{each_more, each_all}
use Rattle.report_laws.proofs.run_holds.keeps_events.Goals as goal

pub loop-it-preserved : goal.loop-it-preserved
loop-it-preserved c =
    each_more EventHolds c.args.all.now c.loop-it.it-index c.it-item.result c.it-item.result c.loop-it-test.true c.it-item.is c.loop-it.invariant
    c.keeps_event.ensures

pub returns : goal.returns
returns c = each_all EventHolds c.args.all.now c.loop-it.it-index c.loop-it-test.false c.loop-it.invariant
