use Rattle.report_laws.specs.Ranges.{OriginHolds}
use Rattle.report_laws.proofs.EachLemmas.{each_more, each_all}
use Rattle.report_laws.proofs.run_holds.keeps_origins.Goals as goal

pub loop-it-preserved : goal.loop-it-preserved
loop-it-preserved c =
    each_more OriginHolds c.args.all.now c.loop-it.it-index c.it-item.result c.it-item.result c.loop-it-test.true c.it-item.is c.loop-it.invariant
    c.keeps_origin.ensures

pub returns : goal.returns
returns c = each_all OriginHolds c.args.all.now c.loop-it.it-index c.loop-it-test.false c.loop-it.invariant
