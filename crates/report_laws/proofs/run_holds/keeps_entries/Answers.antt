use Rattle.std.proofs.Common.{refl}
use Rattle.report_laws.specs.Ranges.{EntryHolds}
use Rattle.report_laws.proofs.EachLemmas.{each_more, each_all}
use Rattle.report_laws.proofs.run_holds.keeps_entries.Goals as goal

pub loop-it-preserved : goal.loop-it-preserved
loop-it-preserved c = each_more EntryHolds c.args.all.now c.loop-it.it-index _ _ c.loop-it-test.true refl c.loop-it.invariant c.keeps_entry.ensures

pub returns : goal.returns
returns c = each_all EntryHolds c.args.all.now c.loop-it.it-index c.loop-it-test.false c.loop-it.invariant
