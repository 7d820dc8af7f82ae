use Rattle.std.proofs.Common.{◌≡◌, arith}
use Rattle.std.specs.BTreeMap.Entry.{map_with_value}
use Rattle.std.proofs.lemmas.Grind.{common_steps}
use Rattle.link_trait.specs.Index.{runs_at}
use Rattle.link_trait.proofs.IndexLemmas.{run_added}
use Rattle.link_trait.proofs.table.add_at.Goals as goal

pub returns : goal.returns
returns c =
    let had : c.or_insert-runs.result.now ≡ runs_at c.args.index.now c.args.key = grind arith in
    let added = run_added c.add_run.result c.args.index.now (map_with_value c.in_ok-index.field-0 c.add_run.new.runs) c.args.key c.args.place c.args.count
    c.or_insert-runs.result.now c.add_run.new.runs had (c.in_ok-index.ensures.update.0 c.add_run.new.runs) c.add_run.ensures in
    grind (arith, common_steps, added)
