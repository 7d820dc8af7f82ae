use Rattle.std.proofs.Common.{leb, leb-true, leb-false, rules}
use Rattle.std.proofs.lemmas.List.Sorted.{IsPartitionPoint-from_clause, IsPartitionedBy-leb}
use Rattle.link_trait.proofs.table.first_behind.Goals as goal

pub returns-clause-parted : goal.returns-clause-parted
returns-clause-parted c =
    let parted = IsPartitionedBy-leb (λ run. run.end) _ c.args.at c.requires in
    let point = IsPartitionPoint-from_clause (λ run. leb run.end c.args.at) _ _ c.partition_point.ensures.partitioned parted (λ a r q k. search rules) in
    (λ k d low h. leb-true _ _ (point.0 k d low h), λ k d low h. leb-false _ _ (point.1 k d low h))
