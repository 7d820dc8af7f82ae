use Rattle.wire_head.proofs.WithinLemmas.{ends_within, ends_at_end}
use Rattle.wire_head.proofs.laws.replies_end.Goals as goal

pub returns : goal.returns
returns c = record {
  within = ends_within;
  at_end = ends_at_end;
}
