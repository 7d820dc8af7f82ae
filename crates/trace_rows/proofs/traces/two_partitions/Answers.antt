use Rattle.trace_rows.proofs.BasicRows.{two_partitions_1_is_trace, two_partitions_1_is_heard, two_partitions_2_is_trace, two_partitions_2_is_heard}
use Rattle.trace_rows.proofs.traces.two_partitions.Goals as goal

pub returns : goal.returns
returns c = record { first = (two_partitions_1_is_trace, two_partitions_1_is_heard); second = (two_partitions_2_is_trace, two_partitions_2_is_heard) }
