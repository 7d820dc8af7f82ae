use Rattle.trace_rows.proofs.BasicRows.{unsupported_1_is_trace, unsupported_1_is_heard, unsupported_2_is_trace, unsupported_2_is_heard, unsupported_3_is_trace, unsupported_3_is_heard}
use Rattle.trace_rows.proofs.traces.unsupported.Goals as goal

pub returns : goal.returns
returns c = record { first = (unsupported_1_is_trace, unsupported_1_is_heard); second = (unsupported_2_is_trace, unsupported_2_is_heard); third = (unsupported_3_is_trace, unsupported_3_is_heard) }
