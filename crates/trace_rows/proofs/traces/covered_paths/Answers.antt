use Rattle.trace_rows.proofs.BasicRows.{covered_paths_1_is_trace, covered_paths_1_is_heard, covered_paths_2_is_trace, covered_paths_2_is_heard, covered_paths_3_is_trace, covered_paths_3_is_heard, covered_paths_4_is_trace, covered_paths_4_is_heard}
use Rattle.trace_rows.proofs.traces.covered_paths.Goals as goal

pub returns : goal.returns
returns c = record { first = (covered_paths_1_is_trace, covered_paths_1_is_heard); second = (covered_paths_2_is_trace, covered_paths_2_is_heard); third = (covered_paths_3_is_trace, covered_paths_3_is_heard); fourth = (covered_paths_4_is_trace, covered_paths_4_is_heard) }
