use Rattle.trace_rows.proofs.BasicRows.{two_targets_1_is_trace, two_targets_1_is_heard}
use Rattle.trace_rows.proofs.traces.two_targets.Goals as goal

pub returns : goal.returns
returns c = (two_targets_1_is_trace, two_targets_1_is_heard)
