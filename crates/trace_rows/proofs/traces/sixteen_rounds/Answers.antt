use Rattle.trace_rows.proofs.RoundsRows.{sixteen_rounds_1_is_trace, sixteen_rounds_1_is_heard}
use Rattle.trace_rows.proofs.traces.sixteen_rounds.Goals as goal

pub returns : goal.returns
returns c = (sixteen_rounds_1_is_trace, sixteen_rounds_1_is_heard)
