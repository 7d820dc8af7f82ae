use Rattle.trace_rows.proofs.RoundsRows.{seventeen_rounds_1_is_trace, seventeen_rounds_1_is_heard}
use Rattle.trace_rows.proofs.traces.seventeen_rounds.Goals as goal

pub returns : goal.returns
returns c = (seventeen_rounds_1_is_trace, seventeen_rounds_1_is_heard)
