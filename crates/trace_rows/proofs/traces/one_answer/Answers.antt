use Rattle.trace_rows.proofs.BasicRows.{one_answer_1_is_trace, one_answer_1_is_heard}
use Rattle.trace_rows.proofs.traces.one_answer.Goals as goal

pub returns : goal.returns
returns c = (one_answer_1_is_trace, one_answer_1_is_heard)
