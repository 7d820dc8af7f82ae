use Rattle.trace_rows.proofs.SharedRows.{shared_answer_1_is_trace, shared_answer_1_is_heard, shared_answer_2_is_trace, shared_answer_2_is_heard, shared_answer_3_is_trace, shared_answer_3_is_heard}
use Rattle.trace_rows.proofs.traces.shared_answer.Goals as goal

pub returns : goal.returns
returns c = record { first = (shared_answer_1_is_trace, shared_answer_1_is_heard); second = (shared_answer_2_is_trace, shared_answer_2_is_heard); third = (shared_answer_3_is_trace, shared_answer_3_is_heard) }
