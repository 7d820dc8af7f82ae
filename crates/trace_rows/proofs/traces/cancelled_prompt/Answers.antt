use Rattle.trace_rows.proofs.SharedRows.{cancelled_prompt_1_is_trace, cancelled_prompt_1_is_heard, cancelled_prompt_2_is_trace, cancelled_prompt_2_is_heard, cancelled_prompt_3_is_trace, cancelled_prompt_3_is_heard}
use Rattle.trace_rows.proofs.traces.cancelled_prompt.Goals as goal

pub returns : goal.returns
returns c = record { first = (cancelled_prompt_1_is_trace, cancelled_prompt_1_is_heard); second = (cancelled_prompt_2_is_trace, cancelled_prompt_2_is_heard); third = (cancelled_prompt_3_is_trace, cancelled_prompt_3_is_heard) }
