use Rattle.trace_rows.proofs.SharedRows.{lost_prompt_1_is_trace, lost_prompt_1_is_heard, lost_prompt_2_is_trace, lost_prompt_2_is_heard, lost_prompt_3_is_trace, lost_prompt_3_is_heard}
use Rattle.trace_rows.proofs.traces.lost_prompt.Goals as goal

pub returns : goal.returns
returns c = record { first = (lost_prompt_1_is_trace, lost_prompt_1_is_heard); second = (lost_prompt_2_is_trace, lost_prompt_2_is_heard); third = (lost_prompt_3_is_trace, lost_prompt_3_is_heard) }
