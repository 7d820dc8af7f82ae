use Rattle.trace_rows.proofs.NegotiateRows.{three_tokens_1_is_trace, three_tokens_1_is_heard}
use Rattle.trace_rows.proofs.traces.three_tokens.Goals as goal

pub returns : goal.returns
returns c = (three_tokens_1_is_trace, three_tokens_1_is_heard)
