use Rattle.trace_rows.proofs.DigestRows.{next_nonce_1_is_trace, next_nonce_1_is_heard, next_nonce_2_is_trace, next_nonce_2_is_heard}
use Rattle.trace_rows.proofs.traces.next_nonce.Goals as goal

pub returns : goal.returns
returns c = record { first = (next_nonce_1_is_trace, next_nonce_1_is_heard); second = (next_nonce_2_is_trace, next_nonce_2_is_heard) }
