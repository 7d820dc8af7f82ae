use Rattle.trace_rows.proofs.DigestRows.{nonce_again_1_is_trace, nonce_again_1_is_heard, nonce_again_2_is_trace, nonce_again_2_is_heard}
use Rattle.trace_rows.proofs.traces.nonce_again.Goals as goal

pub returns : goal.returns
returns c = record { first = (nonce_again_1_is_trace, nonce_again_1_is_heard); second = (nonce_again_2_is_trace, nonce_again_2_is_heard) }
