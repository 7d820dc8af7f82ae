use Rattle.trace_rows.proofs.DigestRows.{stale_nonce_1_is_trace, stale_nonce_1_is_heard}
use Rattle.trace_rows.proofs.traces.stale_nonce.Goals as goal

pub returns : goal.returns
returns c = (stale_nonce_1_is_trace, stale_nonce_1_is_heard)
