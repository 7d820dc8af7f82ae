use Rattle.trace_rows.proofs.NegotiateRows.{link_lost_twice_1_is_trace, link_lost_twice_1_is_heard}
use Rattle.trace_rows.proofs.traces.link_lost_twice.Goals as goal

pub returns : goal.returns
returns c = (link_lost_twice_1_is_trace, link_lost_twice_1_is_heard)
