use Rattle.trace_laws.proofs.Readings.{drawn_known}
use Rattle.trace_laws.proofs.naming.drawn_nonces_are_known.Goals as goal

pub returns : goal.returns
returns c = drawn_known
