use Rattle.trace_laws.proofs.Offers.{offered_home}
use Rattle.trace_laws.proofs.naming.offered_terms_are_at_home.Goals as goal

pub returns : goal.returns
returns c = offered_home
