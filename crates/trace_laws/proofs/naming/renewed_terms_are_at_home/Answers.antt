use Rattle.trace_laws.proofs.Offers.{renewed_home}
use Rattle.trace_laws.proofs.naming.renewed_terms_are_at_home.Goals as goal

pub returns : goal.returns
returns c = renewed_home
