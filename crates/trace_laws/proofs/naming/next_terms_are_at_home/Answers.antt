use Rattle.trace_laws.proofs.HeldTerms.{next_home}
use Rattle.trace_laws.proofs.naming.next_terms_are_at_home.Goals as goal

pub returns : goal.returns
returns c = next_home
