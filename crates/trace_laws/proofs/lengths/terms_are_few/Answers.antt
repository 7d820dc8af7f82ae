use Rattle.trace_laws.proofs.Renewals.{few_named}
use Rattle.trace_laws.proofs.lengths.terms_are_few.Goals as goal

pub returns : goal.returns
returns c = few_named
