use Rattle.wire_head.proofs.UsedLemmas.{outcome_stays}
use Rattle.wire_head.proofs.laws.outcomes.Goals as goal

pub returns : goal.returns
returns c = record { stay = outcome_stays }
