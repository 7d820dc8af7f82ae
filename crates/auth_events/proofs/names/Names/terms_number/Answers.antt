-- There are few names.
use Rattle.std.proofs.Common.{arith}
use Rattle.auth_events.proofs.Numbers.{within_more}
use Rattle.auth_events.proofs.names.Names.terms_number.Goals as goal

pub number_at-requires : goal.number_at-requires
number_at-requires c =
    let few = c.self.invariant.1.terms in
    within_more c.position_of_terms.result _ 131072 (omega arith) c.position_of_terms.ensures.within
