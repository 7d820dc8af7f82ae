-- There are few names.
use Rattle.std.proofs.Common.{arith}
use Rattle.auth_events.proofs.Numbers.{within_more}
use Rattle.auth_events.proofs.names.Names.nonce_number.Goals as goal

pub number_at-requires : goal.number_at-requires
number_at-requires c =
    let few = c.self.invariant.1.nonces in
    within_more c.position_of_nonce.result _ 131072 (omega arith) c.position_of_nonce.ensures.within
