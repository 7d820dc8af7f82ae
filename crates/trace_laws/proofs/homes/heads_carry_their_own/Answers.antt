use Rattle.trace_laws.proofs.OwnHeads.{own_traces}
use Rattle.trace_laws.proofs.homes.heads_carry_their_own.Goals as goal

pub returns : goal.returns
returns c = λ negotiate roster seed names entries r request events legal in_roster same trace.
    own_traces negotiate roster seed names entries r request in_roster events legal same trace
