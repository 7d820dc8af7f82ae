use Rattle.trace_laws.proofs.Hearing.{determined}
use Rattle.trace_laws.proofs.sources.traces_are_determined_by_streams.Goals as goal

pub returns : goal.returns
returns c = λ s a b streams tapes p q unspent_a unspent_b heard_a heard_b told_a told_b.
    determined s streams a b tapes p q unspent_a unspent_b heard_a heard_b told_a told_b
