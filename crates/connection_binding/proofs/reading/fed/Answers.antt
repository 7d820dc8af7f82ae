use Rattle.std.proofs.Common.{ℕ, List, ◌++◌, subst}
use Rattle.wire_head.specs.Feeding.{IsFed}
use Rattle.connection_binding.proofs.reading.fed.Goals as goal

pub returns-clause-fed : goal.returns-clause-fed
returns-clause-fed c method text fed none =
    subst (λ (bytes : List ℕ). IsFed c.answered-end.new.reader method (text ++ bytes)) c.bytes.ensures.value (c.answered-end.ensures.fed method text fed none)
