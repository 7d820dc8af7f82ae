-- The number that was found is the space's.
use Rattle.std.proofs.Common.{sym, ◌∙◌}
use Rattle.auth_events.proofs.Naming.{named_space}
use Rattle.auth_events.proofs.ledger.Ledger.space_no.Goals as goal

pub returns-in-Some-clause-number : goal.returns-in-Some-clause-number
returns-in-Some-clause-number c = named_space c.args.self.now.names c.args.space.now c.in-Some.number (sym c.space_number.ensures ∙ c.in-Some.is)
