use Rattle.std.proofs.Common.{sym, refl}
use Rattle.link_trait.proofs.LogLemmas.{placed_closed, names_closed}
use Rattle.link_trait.proofs.log.LinkLog.closed.Goals as goal

pub invariant_of-self : goal.invariant_of-self
invariant_of-self c =
    (c.self.invariant.0, rw c.close_link.ensures (placed_closed c.args.name c.self.inside.«open».items c.self.inside.dials c.self.inside.traffic c.self.invariant.1), c.self.invariant.2)

pub returns-clause-log : goal.returns-clause-log
returns-clause-log c = rw (c.close_link.ensures, names_closed, sym c.self.view_is) refl
