use Rattle.connection_binding.specs.LinkStates.{new_link}
use Rattle.connection_binding.proofs.PieceLemmas.{nothing_read}
use Rattle.connection_binding.proofs.free.FreeLink.read.Goals as goal

pub returns-in_default-clause-reply : goal.returns-in_default-clause-reply
returns-in_default-clause-reply g c = (nothing_read (new_link c.args.self.now) c.args.method (g.D.Dialer.streams c.args.dialer.now) (g.D.Dialer.traffic c.args.dialer.now)).0
