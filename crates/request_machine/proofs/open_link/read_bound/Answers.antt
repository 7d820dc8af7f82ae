use Rattle.std.proofs.Common.{List, Option, sym, subst}
use Rattle.link_trait.specs.declared.dialer.Traffic.{Traffic}
use Rattle.connection_binding.specs.LinkStates.{LinkState, new_link}
use Rattle.connection_binding.specs.Readings.{IsNextRead}
use Rattle.request_machine.proofs.open_link.read_bound.Goals as goal

pub returns-clause-reply : goal.returns-clause-reply
returns-clause-reply g c =
    subst (λ (told : Option (List Traffic)). IsNextRead (new_link c.args.link.name) c.args.method (g.D.Dialer.streams c.args.dialer.now) (g.D.Dialer.traffic c.args.dialer.now) told c.read-end.result) (sym c.spend.ensures.traffic)
    (subst (λ (st : LinkState). IsNextRead st c.args.method (g.D.Dialer.streams c.args.dialer.now) (g.D.Dialer.traffic c.args.dialer.now) (g.D.Dialer.traffic c.read-end.new.dialer) c.read-end.result) c.requires.fresh c.read-end.ensures.reply.0)
