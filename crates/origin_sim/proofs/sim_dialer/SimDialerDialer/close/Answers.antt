use Rattle.std.proofs.Common.{List, sym, subst}
use Rattle.std.proofs.Math.Logic.{∥∥₁_map}
use Rattle.link_trait.specs.Recorded.{LogState}
use Rattle.origin_sim.specs.Worlds.{since}
use Rattle.origin_sim.specs.Peers.{IsServing}
use Rattle.origin_sim.specs.declared.peers.Peer.{Peer}
use Rattle.origin_sim.proofs.PeerLemmas.{without}
use Rattle.origin_sim.proofs.ServingLemmas.{serving_closed}
use Rattle.origin_sim.proofs.sim_dialer.SimDialerDialer.close.Goals as goal

pub invariant_of-self : goal.invariant_of-self
invariant_of-self c =
    let it = c.args.self.now in
    let start = since it.before it.world in
    record {
      begun = it.begun;
      dialed = c.closed.ensures.kept.dialed;
      ended_last = c.closed.ensures.kept.ended_last;
      serving = ∥∥₁_map it.serving (λ was.
          subst (λ (ps : List Peer). IsServing start c.closed.new.self it.world ps) (sym c.close_peer.ensures)
          (subst (λ (log : LogState). IsServing start log it.world (without c.args.name it.peers.items)) (sym c.closed.ensures.log)
          (serving_closed start it.log it.world it.peers.items c.args.name was)));
    }
