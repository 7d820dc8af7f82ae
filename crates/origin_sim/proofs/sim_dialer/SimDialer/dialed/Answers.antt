use Rattle.std.proofs.Common.{◌≡◌, ◌∷◌, ◌++◌, [], List, sym, subst, ap, ◌∙◌}
use Rattle.std.proofs.Math.Logic.{∥∥₁_map}
use Rattle.link_trait.specs.Recorded.{LogState}
use Rattle.origin_sim.specs.Worlds.{since}
use Rattle.origin_sim.specs.Peers.{IsServing}
use Rattle.origin_sim.specs.declared.peers.Peer.{Peer}
use Rattle.origin_sim.proofs.ServingLemmas.{serving_dialed}
use Rattle.origin_sim.proofs.sim_dialer.SimDialer.dialed.Goals as goal

pub invariant_of-self-2 : goal.invariant_of-self-2
invariant_of-self-2 c =
    let it = c.args.self.now in
    let start = since it.before it.world in
    let peer = c.in_ok-peer.peer in
    let peers : c.push_reserved.new.self.items ≡ it.peers.items ++ peer ∷ [] =
    c.push_reserved.ensures.items ∙ ap (λ (ps : List Peer). ps ++ peer ∷ []) c.reserve.ensures.items in
    record {
      begun = it.begun;
      dialed = c.dialed.ensures.kept.dialed;
      ended_last = c.dialed.ensures.kept.ended_last;
      serving = ∥∥₁_map it.serving (λ was.
          subst (λ (ps : List Peer). IsServing start c.dialed.new.self it.world ps) (sym peers)
          (subst (λ (log : LogState). IsServing start log it.world (it.peers.items ++ peer ∷ [])) (sym c.in_ok-dialed.ensures.ok)
          (serving_dialed start it.log it.world it.peers.items c.args.name c.args.to.now peer c.in_ok-peer.ensures it.dialed c.requires.fresh was)));
    }
