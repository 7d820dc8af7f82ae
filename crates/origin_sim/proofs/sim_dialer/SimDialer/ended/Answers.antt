use Rattle.std.proofs.Common.{◌≡◌, ◌∙◌, Option, IfSome, sym, ap, subst, true}
use Rattle.std.specs.List.{position_or_len}
use Rattle.std.proofs.Math.ListN.{set}
use Rattle.std.proofs.Math.Logic.{∥∥₁_map}
use Rattle.link_trait.specs.Recorded.{LogState}
use Rattle.link_trait.specs.Links.{same_link, heard_on}
use Rattle.origin_sim.specs.Worlds.{since}
use Rattle.origin_sim.specs.Peers.{IsServing}
use Rattle.origin_sim.specs.declared.peers.Peer.{Peer}
use Rattle.origin_sim.proofs.PeerLemmas.{here}
use Rattle.origin_sim.proofs.ServingLemmas.{read_peer, serving_ended}
use Rattle.origin_sim.proofs.sim_dialer.SimDialer.ended.Goals as goal

pub invariant_of-self-2 : goal.invariant_of-self-2
invariant_of-self-2 c =
    let it = c.args.self.now in
    let start = since it.before it.world in
    let name = c.args.name in
    let at = c.place_of-at.result in
    let peer = c.index_mut.result.now in
    let peers = it.peers.items in
    let first : at ≡ position_or_len (λ (p : Peer). same_link p.name name) peers =
    c.place_of-at.ensures.first ∙ ap (position_or_len (λ (p : Peer). same_link p.name name)) c.as_slice.ensures.value in
    let behind : Peer = record { name = peer.name; to = peer.to; part = peer.part; replies = peer.replies; ended = true } in
    record {
      begun = it.begun;
      dialed = c.ended.ensures.kept.dialed;
      ended_last = c.ended.ensures.kept.ended_last;
      serving = ∥∥₁_map it.serving (λ was.
          let found = read_peer start it.log it.world peers name at peer c.requires.«open» first c.index_mut.ensures.value was in
          subst (λ (log : LogState). IsServing start log it.world (set peers at behind)) (sym c.in_ok-ended.ensures.ok)
          (serving_ended start it.log it.world peers name at peer was found first (rw (← c.as_slice.ensures.value) c.place_of-at.ensures.within)
          (here name peers at peer found first)
          (λ no. subst (λ (o : Option Peer). IfSome o (λ p. p.replies ≡ heard_on name it.log.traffic)) found (c.requires.none no))));
    }
