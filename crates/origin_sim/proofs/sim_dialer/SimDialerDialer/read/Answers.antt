use Rattle.std.proofs.Common.{◌≡◌, ◌∙◌, ◌++◌, [], ℕ, take, drop, Option, List, IfSome, sym, ap, subst, arith}
use Rattle.std.proofs.Math.Logic.{∥∥₁_map}
use Rattle.std.proofs.lemmas.Grind.{common_steps}
use Rattle.std.proofs.lemmas.List.{take-append-drop}
use Rattle.link_trait.specs.Recorded.{LogState}
use Rattle.link_trait.specs.Links.{heard_on}
use Rattle.link_trait.proofs.LogLemmas.{still}
use Rattle.origin_sim.specs.Worlds.{since}
use Rattle.origin_sim.specs.Peers.{IsServing}
use Rattle.origin_sim.specs.declared.peers.Peer.{Peer}
use Rattle.origin_sim.proofs.ServingLemmas.{open_peer, serving_received}
use Rattle.origin_sim.proofs.sim_dialer.SimDialerDialer.read.Goals as goal

pub invariant_of-self : goal.invariant_of-self
invariant_of-self c =
    let it = c.args.self.now in
    let start = since it.before it.world in
    let name = c.args.name in
    let peers = it.peers.items in
    let heard = heard_on name it.log.traffic in
    let rest = c.rest-rest.result.now in
    let count = c.copy_front-count.result in
    let bytes = take count c.copy_front-count.new.buf in
    let some : rest ≡ [] → ⊥ = λ (e : rest ≡ []). (grind (arith, common_steps, e)) in
    let next = c.rest-rest.ensures.next (c.rest-rest.ensures.more some) in
    let cut : rest ≡ bytes ++ drop count rest =
    sym (take-append-drop count rest) ∙ ap (λ (x : List ℕ). x ++ drop count rest) (sym c.copy_front-count.ensures.bytes) in
    record {
      begun = it.begun;
      dialed = c.received.ensures.kept.dialed;
      ended_last = c.received.ensures.kept.ended_last;
      serving = still (λ (log : LogState). ∥ IsServing start log it.world peers ∥₁) c.received.result it.log c.received.new.self _
          c.received.ensures.ok c.received.ensures.err it.serving (∥∥₁_map it.serving (λ was.
          let p = open_peer start it.log it.world peers name was c.requires.«open» in
          let is : p.0.replies ≡ heard ++ rest = subst (λ (o : Option Peer). IfSome o (λ peer. peer.replies ≡ heard ++ rest)) p.1 next in
          serving_received start it.log it.world peers name p.0 bytes (drop count rest) was p.1 (is ∙ ap (λ (x : List ℕ). heard ++ x) cut)));
    }
