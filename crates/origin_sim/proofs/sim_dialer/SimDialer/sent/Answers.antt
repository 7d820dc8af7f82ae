use Rattle.std.proofs.Common.{◌≡◌, ◌∙◌, ◌++◌, ◌∷◌, [], ℕ, ◌≤◌, length, sym, ap, subst, true}
use Rattle.std.specs.List.{position_or_len}
use Rattle.std.proofs.Math.ListN.{set}
use Rattle.std.proofs.Math.Logic.{∥∥₁_map}
use Rattle.link_trait.specs.declared.links.LinkName.{LinkName}
use Rattle.link_trait.specs.declared.dialer.Traffic.TheVariants.{Sent}
use Rattle.link_trait.specs.Recorded.{LogState}
use Rattle.link_trait.specs.Links.{same_link, has_link}
use Rattle.origin_sim.specs.Worlds.{WorldState, since}
use Rattle.origin_sim.specs.Peers.{IsServing, IsServed}
use Rattle.origin_sim.specs.declared.peers.Peer.{Peer}
use Rattle.origin_sim.proofs.PeerLemmas.{here}
use Rattle.origin_sim.proofs.ServingLemmas.{read_peer, its_name, serving_sent, since_more, taken_back, within_more}
use Rattle.origin_sim.proofs.sim_dialer.SimDialer.sent.Goals as goal

pub served-requires : goal.served-requires
served-requires c =
    let it = c.args.self.now in
    let name = c.args.name in
    let at = c.place_of-at.result in
    let first : at ≡ position_or_len (λ (p : Peer). same_link p.name name) it.peers.items =
    c.place_of-at.ensures.first ∙ ap (position_or_len (λ (p : Peer). same_link p.name name)) c.as_slice.ensures.value in
    let named = its_name (since it.before it.world) it.log it.world it.peers.items name at c.index.result.now c.requires first c.index.ensures it.serving in
    subst (λ (n : LinkName). has_link n it.log.opened ≡ true) (sym named) c.requires

pub returns-in-Ok-clause-ok : goal.returns-in-Ok-clause-ok
returns-in-Ok-clause-ok c =
    let it = c.args.self.now in
    let name = c.args.name in
    let at = c.place_of-at.result in
    let first : at ≡ position_or_len (λ (p : Peer). same_link p.name name) it.peers.items =
    c.place_of-at.ensures.first ∙ ap (position_or_len (λ (p : Peer). same_link p.name name)) c.as_slice.ensures.value in
    let named = its_name (since it.before it.world) it.log it.world it.peers.items name at c.index.result.now c.requires first c.index.ensures it.serving in
    c.in-Ok.ensures.sent ∙ ap (λ (n : LinkName). record {
      dials = it.log.dials;
      traffic = it.log.traffic ++ Sent n c.args.bytes.now ∷ [];
      opened = it.log.opened;
    }) named

pub invariant_of-self : goal.invariant_of-self
invariant_of-self c =
    let it = c.args.self.now in
    let start = since it.before it.world in
    let name = c.args.name in
    let bytes = c.args.bytes.now in
    let at = c.place_of-at.result in
    let read = c.index.result.now in
    let peer = c.index_mut-peer.result.now in
    let peers = it.peers.items in
    let part = c.in-Ok.it.part in
    let replies = c.in-Ok.it.replies in
    let world = c.served.new.world in
    let first : at ≡ position_or_len (λ (p : Peer). same_link p.name name) peers =
    c.place_of-at.ensures.first ∙ ap (position_or_len (λ (p : Peer). same_link p.name name)) c.as_slice.ensures.value in
    let named = its_name start it.log it.world peers name at read c.requires first c.index.ensures it.serving in
    let log : c.served.new.log ≡ record { dials = it.log.dials; traffic = it.log.traffic ++ Sent name bytes ∷ []; opened = it.log.opened } =
    c.in-Ok.ensures.sent ∙ ap (λ (n : LinkName). record {
      dials = it.log.dials;
      traffic = it.log.traffic ++ Sent n bytes ∷ [];
      opened = it.log.opened;
    }) named in
    let behind : Peer = record { name = peer.name; to = peer.to; part = part; replies = replies; ended = peer.ended } in
    record {
      begun = within_more it.before it.world world it.begun c.served.ensures.behind;
      dialed = c.in-Ok.ensures.kept.dialed;
      ended_last = c.in-Ok.ensures.kept.ended_last;
      serving = ∥∥₁_map it.serving (λ was.
          let found = read_peer start it.log it.world peers name at peer c.requires first c.index_mut-peer.ensures.value was in
          let found_read = read_peer start it.log it.world peers name at read c.requires first c.index.ensures was in
          let same : read ≡ peer = cc (sym found_read ∙ found) in
          let served : IsServed it.world peer bytes part replies world =
          subst (λ (p : Peer). IsServed it.world p bytes part replies world) same c.in-Ok.ensures.served in
          subst (λ (w : WorldState). IsServing w c.served.new.log world (set peers at behind)) (sym (since_more it.before it.world world it.begun c.served.ensures.behind))
          (subst (λ (l : LogState). IsServing start l world (set peers at behind)) (sym log)
          (serving_sent start it.log it.world world peers name at peer bytes part replies was found served first
          (rw (← c.as_slice.ensures.value) c.place_of-at.ensures.within) (here name peers at peer found first))));
    }

pub invariant_of-self-in-Err : goal.invariant_of-self-in-Err
invariant_of-self-in-Err c =
    let it = c.args.self.now in
    let start = since it.before it.world in
    let peers = it.peers.items in
    let back : c.take_back.new.self ≡ it.world =
    c.take_back.ensures ∙ ap (λ (n : ℕ). since n c.served.new.world) c.said-said.ensures
    ∙ taken_back it.world c.served.new.world c.served.ensures.behind in
    let log : c.served.new.log ≡ it.log = c.in-Err.ensures.err in
    record {
      begun = subst (λ (w : WorldState). it.before ≤ length w.past) (sym back) it.begun;
      dialed = rw log it.dialed;
      ended_last = rw log it.ended_last;
      serving = subst (λ (w : WorldState). ∥ IsServing (since it.before w) c.served.new.log w peers ∥₁) (sym back)
          (subst (λ (l : LogState). ∥ IsServing start l it.world peers ∥₁) (sym log) it.serving);
    }

pub returns-in-Ok-clause-start : goal.returns-in-Ok-clause-start
returns-in-Ok-clause-start c =
    let it = c.args.self.now in
    since_more it.before it.world c.served.new.world it.begun c.served.ensures.behind

pub returns-in-Err-clause-start : goal.returns-in-Err-clause-start
returns-in-Err-clause-start c =
    let it = c.args.self.now in
    let back : c.take_back.new.self ≡ it.world =
    c.take_back.ensures ∙ ap (λ (n : ℕ). since n c.served.new.world) c.said-said.ensures
    ∙ taken_back it.world c.served.new.world c.served.ensures.behind in
    ap (since it.before) back

pub returns-in-Err-clause-world : goal.returns-in-Err-clause-world
returns-in-Err-clause-world c =
    let it = c.args.self.now in
    c.take_back.ensures ∙ ap (λ (n : ℕ). since n c.served.new.world) c.said-said.ensures
    ∙ taken_back it.world c.served.new.world c.served.ensures.behind
