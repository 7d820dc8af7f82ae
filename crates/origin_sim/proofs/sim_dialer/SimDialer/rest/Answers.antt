use Rattle.std.proofs.Common.{◌≡◌, ◌∙◌, ◌++◌, ℕ, List, length, drop, sym, ap, arith}
use Rattle.std.specs.List.{position_or_len}
use Rattle.std.proofs.lemmas.Grind.{common_steps}
use Rattle.link_trait.specs.Links.{same_link, heard_on}
use Rattle.origin_sim.specs.Worlds.{since}
use Rattle.origin_sim.specs.declared.peers.Peer.{Peer}
use Rattle.origin_sim.proofs.ServingLemmas.{its_end, its_front, its_peer}
use Rattle.origin_sim.proofs.sim_dialer.SimDialer.rest.Goals as goal

pub rest_of-requires : goal.rest_of-requires
rest_of-requires c =
    let it = c.args.self.now in
    let name = c.args.name in
    let at = c.place_of.result in
    let peer = c.index-peer.result.now in
    let first : at ≡ position_or_len (λ (p : Peer). same_link p.name name) it.peers.items =
    c.place_of.ensures.first ∙ ap (position_or_len (λ (p : Peer). same_link p.name name)) c.as_slice.ensures.value in
    let front = its_front (since it.before it.world) it.log it.world it.peers.items name at peer c.requires first c.index-peer.ensures it.serving in
    let size = ap (λ (x : List ℕ). length x) front in
    grind (arith, common_steps, size, c.place-place.ensures, c.as_slice-replies.ensures)

pub returns-then-peer-clause-next : goal.returns-then-peer-clause-next
returns-then-peer-clause-next c = λ no.
    let it = c.args.self.now in
    let name = c.args.name in
    let at = c.place_of.result in
    let peer = c.index-peer.result.now in
    let first : at ≡ position_or_len (λ (p : Peer). same_link p.name name) it.peers.items =
    c.place_of.ensures.first ∙ ap (position_or_len (λ (p : Peer). same_link p.name name)) c.as_slice.ensures.value in
    let ended = its_end (since it.before it.world) it.log it.world it.peers.items name at peer c.requires first c.index-peer.ensures it.serving in
    cc (sym c.if-peer.true ∙ ended ∙ no)

pub returns-then-peer-clause-fit : goal.returns-then-peer-clause-fit
returns-then-peer-clause-fit c =
    let it = c.args.self.now in
    let name = c.args.name in
    let at = c.place_of.result in
    let peer = c.index-peer.result.now in
    let first : at ≡ position_or_len (λ (p : Peer). same_link p.name name) it.peers.items =
    c.place_of.ensures.first ∙ ap (position_or_len (λ (p : Peer). same_link p.name name)) c.as_slice.ensures.value in
    let front = its_front (since it.before it.world) it.log it.world it.peers.items name at peer c.requires first c.index-peer.ensures it.serving in
    let size = ap (λ (x : List ℕ). length x) front in
    grind (arith, common_steps, size, c.place-place.ensures, c.as_slice-replies.ensures)

pub returns-clause-more : goal.returns-clause-more
returns-clause-more c = λ some.
    let it = c.args.self.now in
    let name = c.args.name in
    let at = c.place_of.result in
    let peer = c.index-peer.result.now in
    let first : at ≡ position_or_len (λ (p : Peer). same_link p.name name) it.peers.items =
    c.place_of.ensures.first ∙ ap (position_or_len (λ (p : Peer). same_link p.name name)) c.as_slice.ensures.value in
    sym (its_end (since it.before it.world) it.log it.world it.peers.items name at peer c.requires first c.index-peer.ensures it.serving)
    ∙ c.if-peer.false

pub returns-clause-next : goal.returns-clause-next
returns-clause-next c = λ no.
    let it = c.args.self.now in
    let name = c.args.name in
    let at = c.place_of.result in
    let peer = c.index-peer.result.now in
    let first : at ≡ position_or_len (λ (p : Peer). same_link p.name name) it.peers.items =
    c.place_of.ensures.first ∙ ap (position_or_len (λ (p : Peer). same_link p.name name)) c.as_slice.ensures.value in
    let front = its_front (since it.before it.world) it.log it.world it.peers.items name at peer c.requires first c.index-peer.ensures it.serving in
    let rest : c.rest_of.result.now ≡ drop (length (heard_on name it.log.traffic)) peer.replies =
    rw (← c.place-place.ensures, ← c.as_slice-replies.ensures) c.rest_of.ensures in
    its_peer (since it.before it.world) it.log it.world it.peers.items name at peer c.requires first c.index-peer.ensures it.serving
    (heard_on name it.log.traffic ++ c.rest_of.result.now)
    (front ∙ ap (λ (x : List ℕ). heard_on name it.log.traffic ++ x) (sym rest))
