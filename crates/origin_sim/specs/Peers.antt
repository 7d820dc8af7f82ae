-- What a dialer into a world keeps of each open link.
use Rattle.std.specs.Prelude.{ℕ, ◌≡◌, true, List, ◌++◌, map, find, Option, Some, None}
use Rattle.link_trait.specs.declared.links.LinkName.{LinkName}
use Rattle.link_trait.specs.declared.dialer.Dial.{Dial}
use Rattle.link_trait.specs.declared.dialer.Traffic.{Traffic}
use Rattle.link_trait.specs.Links.{same_link, heard_on, has_ended}
use Rattle.link_trait.specs.Recorded.{LogState}
use Rattle.spaces.specs.declared.place.Origin.{Origin}
use Rattle.wire_head.specs.Lines.{head_len}
use Rattle.origin_sim.specs.Worlds.{WorldState}
use Rattle.origin_sim.specs.Exchanges.{Exchange, AreAnswered, dialed_to, AreTo, written_on, heads_on, replies_on, are_on, IsSimulated}
use Rattle.origin_sim.specs.declared.peers.Peer.{Peer}

-- the link's peer
abbrev pub peer_of : LinkName → List Peer → Option Peer
peer_of name peers = find (λ peer. same_link peer.name name) peers

-- the links that have peers
abbrev pub names_of : List Peer → List LinkName
names_of peers = map (λ peer. peer.name) peers

-- the peer has got a part of a head, and has sent these replies, of which a front was read
pub record IsPeer (dials : List Dial) (traffic : List Traffic) (exchanges : List Exchange) (name : LinkName) (peer : Peer) : Type 0 where
  pub to : dialed_to name dials ≡ Some peer.to
  pub written : written_on name traffic ≡ heads_on name exchanges ++ peer.part
  pub part : head_len peer.part ≡ None
  pub replies : replies_on name exchanges ≡ peer.replies
  pub heard : (rest : List ℕ) × (peer.replies ≡ heard_on name traffic ++ rest)
  pub ended : peer.ended ≡ has_ended name traffic

-- each open link has its peer
pub record IsServing (start : WorldState) (log : LogState) (now : WorldState) (peers : List Peer) : Type 0 where
  pub exchanges : List Exchange
  pub simulated : IsSimulated start log.dials log.traffic exchanges now
  pub names : names_of peers ≡ log.opened
  pub kept : (name : LinkName) (peer : Peer) → peer_of name peers ≡ Some peer → IsPeer log.dials log.traffic exchanges name peer

-- the world has answered these heads of a link's bytes, and this is what is behind them
pub record IsAnswering (old : WorldState) (name : LinkName) (to : Origin) (text rest before replies : List ℕ) (now : WorldState) : Type 0 where
  pub more : List Exchange
  pub answered : AreAnswered old more now
  pub on : are_on name more ≡ true
  pub dialed : (dials : List Dial) → dialed_to name dials ≡ Some to → AreTo dials more
  pub cut : text ≡ heads_on name more ++ rest
  pub said : replies ≡ before ++ replies_on name more

-- bytes came to the peer, and the world has answered the heads that they make whole
pub record IsServed (old : WorldState) (peer : Peer) (bytes part replies : List ℕ) (now : WorldState) : Type 0 where
  pub answering : IsAnswering old peer.name peer.to (peer.part ++ bytes) part peer.replies replies now
  pub none : head_len part ≡ None
