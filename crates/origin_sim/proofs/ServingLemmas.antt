-- Each open link has its peer, and goes on having it as links are dialed, written to, read and closed.
use Rattle.std.proofs.Common.{◌≡◌, ℕ, ◌<◌, ◌≤◌, Bool, true, false, ◌||◌, List, [], ◌∷◌, ◌++◌, ◌+◌, length, take, drop, get_or, IfSome, Option, Some, None, inl, inr, refl, sym, ap, subst, ◌∙◌, arith, append_assoc, append-nil, length-append, slice_get}
use Rattle.std.specs.List.{position_or_len}
use Rattle.std.proofs.Math.ListN.{set}
use Rattle.std.proofs.Math.Logic.{∥∥₁_elim, ∥∥₁_map}
use Rattle.std.proofs.Math.Seq.{take-length, drop-append_seam}
use Rattle.std.proofs.Props.{props}
use Rattle.std.proofs.lemmas.Option.{get_or_from_slice_get}
use Rattle.std.proofs.lemmas.List.{map-append, take-append-le}
use Rattle.link_trait.specs.declared.links.LinkName.{LinkName}
use Rattle.link_trait.specs.declared.dialer.Dial.{Dial}
use Rattle.link_trait.specs.declared.dialer.Traffic.{Traffic}
use Rattle.link_trait.specs.declared.dialer.Traffic.TheVariants.{Sent, Received, Ended}
use Rattle.link_trait.specs.Links.{same_link, has_dial, has_link, without_link, heard_in, heard_on, has_ended, is_end_of, are_dialed}
use Rattle.link_trait.specs.Recorded.{LogState}
use Rattle.link_trait.proofs.LinkLemmas.{same_name, same_self}
use Rattle.link_trait.proofs.LogLemmas.{silent}
use Rattle.spaces.specs.declared.place.Origin.{Origin}
use Rattle.origin_sim.specs.Worlds.{WorldState, IsBehind, since}
use Rattle.origin_sim.specs.declared.judged.Judged.{Judged}
use Rattle.origin_sim.specs.declared.peers.Peer.{Peer}
use Rattle.origin_sim.specs.Exchanges.{Exchange, AreTo, written_in, written_on, heads_on, replies_on}
use Rattle.origin_sim.specs.Peers.{peer_of, IsPeer, IsServing, IsAnswering, IsServed}
use Rattle.origin_sim.proofs.ExchangeLemmas.{answered_more, to_more, heads_more, replies_more}
use Rattle.origin_sim.proofs.PeerLemmas.{found_name, here, find_peer, changed_same, changed_other, changed_names, added, without, closed_found, closed_names}
use Rattle.origin_sim.proofs.TrafficLemmas.{written_more, heard_more, ended_more, of_sent, of_received, of_ended, off_heads, off_replies, origin_more, to_dials, origin_none, origin_last, undialed_heads, undialed_replies, undialed_written, undialed_ended}

or_false : (b c : Bool) → c ≡ false → (b || c) ≡ b
or_false true c is = refl
or_false false c is = is

-- an event that doesn't touch a link leaves its peer
untouched : (dials : List Dial) (traffic : List Traffic) (event : Traffic) (xs ys : List Exchange) (name : LinkName) (peer : Peer)
    → IsPeer dials traffic xs name peer → written_in name event ≡ [] → heard_in name event ≡ [] → is_end_of name event ≡ false
    → heads_on name ys ≡ heads_on name xs → replies_on name ys ≡ replies_on name xs
    → IsPeer dials (traffic ++ event ∷ []) ys name peer
untouched dials traffic event xs ys name peer was no_bytes none_heard no_end heads replies = record {
  to = was.to;
  written = written_more name traffic event ∙ ap (λ (x : List ℕ). written_on name traffic ++ x) no_bytes ∙ append-nil (written_on name traffic)
      ∙ was.written ∙ ap (λ (x : List ℕ). x ++ peer.part) (sym heads);
  part = was.part;
  replies = replies ∙ was.replies;
  heard = (
    was.heard.0,
    was.heard.1 ∙ ap (λ (x : List ℕ). x ++ was.heard.0)
        (sym (heard_more name traffic event ∙ ap (λ (x : List ℕ). heard_on name traffic ++ x) none_heard ∙ append-nil (heard_on name traffic))),
  );
  ended = was.ended ∙ sym (ended_more name traffic event ∙ or_false (has_ended name traffic) (is_end_of name event) no_end);
}

-- a link is dialed

new_peer : (dials : List Dial) (traffic : List Traffic) (xs : List Exchange) (name : LinkName) (to : Origin) (peer : Peer)
    → peer ≡ record { name = name; to = to; part = []; replies = []; ended = false }
    → are_dialed traffic dials ≡ true → has_dial name dials ≡ false → AreTo dials xs
    → IsPeer (dials ++ record { link = name; to = to } ∷ []) traffic xs name peer
new_peer dials traffic xs name to peer is dialed none are =
    let undialed = origin_none name dials none in
    subst (λ (p : Peer). IsPeer (dials ++ record { link = name; to = to } ∷ []) traffic xs name p) (sym is) (record {
      to = origin_last name dials to none;
      written = undialed_written name traffic dials dialed none ∙ sym (append-nil (heads_on name xs) ∙ undialed_heads name dials xs undialed are);
      part = refl;
      replies = undialed_replies name dials xs undialed are;
      heard = ([], sym (append-nil (heard_on name traffic) ∙ silent name traffic dials dialed none));
      ended = sym (undialed_ended name traffic dials dialed none);
    })

pub serving_dialed : (start : WorldState) (log : LogState) (now : WorldState) (peers : List Peer) (name : LinkName) (to : Origin) (peer : Peer)
    → peer ≡ record { name = name; to = to; part = []; replies = []; ended = false }
    → are_dialed log.traffic log.dials ≡ true → has_dial name log.dials ≡ false → IsServing start log now peers
    → IsServing start (record {
      dials = log.dials ++ record { link = name; to = to } ∷ [];
      traffic = log.traffic;
      opened = log.opened ++ name ∷ [];
    }) now (peers ++ peer ∷ [])
serving_dialed start log now peers name to peer is dialed none was =
    let more : List Dial = record { link = name; to = to } ∷ [] in
    let named : peer.name ≡ name = ap (λ (p : Peer). p.name) is in
    record {
      exchanges = was.exchanges;
      simulated = record {
        answered = was.simulated.answered;
        dialed = to_dials log.dials more was.exchanges was.simulated.dialed;
        told = was.simulated.told;
      };
      names = map-append (λ (p : Peer). p.name) peers (peer ∷ [])
          ∙ ap (λ (names : List LinkName). names ++ peer.name ∷ []) was.names
          ∙ ap (λ (n : LinkName). log.opened ++ n ∷ []) named;
      kept = λ other p found. elim (added other peers peer p found) [
        | inl old ↦
            let it = was.kept other p old in
            record { to = origin_more other log.dials more p.to it.to; written = it.written; part = it.part; replies = it.replies; heard = it.heard; ended = it.ended }
        | inr new ↦
            let here : name ≡ other = sym named ∙ same_name peer.name other new.0 in
            let it = new_peer log.dials log.traffic was.exchanges name to peer is dialed none was.simulated.dialed in
            subst (λ (q : Peer). IsPeer (log.dials ++ more) log.traffic was.exchanges other q) (sym new.1)
            (subst (λ (n : LinkName). IsPeer (log.dials ++ more) log.traffic was.exchanges n peer) here it)
      ];
    }

-- bytes are written

module _ (start : WorldState) (log : LogState) (now new : WorldState) (peers : List Peer) (name : LinkName) (at : ℕ) (peer : Peer) (bytes part replies : List ℕ)
    (was : IsServing start log now peers) (found : peer_of name peers ≡ Some peer) (served : IsServed now peer bytes part replies new) where
  abbrev named : peer.name ≡ name
  named = found_name name peers peer found

  abbrev answering : IsAnswering now name peer.to (peer.part ++ bytes) part peer.replies replies new
  answering = subst (λ (n : LinkName). IsAnswering now n peer.to (peer.part ++ bytes) part peer.replies replies new) named served.answering

  abbrev more : List Exchange
  more = answering.more

  abbrev all : List Exchange
  all = was.exchanges ++ more

  abbrev before : IsPeer log.dials log.traffic was.exchanges name peer
  before = was.kept name peer found

  cut : written_on name log.traffic ++ bytes ≡ heads_on name all ++ part
  cut =
      ap (λ (x : List ℕ). x ++ bytes) before.written
      ∙ append_assoc (heads_on name was.exchanges) peer.part bytes
      ∙ ap (λ (x : List ℕ). heads_on name was.exchanges ++ x) answering.cut
      ∙ sym (append_assoc (heads_on name was.exchanges) (heads_on name more) part)
      ∙ ap (λ (x : List ℕ). x ++ part) (sym (heads_more name was.exchanges more))

  abbrev traffic : List Traffic
  traffic = log.traffic ++ Sent name bytes ∷ []

  said : replies_on name all ≡ replies
  said =
      replies_more name was.exchanges more
      ∙ ap (λ (x : List ℕ). x ++ replies_on name more) before.replies ∙ sym answering.said

  sent_bytes : written_in name (Sent name bytes) ≡ bytes
  sent_bytes = rw (same_self name) refl

  behind : IsPeer log.dials traffic all name (record { name = peer.name; to = peer.to; part = part; replies = replies; ended = peer.ended })
  behind = record {
    to = before.to;
    written = written_more name log.traffic (Sent name bytes) ∙ ap (λ (x : List ℕ). written_on name log.traffic ++ x) sent_bytes ∙ cut;
    part = served.none;
    replies = said;
    heard = (
      before.heard.0 ++ replies_on name more,
      answering.said ∙ ap (λ (x : List ℕ). x ++ replies_on name more) before.heard.1
          ∙ append_assoc (heard_on name log.traffic) before.heard.0 (replies_on name more)
          ∙ ap (λ (x : List ℕ). x ++ (before.heard.0 ++ replies_on name more))
          (sym (heard_more name log.traffic (Sent name bytes) ∙ append-nil (heard_on name log.traffic))),
    );
    ended = before.ended ∙ sym (ended_more name log.traffic (Sent name bytes) ∙ or_false (has_ended name log.traffic) false refl);
  }

  away : (other : LinkName) (p : Peer) → same_link name other ≡ false → peer_of other peers ≡ Some p → IsPeer log.dials traffic all other p
  away other p differ there =
      untouched log.dials log.traffic (Sent name bytes) was.exchanges all other p (was.kept other p there) (rw differ refl) refl refl
      (heads_more other was.exchanges more ∙ ap (λ (x : List ℕ). heads_on other was.exchanges ++ x) (off_heads name other more answering.on differ)
      ∙ append-nil (heads_on other was.exchanges))
      (replies_more other was.exchanges more ∙ ap (λ (x : List ℕ). replies_on other was.exchanges ++ x) (off_replies name other more answering.on differ)
      ∙ append-nil (replies_on other was.exchanges))

  pub serving_sent : (first : at ≡ position_or_len (λ p. same_link p.name name) peers) → at < length peers → slice_get peers at ≡ Some peer
      → IsServing start (record { dials = log.dials; traffic = log.traffic ++ Sent name bytes ∷ []; opened = log.opened }) new
      (set peers at (record { name = peer.name; to = peer.to; part = part; replies = replies; ended = peer.ended }))
  serving_sent first within here =
      let it : Peer = record { name = peer.name; to = peer.to; part = part; replies = replies; ended = peer.ended } in
      record {
        exchanges = all;
        simulated = record {
          answered = answered_more start was.exchanges more now new was.simulated.answered answering.answered;
          dialed = to_more log.dials was.exchanges more was.simulated.dialed (answering.dialed log.dials before.to);
          told = of_sent name bytes part log.traffic was.exchanges more was.simulated.told answering.on cut served.none;
        };
        names = changed_names peers at peer it here refl ∙ was.names;
        kept = λ other p there. by_test other p there (same_link name other) refl;
      }
    where
      by_test : (other : LinkName) (p : Peer) → peer_of other (set peers at (record { name = peer.name; to = peer.to; part = part; replies = replies; ended = peer.ended })) ≡ Some p
          → (b : Bool) → same_link name other ≡ b → IsPeer log.dials traffic all other p
      by_test other p there true same =
          let it : Peer = record { name = peer.name; to = peer.to; part = part; replies = replies; ended = peer.ended } in
          let one : name ≡ other = same_name name other same in
          let get : peer_of other (set peers at it) ≡ Some it =
          subst (λ (n : LinkName). peer_of n (set peers at it) ≡ Some it) one (changed_same name peers at it first within named) in
          let is : it ≡ p = cc (sym get ∙ there) in
          subst (λ (q : Peer). IsPeer log.dials traffic all other q) is
          (subst (λ (n : LinkName). IsPeer log.dials traffic all n it) one behind)
      by_test other p there false differ =
          let it : Peer = record { name = peer.name; to = peer.to; part = part; replies = replies; ended = peer.ended } in
          away other p differ (sym (changed_other name other peers at peer it here named named differ) ∙ there)

-- bytes are read

pub serving_received : (start : WorldState) (log : LogState) (now : WorldState) (peers : List Peer) (name : LinkName) (peer : Peer) (bytes rest : List ℕ)
    → IsServing start log now peers → peer_of name peers ≡ Some peer → peer.replies ≡ heard_on name log.traffic ++ (bytes ++ rest)
    → IsServing start (record { dials = log.dials; traffic = log.traffic ++ Received name bytes ∷ []; opened = log.opened }) now peers
serving_received start log now peers name peer bytes rest was found next =
    let before = was.kept name peer found in
    record {
      exchanges = was.exchanges;
      simulated = record {
        answered = was.simulated.answered;
        dialed = was.simulated.dialed;
        told = of_received name bytes rest log.traffic was.exchanges was.simulated.told (before.replies ∙ next);
      };
      names = was.names;
      kept = λ other p there. by_test other p there (same_link name other) refl;
    }
  where
    heard_here : heard_in name (Received name bytes) ≡ bytes
    heard_here = rw (same_self name) refl

    at_name : IsPeer log.dials (log.traffic ++ Received name bytes ∷ []) was.exchanges name peer
    at_name =
        let before = was.kept name peer found in
        record {
          to = before.to;
          written = written_more name log.traffic (Received name bytes) ∙ append-nil (written_on name log.traffic) ∙ before.written;
          part = before.part;
          replies = before.replies;
          heard = (
            rest,
            next ∙ sym (append_assoc (heard_on name log.traffic) bytes rest)
                ∙ ap (λ (x : List ℕ). x ++ rest) (sym (heard_more name log.traffic (Received name bytes)
                ∙ ap (λ (x : List ℕ). heard_on name log.traffic ++ x) heard_here)),
          );
          ended = before.ended ∙ sym (ended_more name log.traffic (Received name bytes) ∙ or_false (has_ended name log.traffic) false refl);
        }

    by_test : (other : LinkName) (p : Peer) → peer_of other peers ≡ Some p → (b : Bool) → same_link name other ≡ b
        → IsPeer log.dials (log.traffic ++ Received name bytes ∷ []) was.exchanges other p
    by_test other p there true same =
        let one : name ≡ other = same_name name other same in
        let get : peer_of other peers ≡ Some peer = subst (λ (n : LinkName). peer_of n peers ≡ Some peer) one found in
        let is : peer ≡ p = cc (sym get ∙ there) in
        subst (λ (q : Peer). IsPeer log.dials (log.traffic ++ Received name bytes ∷ []) was.exchanges other q) is
        (subst (λ (n : LinkName). IsPeer log.dials (log.traffic ++ Received name bytes ∷ []) was.exchanges n peer) one at_name)
    by_test other p there false differ =
        untouched log.dials log.traffic (Received name bytes) was.exchanges was.exchanges other p (was.kept other p there) refl (rw differ refl) refl refl refl

-- an end is read

or_true : (b c : Bool) → c ≡ true → (b || c) ≡ true
or_true true c is = refl
or_true false c is = is

pub serving_ended : (start : WorldState) (log : LogState) (now : WorldState) (peers : List Peer) (name : LinkName) (at : ℕ) (peer : Peer)
    → IsServing start log now peers → peer_of name peers ≡ Some peer → at ≡ position_or_len (λ p. same_link p.name name) peers → at < length peers
    → slice_get peers at ≡ Some peer → (has_ended name log.traffic ≡ false → peer.replies ≡ heard_on name log.traffic)
    → IsServing start (record { dials = log.dials; traffic = log.traffic ++ Ended name ∷ []; opened = log.opened }) now
    (set peers at (record { name = peer.name; to = peer.to; part = peer.part; replies = peer.replies; ended = true }))
serving_ended start log now peers name at peer was found first within here none =
    record {
      exchanges = was.exchanges;
      simulated = record {
        answered = was.simulated.answered;
        dialed = was.simulated.dialed;
        told = of_ended name log.traffic was.exchanges was.simulated.told (λ no. (was.kept name peer found).replies ∙ none no);
      };
      names = changed_names peers at peer it here refl ∙ was.names;
      kept = λ other p there. by_test other p there (same_link name other) refl;
    }
  where
    it : Peer
    it = record { name = peer.name; to = peer.to; part = peer.part; replies = peer.replies; ended = true }

    named : peer.name ≡ name
    named = found_name name peers peer found

    at_name : IsPeer log.dials (log.traffic ++ Ended name ∷ []) was.exchanges name it
    at_name =
        let before = was.kept name peer found in
        record {
          to = before.to;
          written = written_more name log.traffic (Ended name) ∙ append-nil (written_on name log.traffic) ∙ before.written;
          part = before.part;
          replies = before.replies;
          heard = (
            before.heard.0,
            before.heard.1 ∙ ap (λ (x : List ℕ). x ++ before.heard.0)
                (sym (heard_more name log.traffic (Ended name) ∙ append-nil (heard_on name log.traffic))),
          );
          ended = sym (ended_more name log.traffic (Ended name) ∙ or_true (has_ended name log.traffic) (same_link name name) (same_self name));
        }

    by_test : (other : LinkName) (p : Peer) → peer_of other (set peers at it) ≡ Some p → (b : Bool) → same_link name other ≡ b
        → IsPeer log.dials (log.traffic ++ Ended name ∷ []) was.exchanges other p
    by_test other p there true same =
        let one : name ≡ other = same_name name other same in
        let get : peer_of other (set peers at it) ≡ Some it =
        subst (λ (n : LinkName). peer_of n (set peers at it) ≡ Some it) one (changed_same name peers at it first within named) in
        let is : it ≡ p = cc (sym get ∙ there) in
        subst (λ (q : Peer). IsPeer log.dials (log.traffic ++ Ended name ∷ []) was.exchanges other q) is
        (subst (λ (n : LinkName). IsPeer log.dials (log.traffic ++ Ended name ∷ []) was.exchanges n it) one at_name)
    by_test other p there false differ =
        let old : peer_of other peers ≡ Some p = sym (changed_other name other peers at peer it here named named differ) ∙ there in
        untouched log.dials log.traffic (Ended name) was.exchanges was.exchanges other p (was.kept other p old) refl refl differ refl refl

-- a link is closed

pub serving_closed : (start : WorldState) (log : LogState) (now : WorldState) (peers : List Peer) (name : LinkName) → IsServing start log now peers
    → IsServing start (record { dials = log.dials; traffic = log.traffic; opened = without_link name log.opened }) now (without name peers)
serving_closed start log now peers name was = record {
  exchanges = was.exchanges;
  simulated = was.simulated;
  names = closed_names name peers ∙ ap (without_link name) was.names;
  kept = λ other p there. was.kept other p (closed_found name other peers p there);
}

-- nothing was dialed

pub serving_none : (log : LogState) (now : WorldState) (said : ℕ) (peers : List Peer) → log ≡ record { dials = []; traffic = []; opened = [] }
    → said ≡ length now.past → peers ≡ [] → IsServing (since said now) log now peers
serving_none log now said peers is_log is_said is_peers =
    subst (λ (l : LogState). IsServing (since said now) l now peers) (sym is_log)
    (subst (λ (ps : List Peer). IsServing (since said now) (record { dials = []; traffic = []; opened = [] }) now ps) (sym is_peers) (record {
      exchanges = [];
      simulated = record {
        answered = ap (λ (past : List Judged). record { number = now.number; rules = now.rules; past = past })
            (sym (ap (λ (n : ℕ). take n now.past) is_said ∙ take-length now.past));
        dialed = tt;
        told = refl;
      };
      names = refl;
      kept = λ name peer is. cc is;
    }))

-- so much as the rules had said is what they had said then, however much they say since
pub since_more : (said : ℕ) (old new : WorldState) → said ≤ length old.past → IsBehind old new → since said new ≡ since said old
since_more said old new within behind =
    ap (since said) behind.1
    ∙ ap (λ (past : List Judged). record { number = old.number; rules = old.rules; past = past }) (take-append-le said old.past behind.0 within)

-- what was said since is taken back
pub taken_back : (old new : WorldState) → IsBehind old new → since (length old.past) new ≡ old
taken_back old new behind =
    since_more (length old.past) old new (omega arith) behind
    ∙ ap (λ (past : List Judged). record { number = old.number; rules = old.rules; past = past }) (take-length old.past)

pub within_more : (said : ℕ) (old new : WorldState) → said ≤ length old.past → IsBehind old new → said ≤ length new.past
within_more said old new within behind =
    let size : length new.past ≡ length old.past + length behind.0 =
    ap (λ (w : WorldState). length w.past) behind.1 ∙ length-append old.past behind.0 in
    omega arith

-- an open link has a peer

pub open_peer : (start : WorldState) (log : LogState) (now : WorldState) (peers : List Peer) (name : LinkName)
    → IsServing start log now peers → has_link name log.opened ≡ true → (peer : Peer) × (peer_of name peers ≡ Some peer)
open_peer start log now peers name was has = find_peer name peers (subst (λ (names : List LinkName). has_link name names ≡ true) (sym was.names) has)

-- what an index of the peers reads is the link's peer
pub read_peer : (start : WorldState) (log : LogState) (now : WorldState) (peers : List Peer) (name : LinkName) (at : ℕ) (read : Peer)
    → has_link name log.opened ≡ true → at ≡ position_or_len (λ p. same_link p.name name) peers → read ≡ get_or peers at read
    → IsServing start log now peers → peer_of name peers ≡ Some read
read_peer start log now peers name at read has first is was =
    let p = open_peer start log now peers name was has in
    p.1 ∙ ap Some (sym (is ∙ get_or_from_slice_get peers at p.0 read (here name peers at p.0 p.1 first)))

bool_prop : (a b : Bool) → IsProp (a ≡ b)
bool_prop a b = Prim.hlevel props

bytes_prop : (a b : List ℕ) → IsProp (a ≡ b)
bytes_prop a b = Prim.hlevel props

-- what is so of an open link's peer

module _ (start : WorldState) (log : LogState) (now : WorldState) (peers : List Peer) (name : LinkName) (at : ℕ) (read : Peer)
    (has : has_link name log.opened ≡ true) (first : at ≡ position_or_len (λ p. same_link p.name name) peers) (is : read ≡ get_or peers at read)
    (serving : ∥ IsServing start log now peers ∥₁) where
  pub its_name : read.name ≡ name
  its_name = same_name read.name name (∥∥₁_elim serving (bool_prop _ _) (λ was.
      subst (λ (n : LinkName). same_link n name ≡ true) (sym (found_name name peers read (read_peer start log now peers name at read has first is was)))
      (same_self name)))

  pub its_end : read.ended ≡ has_ended name log.traffic
  its_end = ∥∥₁_elim serving (bool_prop _ _) (λ was.
      (was.kept name read (read_peer start log now peers name at read has first is was)).ended)

  pub its_front : read.replies ≡ heard_on name log.traffic ++ drop (length (heard_on name log.traffic)) read.replies
  its_front = ∥∥₁_elim serving (bytes_prop _ _) (λ was.
      let heard = (was.kept name read (read_peer start log now peers name at read has first is was)).heard in
      let behind : drop (length (heard_on name log.traffic)) read.replies ≡ heard.0 =
      ap (λ (x : List ℕ). drop (length (heard_on name log.traffic)) x) heard.1 ∙ drop-append_seam (heard_on name log.traffic) heard.0 in
      heard.1 ∙ ap (λ (x : List ℕ). heard_on name log.traffic ++ x) (sym behind))

  pub its_peer : (replies : List ℕ) → read.replies ≡ replies → IfSome (peer_of name peers) (λ peer. peer.replies ≡ replies)
  its_peer replies same = by_peer (peer_of name peers) (∥∥₁_map serving (λ was.
      subst (λ (o : Option Peer). IfSome o (λ peer. peer.replies ≡ replies)) (sym (read_peer start log now peers name at read has first is was)) same))
    where
      by_peer : (o : Option Peer) → ∥ IfSome o (λ peer. peer.replies ≡ replies) ∥₁ → IfSome o (λ peer. peer.replies ≡ replies)
      by_peer None there = tt
      by_peer (Some peer) there = ∥∥₁_elim there (bytes_prop _ _) (λ h. h)
