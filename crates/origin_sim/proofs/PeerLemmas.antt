-- Peers of open links: which one a list gives for a name, after one is added, changed or taken out.
use Rattle.std.proofs.Common.{◌≡◌, ℕ, ◌+◌, ◌||◌, ◌<◌, suc, zero, Bool, true, false, cond, not, List, [], ◌∷◌, ◌++◌, length, get_or, Option, Some, None, ◌⊎◌, inl, inr, refl, sym, ap, subst, ◌∙◌, slice_get}
use Rattle.std.specs.Prelude.{filter}
use Rattle.std.specs.Option.{option_or}
use Rattle.std.specs.List.{position_or_len, position_from}
use Rattle.std.specs.Prelude.{nat_lt}
use Rattle.std.proofs.Math.ListN.{set}
use Rattle.std.proofs.lemmas.Option.{get_or_from_slice_get}
use Rattle.std.proofs.lemmas.List.Folds.{find-append, find-set, find_past, find_at}
use Rattle.std.proofs.lemmas.Iterator.Adapters.{position_from-zero}
use Rattle.link_trait.specs.declared.links.LinkName.{LinkName}
use Rattle.link_trait.specs.Links.{same_link, has_link, without_link}
use Rattle.link_trait.proofs.LinkLemmas.{same_name, same_self}
use Rattle.origin_sim.specs.declared.peers.Peer.{Peer}
use Rattle.origin_sim.specs.Peers.{peer_of, names_of}

-- a peer that is found has the name

name_if : (name : LinkName) (p peer : Peer) (b : Bool) (later : Option Peer) → same_link p.name name ≡ b
    → (later ≡ Some peer → peer.name ≡ name) → cond b (Some p) later ≡ Some peer → peer.name ≡ name
name_if name p peer true later same rest found =
    let it : p ≡ peer = cc found in
    ap (λ (q : Peer). q.name) (sym it) ∙ same_name p.name name same
name_if name p peer false later same rest found = rest found

pub found_name : (name : LinkName) (peers : List Peer) (peer : Peer) → peer_of name peers ≡ Some peer → peer.name ≡ name
found_name name [] peer is = cc is
found_name name (p ∷ peers) peer is = name_if name p peer (same_link p.name name) (peer_of name peers) refl (found_name name peers peer) is

pub other_link : (name other link : LinkName) → link ≡ name → same_link name other ≡ false → same_link link other ≡ false
other_link name other link is differ = subst (λ (n : LinkName). same_link n other ≡ false) (sym is) differ

-- one peer is changed

pub changed_same : (name : LinkName) (peers : List Peer) (at : ℕ) (new : Peer)
    → at ≡ position_or_len (λ peer. same_link peer.name name) peers → at < length peers → new.name ≡ name
    → peer_of name (set peers at new) ≡ Some new
changed_same name peers at new first within is =
    find-set (λ (peer : Peer). same_link peer.name name) peers at new first within
    (subst (λ (n : LinkName). same_link n name ≡ true) (sym is) (same_self name))

pub changed_other : (name other : LinkName) (peers : List Peer) (at : ℕ) (old new : Peer)
    → slice_get peers at ≡ Some old → old.name ≡ name → new.name ≡ name → same_link name other ≡ false
    → peer_of other (set peers at new) ≡ peer_of other peers
changed_other name other peers at old new here was is differ =
    let read : get_or peers at new ≡ old = get_or_from_slice_get peers at old new here in
    find_past (λ (peer : Peer). same_link peer.name other) peers at new new
    (subst (λ (p : Peer). same_link p.name other ≡ false) (sym read) (other_link name other old.name was differ))
    (other_link name other new.name is differ)

pub changed_names : (peers : List Peer) (at : ℕ) (old new : Peer)
    → slice_get peers at ≡ Some old → new.name ≡ old.name → names_of (set peers at new) ≡ names_of peers
changed_names [] at old new here is = refl
changed_names (p ∷ peers) zero old new here is =
    let it : p ≡ old = cc here in
    ap (λ (n : LinkName). n ∷ names_of peers) (is ∙ ap (λ (q : Peer). q.name) (sym it))
changed_names (p ∷ peers) (suc at) old new here is = ap (λ (names : List LinkName). p.name ∷ names) (changed_names peers at old new here is)

-- one is added

added_if : (o : Option Peer) (b : Bool) (new peer : Peer) → option_or o (cond b (Some new) None) ≡ Some peer
    → (o ≡ Some peer) ⊎ ((b ≡ true) × (peer ≡ new))
added_if (Some p) b new peer is = inl is
added_if None true new peer is = inr (refl, cc is)
added_if None false new peer is = cc is

pub added : (other : LinkName) (peers : List Peer) (new peer : Peer) → peer_of other (peers ++ new ∷ []) ≡ Some peer
    → (peer_of other peers ≡ Some peer) ⊎ ((same_link new.name other ≡ true) × (peer ≡ new))
added other peers new peer is =
    added_if (peer_of other peers) (same_link new.name other) new peer
    (sym (find-append (λ (p : Peer). same_link p.name other) peers (new ∷ [])) ∙ is)

-- one is taken out

abbrev pub without : LinkName → List Peer → List Peer
without name peers = filter (λ peer. not (same_link peer.name name)) peers

gone_if : (name : LinkName) (p : Peer) (rest : List Peer) (b : Bool) → same_link p.name name ≡ b → peer_of name rest ≡ None
    → peer_of name (cond (not b) (p ∷ rest) rest) ≡ None
gone_if name p rest true is none = none
gone_if name p rest false is none = rw is none

closed_gone : (name : LinkName) (peers : List Peer) → peer_of name (without name peers) ≡ None
closed_gone name [] = refl
closed_gone name (p ∷ peers) = gone_if name p (without name peers) (same_link p.name name) refl (closed_gone name peers)

kept_if : (name other : LinkName) (p : Peer) (peers rest : List Peer) (b : Bool) → same_link p.name name ≡ b → same_link name other ≡ false
    → peer_of other rest ≡ peer_of other peers
    → peer_of other (cond (not b) (p ∷ rest) rest) ≡ cond (same_link p.name other) (Some p) (peer_of other peers)
kept_if name other p peers rest true is differ same = rw (other_link name other p.name (same_name p.name name is) differ) same
kept_if name other p peers rest false is differ same = ap (cond (same_link p.name other) (Some p)) same

closed_kept : (name other : LinkName) (peers : List Peer) → same_link name other ≡ false → peer_of other (without name peers) ≡ peer_of other peers
closed_kept name other [] differ = refl
closed_kept name other (p ∷ peers) differ =
    kept_if name other p peers (without name peers) (same_link p.name name) refl differ (closed_kept name other peers differ)

pub closed_found : (name other : LinkName) (peers : List Peer) (peer : Peer) → peer_of other (without name peers) ≡ Some peer
    → peer_of other peers ≡ Some peer
closed_found name other peers peer is = by_test (same_link name other) refl
  where
    by_test : (b : Bool) → same_link name other ≡ b → peer_of other peers ≡ Some peer
    by_test true same =
        let gone : peer_of other (without name peers) ≡ None =
        subst (λ (n : LinkName). peer_of n (without name peers) ≡ None) (same_name name other same) (closed_gone name peers) in
        cc (sym gone ∙ is)
    by_test false differ = sym (closed_kept name other peers differ) ∙ is

names_if : (b : Bool) (peer : Peer) (peers : List Peer) → names_of (cond b (peer ∷ peers) peers) ≡ cond b (peer.name ∷ names_of peers) (names_of peers)
names_if true peer peers = refl
names_if false peer peers = refl

pub closed_names : (name : LinkName) (peers : List Peer) → names_of (without name peers) ≡ without_link name (names_of peers)
closed_names name [] = refl
closed_names name (p ∷ peers) =
    names_if (not (same_link p.name name)) p (without name peers)
    ∙ ap (λ (names : List LinkName). cond (not (same_link p.name name)) (p.name ∷ names) names) (closed_names name peers)

-- an open link's peer is found, and where

find_if : (b h : Bool) (p : Peer) (later : Option Peer) → (h ≡ true → (peer : Peer) × (later ≡ Some peer)) → (b || h) ≡ true
    → (peer : Peer) × (cond b (Some p) later ≡ Some peer)
find_if true h p later rest has = (p, refl)
find_if false h p later rest has = rest has

pub find_peer : (name : LinkName) (peers : List Peer) → has_link name (names_of peers) ≡ true → (peer : Peer) × (peer_of name peers ≡ Some peer)
find_peer name [] has = cc has
find_peer name (p ∷ peers) has = find_if (same_link p.name name) (has_link name (names_of peers)) p (peer_of name peers) (find_peer name peers) has

none_if : (b h : Bool) (k : ℕ) (later : Option ℕ) → (later ≡ None → h ≡ false) → cond b (Some k) later ≡ None → (b || h) ≡ false
none_if true h k later rest none = cc none
none_if false h k later rest none = rest none

pub no_place : (name : LinkName) (peers : List Peer) (k : ℕ) → position_from (λ peer. same_link peer.name name) k peers ≡ None
    → has_link name (names_of peers) ≡ false
no_place name [] k none = refl
no_place name (p ∷ peers) k none =
    none_if (same_link p.name name) (has_link name (names_of peers)) k (position_from (λ peer. same_link peer.name name) (k + 1) peers)
    (no_place name peers (k + 1)) none

place_if : (b : Bool) (n place : ℕ) → cond b (Some n) None ≡ Some place → place ≡ n
place_if true n place is = cc is
place_if false n place is = cc is

pub first_place : (name : LinkName) (peers : List Peer) (place : ℕ) → position_from (λ peer. same_link peer.name name) 0 peers ≡ Some place
    → place ≡ position_or_len (λ peer. same_link peer.name name) peers
first_place name peers place is =
    let test = λ (peer : Peer). same_link peer.name name in
    place_if (nat_lt (position_or_len test peers) (length peers)) (position_or_len test peers) place (position_from-zero test peers ∙ is)

pub here : (name : LinkName) (peers : List Peer) (at : ℕ) (peer : Peer) → peer_of name peers ≡ Some peer
    → at ≡ position_or_len (λ peer. same_link peer.name name) peers → slice_get peers at ≡ Some peer
here name peers at peer found first = ap (slice_get peers) first ∙ sym (find_at (λ (p : Peer). same_link p.name name) peers) ∙ found
