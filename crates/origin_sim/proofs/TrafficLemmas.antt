-- What was written, read and answered on a link, as one more event comes, and where a link wasn't dialed.
use Rattle.std.proofs.Common.{◌≡◌, ℕ, Bool, true, false, cond, ◌||◌, List, [], ◌∷◌, ◌++◌, Option, Some, None, refl, sym, ap, subst, ◌∙◌, append-nil}
use Rattle.std.specs.Prelude.{find, option_map, reverse}
use Rattle.std.specs.Option.{option_or}
use Rattle.std.proofs.lemmas.Grind.{flat_map-append}
use Rattle.std.proofs.lemmas.List.{reverse-append, reverse-reverse}
use Rattle.std.proofs.lemmas.List.Folds.{list_any-append, find-append}
use Rattle.link_trait.specs.declared.links.LinkName.{LinkName}
use Rattle.link_trait.specs.declared.dialer.Dial.{Dial}
use Rattle.link_trait.specs.declared.dialer.Traffic.{Traffic}
use Rattle.link_trait.specs.declared.dialer.Traffic.TheVariants.{Sent, Received, Ended}
use Rattle.link_trait.specs.Links.{same_link, has_dial, heard_in, heard_on, has_ended, is_end_of, are_dialed, link_of}
use Rattle.link_trait.proofs.LinkLemmas.{same_name, same_self}
use Rattle.link_trait.proofs.LogLemmas.{and_front, and_rest}
use Rattle.spaces.specs.declared.place.Origin.{Origin}
use Rattle.wire_head.specs.Lines.{head_len}
use Rattle.origin_sim.specs.Exchanges.{Exchange, dialed_to, AreTo, written_in, written_on, heads_on, replies_on, is_whole, are_on, AreOf}
use Rattle.origin_sim.proofs.PeerLemmas.{other_link}

-- one more event

pub written_more : (name : LinkName) (traffic : List Traffic) (event : Traffic)
    → written_on name (traffic ++ event ∷ []) ≡ written_on name traffic ++ written_in name event
written_more name traffic event =
    flat_map-append (written_in name) traffic (event ∷ [])
    ∙ ap (λ (x : List ℕ). written_on name traffic ++ x) (append-nil (written_in name event))

pub heard_more : (name : LinkName) (traffic : List Traffic) (event : Traffic)
    → heard_on name (traffic ++ event ∷ []) ≡ heard_on name traffic ++ heard_in name event
heard_more name traffic event =
    flat_map-append (heard_in name) traffic (event ∷ [])
    ∙ ap (λ (x : List ℕ). heard_on name traffic ++ x) (append-nil (heard_in name event))

or_false : (b : Bool) → (b || false) ≡ b
or_false true = refl
or_false false = refl

pub ended_more : (name : LinkName) (traffic : List Traffic) (event : Traffic)
    → has_ended name (traffic ++ event ∷ []) ≡ (has_ended name traffic || is_end_of name event)
ended_more name traffic event =
    list_any-append (is_end_of name) traffic (event ∷ [])
    ∙ ap (λ (b : Bool). has_ended name traffic || b) (or_false (is_end_of name event))

-- the exchanges of one more event

last_first : (traffic : List Traffic) (event : Traffic) (exchanges : List Exchange)
    → AreOf (event ∷ reverse traffic) exchanges → AreOf (reverse (traffic ++ event ∷ [])) exchanges
last_first traffic event exchanges are = subst (λ (past : List Traffic). AreOf past exchanges) (sym (reverse-append traffic (event ∷ []))) are

pub of_sent : (name : LinkName) (bytes part : List ℕ) (traffic : List Traffic) (earlier more : List Exchange)
    → AreOf (reverse traffic) earlier → are_on name more ≡ true
    → written_on name traffic ++ bytes ≡ heads_on name (earlier ++ more) ++ part → head_len part ≡ None
    → AreOf (reverse (traffic ++ Sent name bytes ∷ [])) (earlier ++ more)
of_sent name bytes part traffic earlier more are on cut none =
    let written : written_on name (reverse (reverse traffic)) ++ bytes ≡ heads_on name (earlier ++ more) ++ part =
    ap (λ (events : List Traffic). written_on name events ++ bytes) (reverse-reverse traffic) ∙ cut in
    last_first traffic (Sent name bytes) (earlier ++ more) (earlier, more, are, refl, on, (part, written, none))

pub of_received : (name : LinkName) (bytes rest : List ℕ) (traffic : List Traffic) (exchanges : List Exchange)
    → AreOf (reverse traffic) exchanges → replies_on name exchanges ≡ heard_on name traffic ++ (bytes ++ rest)
    → AreOf (reverse (traffic ++ Received name bytes ∷ [])) exchanges
of_received name bytes rest traffic exchanges are next =
    let heard : replies_on name exchanges ≡ heard_on name (reverse (reverse traffic)) ++ (bytes ++ rest) =
    next ∙ ap (λ (events : List Traffic). heard_on name events ++ (bytes ++ rest)) (sym (reverse-reverse traffic)) in
    last_first traffic (Received name bytes) exchanges (are, (rest, heard))

pub of_ended : (name : LinkName) (traffic : List Traffic) (exchanges : List Exchange)
    → AreOf (reverse traffic) exchanges → (has_ended name traffic ≡ false → replies_on name exchanges ≡ heard_on name traffic)
    → AreOf (reverse (traffic ++ Ended name ∷ [])) exchanges
of_ended name traffic exchanges are none =
    let all : has_ended name (reverse (reverse traffic)) ≡ false → replies_on name exchanges ≡ heard_on name (reverse (reverse traffic)) =
    subst (λ (events : List Traffic). has_ended name events ≡ false → replies_on name exchanges ≡ heard_on name events) (sym (reverse-reverse traffic)) none in
    last_first traffic (Ended name) exchanges (are, all)

-- other links

off_if : (name other : LinkName) (x : Exchange) → (same_link x.link name) ≡ true → same_link name other ≡ false → same_link x.link other ≡ false
off_if name other x on differ = other_link name other x.link (same_name x.link name on) differ

pub off_heads : (name other : LinkName) (xs : List Exchange) → are_on name xs ≡ true → same_link name other ≡ false → heads_on other xs ≡ []
off_heads name other [] on differ = refl
off_heads name other (x ∷ xs) on differ =
    let front = and_front (same_link x.link name) (is_whole x.head) (and_front _ (are_on name xs) on) in
    rw (off_if name other x front differ) (off_heads name other xs (and_rest _ (are_on name xs) on) differ)

pub off_replies : (name other : LinkName) (xs : List Exchange) → are_on name xs ≡ true → same_link name other ≡ false → replies_on other xs ≡ []
off_replies name other [] on differ = refl
off_replies name other (x ∷ xs) on differ =
    let front = and_front (same_link x.link name) (is_whole x.head) (and_front _ (are_on name xs) on) in
    rw (off_if name other x front differ) (off_replies name other xs (and_rest _ (are_on name xs) on) differ)

-- dials

origin_or : (o p : Option Dial) (to : Origin) → option_map (λ dial. dial.to) o ≡ Some to → option_map (λ dial. dial.to) (option_or o p) ≡ Some to
origin_or (Some d) p to is = is
origin_or None p to is = cc is

pub origin_more : (name : LinkName) (dials more : List Dial) (to : Origin) → dialed_to name dials ≡ Some to → dialed_to name (dials ++ more) ≡ Some to
origin_more name dials more to is =
    ap (option_map (λ dial. dial.to)) (find-append (λ (dial : Dial). same_link dial.link name) dials more)
    ∙ origin_or (find (λ dial. same_link dial.link name) dials) (find (λ dial. same_link dial.link name) more) to is

pub to_dials : (dials more : List Dial) (xs : List Exchange) → AreTo dials xs → AreTo (dials ++ more) xs
to_dials dials more [] are = tt
to_dials dials more (x ∷ xs) are = (origin_more x.link dials more x.to are.0, to_dials dials more xs are.1)

none_if : (b h : Bool) (d : Dial) (later : Option Dial) → (h ≡ false → option_map (λ dial. dial.to) later ≡ None) → (b || h) ≡ false
    → option_map (λ dial. dial.to) (cond b (Some d) later) ≡ None
none_if true h d later rest none = cc none
none_if false h d later rest none = rest none

pub origin_none : (name : LinkName) (dials : List Dial) → has_dial name dials ≡ false → dialed_to name dials ≡ None
origin_none name [] none = refl
origin_none name (d ∷ dials) none =
    none_if (same_link d.link name) (has_dial name dials) d (find (λ dial. same_link dial.link name) dials) (origin_none name dials) none

last_if : (b h : Bool) (d : Dial) (later : Option Dial) (to : Origin) → (h ≡ false → option_map (λ dial. dial.to) later ≡ Some to) → (b || h) ≡ false
    → option_map (λ dial. dial.to) (cond b (Some d) later) ≡ Some to
last_if true h d later to rest none = cc none
last_if false h d later to rest none = rest none

pub origin_last : (name : LinkName) (dials : List Dial) (to : Origin) → has_dial name dials ≡ false
    → dialed_to name (dials ++ record { link = name; to = to } ∷ []) ≡ Some to
origin_last name [] to none = rw (same_self name) refl
origin_last name (d ∷ dials) to none =
    last_if (same_link d.link name) (has_dial name dials) d (find (λ dial. same_link dial.link name) (dials ++ record { link = name; to = to } ∷ [])) to
    (origin_last name dials to) none

-- a link that wasn't dialed

undialed_exchange : (name : LinkName) (dials : List Dial) (x : Exchange) → dialed_to name dials ≡ None → dialed_to x.link dials ≡ Some x.to → same_link x.link name ≡ false
undialed_exchange name dials x none to = by_test (same_link x.link name) refl
  where
    by_test : (b : Bool) → same_link x.link name ≡ b → same_link x.link name ≡ false
    by_test false is = is
    by_test true is =
        let here : dialed_to name dials ≡ Some x.to = subst (λ (n : LinkName). dialed_to n dials ≡ Some x.to) (same_name x.link name is) to in
        cc (sym none ∙ here)

pub undialed_heads : (name : LinkName) (dials : List Dial) (xs : List Exchange) → dialed_to name dials ≡ None → AreTo dials xs → heads_on name xs ≡ []
undialed_heads name dials [] none are = refl
undialed_heads name dials (x ∷ xs) none are = rw (undialed_exchange name dials x none are.0) (undialed_heads name dials xs none are.1)

pub undialed_replies : (name : LinkName) (dials : List Dial) (xs : List Exchange) → dialed_to name dials ≡ None → AreTo dials xs → replies_on name xs ≡ []
undialed_replies name dials [] none are = refl
undialed_replies name dials (x ∷ xs) none are = rw (undialed_exchange name dials x none are.0) (undialed_replies name dials xs none are.1)

undialed_event : (name : LinkName) (dials : List Dial) (event : Traffic) → has_dial name dials ≡ false → has_dial (link_of event) dials ≡ true → same_link (link_of event) name ≡ false
undialed_event name dials event none has = by_test (same_link (link_of event) name) refl
  where
    by_test : (b : Bool) → same_link (link_of event) name ≡ b → same_link (link_of event) name ≡ false
    by_test false is = is
    by_test true is =
        let here : has_dial name dials ≡ true = subst (λ (n : LinkName). has_dial n dials ≡ true) (same_name (link_of event) name is) has in
        cc (sym none ∙ here)

silent_written : (name : LinkName) (event : Traffic) → same_link (link_of event) name ≡ false → written_in name event ≡ []
silent_written name (Sent link bytes) differ = rw differ refl
silent_written name (Received link bytes) differ = refl
silent_written name (Ended link) differ = refl

silent_end : (name : LinkName) (event : Traffic) → same_link (link_of event) name ≡ false → is_end_of name event ≡ false
silent_end name (Sent link bytes) differ = refl
silent_end name (Received link bytes) differ = refl
silent_end name (Ended link) differ = differ

pub undialed_written : (name : LinkName) (traffic : List Traffic) (dials : List Dial)
    → are_dialed traffic dials ≡ true → has_dial name dials ≡ false → written_on name traffic ≡ []
undialed_written name [] dials dialed none = refl
undialed_written name (event ∷ traffic) dials dialed none =
    rw (silent_written name event (undialed_event name dials event none (and_front (has_dial (link_of event) dials) _ dialed)))
    (undialed_written name traffic dials (and_rest (has_dial (link_of event) dials) _ dialed) none)

pub undialed_ended : (name : LinkName) (traffic : List Traffic) (dials : List Dial)
    → are_dialed traffic dials ≡ true → has_dial name dials ≡ false → has_ended name traffic ≡ false
undialed_ended name [] dials dialed none = refl
undialed_ended name (event ∷ traffic) dials dialed none =
    rw (silent_end name event (undialed_event name dials event none (and_front (has_dial (link_of event) dials) _ dialed)))
    (undialed_ended name traffic dials (and_rest (has_dial (link_of event) dials) _ dialed) none)
