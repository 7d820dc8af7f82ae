-- The places in the streams of open links stay right as bytes are read and links are dialed.
use Rattle.std.proofs.Common.{◌≡◌, ℕ, ◌+◌, Bool, true, false, not, ◌&&◌, ◌||◌, ◌==◌, List, [], ◌∷◌, ◌++◌, length, map, drop, refl, sym, subst, ◌∙◌, ap, arith, Ok, Err, OnOk, OnErr}
use Rattle.std.specs.Prelude.{filter, nat_le, if◌then◌else◌}
use Rattle.std.specs.List.{list_all}
use Rattle.std.proofs.lemmas.Grind.{common_steps, flat_map-append}
use Rattle.std.proofs.lemmas.List.Folds.{list_all-append, list_any-append}
use Rattle.std.specs.declared.result.Result.{Result}
use Rattle.spaces.specs.declared.place.Origin.{Origin}
use Rattle.link_trait.specs.declared.links.LinkName.{LinkName}
use Rattle.link_trait.specs.declared.dialer.Dial.{Dial}
use Rattle.link_trait.specs.declared.dialer.Traffic.{Traffic}
use Rattle.link_trait.specs.declared.dialer.Traffic.TheVariants.{Sent, Received, Ended}
use Rattle.link_trait.specs.declared.log.OpenLink.{OpenLink}
use Rattle.link_trait.specs.Links.{same_link, has_link, has_dial, has_ended, without_link, heard_in, heard_on, link_of, are_dialed, are_ended_last}
use Rattle.link_trait.proofs.LinkLemmas.{same_name, same_self}
use Rattle.link_trait.specs.Recorded.{LogState, is_placed, are_placed, names_of, place_in, moved, closed, is_read_out, are_read_out}

pub and_front : (a b : Bool) → (a && b) ≡ true → a ≡ true
and_front true b both = refl
and_front false b both = both

pub and_rest : (a b : Bool) → (a && b) ≡ true → b ≡ true
and_rest true b both = both
and_rest false b both = grind arith

pub both : (a b : Bool) → a ≡ true → b ≡ true → (a && b) ≡ true
both a b front rest = rw front rest

-- what each item keeps, all keep
pub all_mapped : {X Y : Type 0} (p : X → Bool) (q : Y → Bool) (f : X → Y) (xs : List X)
    → ((x : X) → p x ≡ true → q (f x) ≡ true) → list_all p xs ≡ true → list_all q (map f xs) ≡ true
all_mapped p q f [] each all = refl
all_mapped p q f (x ∷ xs) each all =
    both (q (f x)) _ (each x (and_front (p x) _ all)) (all_mapped p q f xs each (and_rest (p x) _ all))

pub all_kept : {X : Type 0} (p q : X → Bool) (xs : List X)
    → ((x : X) → p x ≡ true → q x ≡ true) → list_all p xs ≡ true → list_all q xs ≡ true
all_kept p q [] each all = refl
all_kept p q (x ∷ xs) each all =
    both (q x) _ (each x (and_front (p x) _ all)) (all_kept p q xs each (and_rest (p x) _ all))

-- a closed link

all_if : {X : Type 0} (p : X → Bool) (b : Bool) (x : X) (xs : List X)
    → p x ≡ true → list_all p xs ≡ true → list_all p (if b then x ∷ xs else xs) ≡ true
all_if p true x xs front rest = both (p x) _ front rest
all_if p false x xs front rest = rest

all_filtered : {X : Type 0} (p t : X → Bool) (xs : List X) → list_all p xs ≡ true → list_all p (filter t xs) ≡ true
all_filtered p t [] all = refl
all_filtered p t (x ∷ xs) all =
    all_if p (t x) x (filter t xs) (and_front (p x) _ all) (all_filtered p t xs (and_rest (p x) _ all))

pub placed_closed : (name : LinkName) (links : List OpenLink) (dials : List Dial) (traffic : List Traffic)
    → are_placed links dials traffic ≡ true → are_placed (closed name links) dials traffic ≡ true
placed_closed name links dials traffic placed =
    all_filtered (is_placed dials traffic) (λ open_link. not (same_link open_link.name name)) links placed

names_if : (b : Bool) (link : OpenLink) (links : List OpenLink)
    → names_of (if b then link ∷ links else links) ≡ (if b then link.name ∷ names_of links else names_of links)
names_if true link links = refl
names_if false link links = refl

pub names_closed : (name : LinkName) (links : List OpenLink) → names_of (closed name links) ≡ without_link name (names_of links)
names_closed name [] = refl
names_closed name (link ∷ links) =
    names_if (not (same_link link.name name)) link (closed name links)
    ∙ ap (λ names. if not (same_link link.name name) then link.name ∷ names else names) (names_closed name links)

-- a dialed link

pub dial_more : (name : LinkName) (dials more : List Dial) → has_dial name dials ≡ true → has_dial name (dials ++ more) ≡ true
dial_more name dials more has = rw (list_any-append, has) refl

pub dialed_more : (traffic : List Traffic) (dials more : List Dial) → are_dialed traffic dials ≡ true → are_dialed traffic (dials ++ more) ≡ true
dialed_more traffic dials more = all_kept (λ event. has_dial (link_of event) dials) (λ event. has_dial (link_of event) (dials ++ more)) traffic
    (λ event has. dial_more (link_of event) dials more has)

silent_if : (b : Bool) (name link : LinkName) (bytes : List ℕ) (dials : List Dial)
    → same_link link name ≡ b → has_dial link dials ≡ true → has_dial name dials ≡ false → heard_in name (Received link bytes) ≡ []
silent_if true name link bytes dials same has hasnt =
    let dialed : has_dial name dials ≡ true = subst (λ (n : LinkName). has_dial n dials ≡ true) (same_name link name same) has in
    grind (arith, dialed, hasnt)
silent_if false name link bytes dials same has hasnt = rw same refl

silent_in : (name : LinkName) (event : Traffic) (dials : List Dial)
    → has_dial (link_of event) dials ≡ true → has_dial name dials ≡ false → heard_in name event ≡ []
silent_in name (Received link bytes) dials has hasnt = silent_if (same_link link name) name link bytes dials refl has hasnt
silent_in name (Sent link bytes) dials has hasnt = refl
silent_in name (Ended link) dials has hasnt = refl

pub silent : (name : LinkName) (traffic : List Traffic) (dials : List Dial)
    → are_dialed traffic dials ≡ true → has_dial name dials ≡ false → heard_on name traffic ≡ []
silent name [] dials dialed hasnt = refl
silent name (event ∷ traffic) dials dialed hasnt =
    rw (silent_in name event dials (and_front (has_dial (link_of event) dials) _ dialed) hasnt)
    (silent name traffic dials (and_rest (has_dial (link_of event) dials) _ dialed) hasnt)

dial_last : (name : LinkName) (dials : List Dial) (to : Origin) → has_dial name (dials ++ record { link = name; to = to } ∷ []) ≡ true
dial_last name dials to = rw (list_any-append, same_self name) grind arith

placed_more : (links : List OpenLink) (dials more : List Dial) (traffic : List Traffic)
    → are_placed links dials traffic ≡ true → are_placed links (dials ++ more) traffic ≡ true
placed_more links dials more traffic = all_kept (is_placed dials traffic) (is_placed (dials ++ more) traffic) links
    (λ link is. both (has_dial link.name (dials ++ more)) _
    (dial_more link.name dials more (and_front (has_dial link.name dials) _ is))
    (and_rest (has_dial link.name dials) _ is))

pub placed_dialed : (links : List OpenLink) (dials : List Dial) (traffic : List Traffic) (name : LinkName) (to : Origin)
    → are_dialed traffic dials ≡ true → are_placed links dials traffic ≡ true → has_dial name dials ≡ false
    → are_placed (links ++ record { name = name; place = 0 } ∷ []) (dials ++ record { link = name; to = to } ∷ []) traffic ≡ true
placed_dialed links dials traffic name to dialed placed hasnt =
    let more : List Dial = record { link = name; to = to } ∷ [] in
    rw list_all-append (both (list_all (is_placed (dials ++ more) traffic) links) (list_all (is_placed (dials ++ more) traffic) (record { name = name; place = 0 } ∷ []))
    (placed_more links dials more traffic placed)
    (rw (dial_last name dials to, silent name traffic dials dialed hasnt) refl))

-- an event

pub dialed_event : (traffic : List Traffic) (event : Traffic) (dials : List Dial)
    → are_dialed traffic dials ≡ true → has_dial (link_of event) dials ≡ true → are_dialed (traffic ++ event ∷ []) dials ≡ true
dialed_event traffic event dials dialed has = rw (list_all-append, dialed, has) refl

heard_more : (name : LinkName) (traffic : List Traffic) (event : Traffic)
    → heard_on name (traffic ++ event ∷ []) ≡ heard_on name traffic ++ heard_in name event
heard_more name traffic event = grind (arith, common_steps, flat_map-append)

pub placed_event : (links : List OpenLink) (dials : List Dial) (traffic : List Traffic) (event : Traffic)
    → ((name : LinkName) → heard_in name event ≡ []) → are_placed links dials traffic ≡ true → are_placed links dials (traffic ++ event ∷ []) ≡ true
placed_event links dials traffic event none placed =
    all_kept (is_placed dials traffic) (is_placed dials (traffic ++ event ∷ [])) links (λ link is.
    rw (heard_more link.name traffic event, none link.name) (grind (arith, common_steps, is))) placed

received_if : (b : Bool) (dials : List Dial) (traffic : List Traffic) (name : LinkName) (bytes : List ℕ) (place : ℕ) (link : OpenLink)
    → same_link name link.name ≡ b → place ≡ length (heard_on name traffic) + length bytes → is_placed dials traffic link ≡ true
    → is_placed dials (traffic ++ Received name bytes ∷ []) (moved name place link) ≡ true
received_if true dials traffic name bytes place link same is was =
    let at : place ≡ length (heard_on link.name traffic) + length bytes =
    subst (λ (n : LinkName). place ≡ length (heard_on n traffic) + length bytes) (same_name name link.name same) is in
    rw (heard_more link.name traffic (Received name bytes), same)
    (both (has_dial link.name dials) (place == length (heard_on link.name traffic ++ bytes))
    (and_front (has_dial link.name dials) _ was) (grind (arith, common_steps, at)))
received_if false dials traffic name bytes place link same is was =
    rw (heard_more link.name traffic (Received name bytes), same) (grind (arith, common_steps, was))

pub placed_received : (links : List OpenLink) (dials : List Dial) (traffic : List Traffic) (name : LinkName) (bytes : List ℕ) (place : ℕ)
    → place ≡ length (heard_on name traffic) + length bytes → are_placed links dials traffic ≡ true
    → are_placed (map (moved name place) links) dials (traffic ++ Received name bytes ∷ []) ≡ true
placed_received links dials traffic name bytes place is placed =
    all_mapped (is_placed dials traffic) (is_placed dials (traffic ++ Received name bytes ∷ [])) (moved name place) links
    (λ link was. received_if (same_link name link.name) dials traffic name bytes place link refl is was) placed

pub names_moved : (name : LinkName) (place : ℕ) (links : List OpenLink) → names_of (map (moved name place) links) ≡ names_of links
names_moved name place [] = refl
names_moved name place (link ∷ links) = ap (λ names. link.name ∷ names) (names_moved name place links)

-- an open link

found_if : (b : Bool) (name : LinkName) (link : OpenLink) (links : List OpenLink) (dials : List Dial) (traffic : List Traffic)
    → same_link link.name name ≡ b → is_placed dials traffic link ≡ true
    → (has_link name (names_of links) ≡ true → (has_dial name dials ≡ true) × (place_in name links ≡ length (heard_on name traffic)))
    → has_link name (names_of (link ∷ links)) ≡ true
    → (has_dial name dials ≡ true) × (place_in name (link ∷ links) ≡ length (heard_on name traffic))
found_if true name link links dials traffic same placed later has =
    let at : link.place ≡ length (heard_on link.name traffic) =
    grind (arith, common_steps, and_rest (has_dial link.name dials) (link.place == length (heard_on link.name traffic)) placed) in
    let e = same_name link.name name same in (
      subst (λ (n : LinkName). has_dial n dials ≡ true) e (and_front (has_dial link.name dials) _ placed),
      rw same (subst (λ (n : LinkName). link.place ≡ length (heard_on n traffic)) e at),
    )
found_if false name link links dials traffic same placed later has =
    rw same (later (rw same at has))

pub found : (name : LinkName) (links : List OpenLink) (dials : List Dial) (traffic : List Traffic)
    → are_placed links dials traffic ≡ true → has_link name (names_of links) ≡ true
    → (has_dial name dials ≡ true) × (place_in name links ≡ length (heard_on name traffic))
found name [] dials traffic placed has = grind arith
found name (link ∷ links) dials traffic placed has =
    found_if (same_link link.name name) name link links dials traffic refl (and_front (is_placed dials traffic link) _ placed)
    (found name links dials traffic (and_rest (is_placed dials traffic link) _ placed)) has

-- a link's end

or_right : (a b : Bool) → b ≡ true → (a || b) ≡ true
or_right true b right = refl
or_right false b right = right

or_left : (a b : Bool) → a ≡ true → (a || b) ≡ true
or_left true b left = refl
or_left false b left = grind (arith, left)

-- what adds no bytes of a link whose end was read leaves each end the last
pub ended_last_event : (traffic : List Traffic) (event : Traffic)
    → ((link : LinkName) → has_ended link traffic ≡ true → heard_in link event ≡ [])
    → are_ended_last traffic ≡ true → are_ended_last (traffic ++ event ∷ []) ≡ true
ended_last_event [] (Sent name bytes) none last = refl
ended_last_event [] (Received name bytes) none last = refl
ended_last_event [] (Ended name) none last = refl
ended_last_event (Sent name bytes ∷ traffic) event none last = ended_last_event traffic event none last
ended_last_event (Received name bytes ∷ traffic) event none last = ended_last_event traffic event none last
ended_last_event (Ended name ∷ traffic) event none last =
    let front : (length (heard_on name traffic) == 0) ≡ true = and_front (length (heard_on name traffic) == 0) (are_ended_last traffic) last in
    let silent : heard_in name event ≡ [] = none name (or_left (same_link name name) (has_ended name traffic) (same_self name)) in
    both (length (heard_on name (traffic ++ event ∷ [])) == 0) (are_ended_last (traffic ++ event ∷ []))
    (rw (heard_more name traffic event, silent) (grind (arith, common_steps, front)))
    (ended_last_event traffic event (λ link has. none link (or_right (same_link name link) (has_ended link traffic) has))
    (and_rest (length (heard_on name traffic) == 0) (are_ended_last traffic) last))

other_if : (b : Bool) (name link : LinkName) (bytes : List ℕ) (traffic : List Traffic)
    → same_link name link ≡ b → has_ended name traffic ≡ false → has_ended link traffic ≡ true → heard_in link (Received name bytes) ≡ []
other_if true name link bytes traffic same none has =
    let ended : has_ended name traffic ≡ true = subst (λ (n : LinkName). has_ended n traffic ≡ true) (sym (same_name name link same)) has in
    grind (arith, ended, none)
other_if false name link bytes traffic same none has = rw same refl

-- bytes of a link whose end wasn't read
pub ended_last_received : (traffic : List Traffic) (name : LinkName) (bytes : List ℕ) → has_ended name traffic ≡ false
    → are_ended_last traffic ≡ true → are_ended_last (traffic ++ Received name bytes ∷ []) ≡ true
ended_last_received traffic name bytes none last =
    ended_last_event traffic (Received name bytes) (λ link has. other_if (same_link name link) name link bytes traffic refl none has) last

-- a stream that was read to its end

more_read_out : (streams : LinkName → List ℕ) (traffic : List Traffic) (event other : Traffic)
    → is_read_out streams traffic other ≡ true → is_read_out streams (traffic ++ event ∷ []) other ≡ true
more_read_out streams traffic event (Sent name bytes) was = refl
more_read_out streams traffic event (Received name bytes) was = refl
more_read_out streams traffic event (Ended name) was = rw (heard_more name traffic event) (grind (arith, common_steps, was))

pub read_out_event : (streams : LinkName → List ℕ) (traffic : List Traffic) (event : Traffic)
    → is_read_out streams (traffic ++ event ∷ []) event ≡ true → are_read_out streams traffic ≡ true
    → are_read_out streams (traffic ++ event ∷ []) ≡ true
read_out_event streams traffic event is read_out =
    rw list_all-append (both (list_all (is_read_out streams (traffic ++ event ∷ [])) traffic) (list_all (is_read_out streams (traffic ++ event ∷ [])) (event ∷ []))
    (all_kept (is_read_out streams traffic) (is_read_out streams (traffic ++ event ∷ [])) traffic (λ other was. more_read_out streams traffic event other was) read_out)
    (rw is refl))

-- the end is read where nothing is left
pub read_out_ended : (streams : LinkName → List ℕ) (traffic : List Traffic) (name : LinkName)
    → drop (length (heard_on name traffic)) (streams name) ≡ [] → are_read_out streams traffic ≡ true
    → are_read_out streams (traffic ++ Ended name ∷ []) ≡ true
read_out_ended streams traffic name none read_out =
    let short : length (drop (length (heard_on name traffic)) (streams name)) ≡ 0 = ap length none in
    read_out_event streams traffic (Ended name) (rw (heard_more name traffic (Ended name)) (grind (arith, common_steps, short))) read_out

ended_if : (b : Bool) (streams : LinkName → List ℕ) (traffic events : List Traffic) (name link : LinkName)
    → same_link link name ≡ b → is_read_out streams traffic (Ended link) ≡ true
    → (has_ended name events ≡ true → nat_le (length (streams name)) (length (heard_on name traffic)) ≡ true)
    → (same_link link name || has_ended name events) ≡ true → nat_le (length (streams name)) (length (heard_on name traffic)) ≡ true
ended_if true streams traffic events name link same is later has =
    subst (λ (n : LinkName). nat_le (length (streams n)) (length (heard_on n traffic)) ≡ true) (same_name link name same) is
ended_if false streams traffic events name link same is later has = later (rw same at has)

ended_read_out : (streams : LinkName → List ℕ) (traffic events : List Traffic) (name : LinkName)
    → list_all (is_read_out streams traffic) events ≡ true → has_ended name events ≡ true
    → nat_le (length (streams name)) (length (heard_on name traffic)) ≡ true
ended_read_out streams traffic [] name read_out has = grind (arith, has)
ended_read_out streams traffic (Sent link bytes ∷ events) name read_out has = ended_read_out streams traffic events name read_out has
ended_read_out streams traffic (Received link bytes ∷ events) name read_out has = ended_read_out streams traffic events name read_out has
ended_read_out streams traffic (Ended link ∷ events) name read_out has =
    ended_if (same_link link name) streams traffic events name link refl (and_front (is_read_out streams traffic (Ended link)) (list_all (is_read_out streams traffic) events) read_out)
    (ended_read_out streams traffic events name (and_rest (is_read_out streams traffic (Ended link)) (list_all (is_read_out streams traffic) events) read_out)) has

none_left_if : (b : Bool) (streams : LinkName → List ℕ) (traffic : List Traffic) (name : LinkName) → has_ended name traffic ≡ b
    → are_read_out streams traffic ≡ true → (drop (length (heard_on name traffic)) (streams name) ≡ [] → ⊥) → b ≡ false
none_left_if true streams traffic name has read_out left =
    let long = ended_read_out streams traffic traffic name read_out has in
    absurd (left (grind (arith, common_steps, long)))
none_left_if false streams traffic name has read_out left = refl

-- where something is left, the end wasn't read
pub none_left : (streams : LinkName → List ℕ) (traffic : List Traffic) (name : LinkName)
    → are_read_out streams traffic ≡ true → (drop (length (heard_on name traffic)) (streams name) ≡ [] → ⊥) → has_ended name traffic ≡ false
none_left streams traffic name read_out left = none_left_if (has_ended name traffic) streams traffic name refl read_out left

-- bytes that were written or read leave what was read out
pub read_out_received : (streams : LinkName → List ℕ) (traffic : List Traffic) (name : LinkName) (bytes : List ℕ)
    → are_read_out streams traffic ≡ true → are_read_out streams (traffic ++ Received name bytes ∷ []) ≡ true
read_out_received streams traffic name bytes read_out = read_out_event streams traffic (Received name bytes) refl read_out

pub read_out_sent : (streams : LinkName → List ℕ) (traffic : List Traffic) (name : LinkName) (bytes : List ℕ)
    → are_read_out streams traffic ≡ true → are_read_out streams (traffic ++ Sent name bytes ∷ []) ≡ true
read_out_sent streams traffic name bytes read_out = read_out_event streams traffic (Sent name bytes) refl read_out

-- what holds before a step and behind it holds also where there was no memory
pub still : {X E : Type 0} (P : LogState → Type 0) (result : Result X E) (old new more : LogState)
    → OnOk result (new ≡ more) → OnErr result (new ≡ old) → P old → P more → P new
still P (Ok x) old new more ok err before behind = subst P (sym ok) behind
still P (Err e) old new more ok err before behind = subst P (sym err) before
