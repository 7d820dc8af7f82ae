-- What a book may be asked, and what it replies: a function of its roster, its names and its past.
use Rattle.std.specs.Prelude.{◌≡◌, ℕ, ◌+◌, Bool, true, false, not, ◌&&◌, ◌||◌, ◌==◌, nat_lt, nat_le, if◌then◌else◌, IsTrue, List, [], ◌∷◌, ◌++◌, length, reverse, Option, None, Some, is_some, filter, find, unwrap_or, option_map, option_and_then, fold, bytes_eq}
use Rattle.std.specs.List.{list_any}
use Rattle.spaces.specs.declared.roster.Roster.{Roster}
use Rattle.spaces.specs.declared.site.Site.{Site}
use Rattle.spaces.specs.ProtectionSpaces.{ProtectionSpace}
use Rattle.spaces.specs.declared.site.Target.{Target}
use Rattle.spaces.specs.declared.site.Target.TheVariants.{Server}
use Rattle.spaces.specs.declared.space.Scheme.{Scheme}
use Rattle.spaces.specs.declared.space.Scheme.TheVariants.{Basic, Digest, Negotiate}
use Rattle.spaces.specs.Sites.{numbered, site, path, same_site, same_origin, same_target, is_on_route}
use Rattle.spaces.specs.Paths.{dir_of, covers}
use Rattle.auth_events.specs.declared.journal.Gift.{Gift}
use Rattle.auth_events.specs.declared.journal.Call.{Call}
use Rattle.auth_events.specs.declared.journal.Call.TheVariants.{Begin, Preempt, Select, Reject, Renew, Answer, Lose, Take, Note, End, Draw}
use Rattle.auth_events.specs.declared.journal.BookReply.{BookReply}
use Rattle.auth_events.specs.declared.journal.BookReply.TheVariants.{Begun, Ready, Nothing, Url, Cached, Default, Follow, Lead, Removed, Kept, Renewed, Given, Cancelled, Lost, Pending, Gave, Noted, Ended}
use Rattle.auth_events.specs.declared.journal.Entry.{Entry}
use Rattle.auth_events.specs.Tables.{Tables}
use Rattle.auth_events.specs.Pages.{fits}
pub use Rattle.auth_events.specs.Directories.{NotedDir, Found, with_room, with_dir, longer, better, best_found}
use Rattle.auth_events.specs.Past.{takes_away, current, live, spaces_given, evicted, current_ordinal, givings, terms, lead, settled, open_lead, leads, leads_of, end, prompt_led, prompt_followed, is_lead, selects}

-- who a prompt's reply or a choice names
pub data Choice : Type 0 where
  ByUrl : Choice
  ByCache : Gift → Choice
  ByDefault : Choice
  ByFollowing : ℕ → Choice
  ByLeading : Choice

abbrev pub same_gift : Gift → Gift → Bool
same_gift a b = a.space == b.space && a.ordinal == b.ordinal

abbrev pub is_that_gift : Option Gift → Gift → Bool
is_that_gift None gift = false
is_that_gift (Some held) gift = same_gift held gift

abbrev pub is_digest : Scheme → Bool
is_digest Digest = true
is_digest _ = false

abbrev pub is_basic : Scheme → Bool
is_basic Basic = true
is_basic _ = false

abbrev pub is_negotiate : Scheme → Bool
is_negotiate Negotiate = true
is_negotiate _ = false

abbrev pub is_server : Target → Bool
is_server Server = true
is_server _ = false

abbrev pub begins : Call → Bool
begins Begin = true
begins _ = false

abbrev pub ends : Call → Bool
ends End = true
ends _ = false

abbrev pub draws : Call → Bool
draws (Draw nonce) = true
draws _ = false

-- the entries of calls, without the draws
abbrev pub without_draws : List Entry → List Entry
without_draws history = filter (λ entry. not (draws entry.call)) history

abbrev pub preempts : Call → Target → Bool
preempts (Preempt t) target = same_target t target
preempts _ target = false

abbrev pub takes : Call → ℕ → Bool
takes (Take prompt) p = prompt == p
takes _ p = false

abbrev pub notes : Call → ℕ → Bool
notes (Note gift) s = gift.space == s
notes _ s = false

abbrev pub is_noted : BookReply → Bool
is_noted Noted = true
is_noted _ = false

abbrev pub is_url : BookReply → Bool
is_url (Url gift evicted) = true
is_url _ = false

abbrev pub is_default : BookReply → Bool
is_default Default = true
is_default _ = false

-- the gift that the reply told its request
abbrev pub gift_told : BookReply → Option Gift
gift_told (Ready gift terms epoch) = Some gift
gift_told (Url gift evicted) = Some gift
gift_told (Cached gift) = Some gift
gift_told (Given gift evicted) = Some gift
gift_told (Gave gift) = Some gift
gift_told _ = None

abbrev pub terms_selected : Call → ℕ
terms_selected (Select space terms) = terms
terms_selected _ = 0

abbrev pub space_selected : Call → ℕ
space_selected (Select space terms) = space
space_selected _ = 0

abbrev pub next_gift : List Entry → ℕ → Gift
next_gift past s = record { space = s; ordinal = givings past s + 1 }

-- CHOICE

-- the entries of the request
abbrev pub own : List Entry → ℕ → List Entry
own past r = filter (λ entry. entry.request == r) past

-- the reply `Url` stands in the request's entries
abbrev pub was_url_told : List Entry → ℕ → Bool
was_url_told past r = list_any (λ entry. is_url entry.reply) (own past r)

-- the reply `Default` stands there for the space
abbrev pub was_default_told : List Entry → ℕ → ℕ → Bool
was_default_told past r s = list_any (λ entry. is_default entry.reply && selects entry.call s) (own past r)

-- the space of a prompt
abbrev pub space_of_prompt : List Entry → ℕ → ℕ
space_of_prompt past p = unwrap_or (option_map (λ entry. space_selected entry.call) (lead past p)) 0

abbrev pub kept_or : List Entry → Gift → BookReply → BookReply
kept_or past gift done = if is_that_gift (current past gift.space) gift then done else Kept (current_ordinal past gift.space)

-- THE CONDITIONS

abbrev pub waits : List Entry → ℕ → Bool
waits past r =
    list_any (λ entry. is_lead entry.reply && not (settled past (prompt_led entry.reply))) (own past r)
    || list_any (λ entry. not (prompt_followed entry.reply == 0) && not (list_any (λ later. takes later.call (prompt_followed entry.reply)) (own past r))) (own past r)

abbrev pub was_told : List Entry → ℕ → Gift → Bool
was_told past r gift = list_any (λ entry. is_that_gift (gift_told entry.reply) gift) (own past r)

abbrev pub is_led_by : List Entry → ℕ → ℕ → Bool
is_led_by past r p = unwrap_or (option_map (λ entry. entry.request == r) (lead past p)) false

-- the caller began the request, it has not ended, and it has room for an entry
abbrev pub is_open : List Entry → ℕ → ℕ → Bool
is_open past caller r =
    list_any (λ entry. begins entry.call && entry.caller == caller) (own past r)
    && not (list_any (λ entry. ends entry.call) (own past r)) && nat_lt (length (own past r)) 64

abbrev pub no_entry : List Entry → ℕ → Bool
no_entry past r = length (own past r) == 0

-- what a prompt's answer gives in the space
abbrev pub given_answer : (ℕ → Bool) → List Entry → ℕ → ℕ → BookReply
given_answer is_rival past s text = if text == 0 then Cancelled else Given (next_gift past s) (evicted is_rival past s)

-- the first that holds: the URL's identity, the gift that the space holds, the default identity, an open prompt, or else a prompt of its own
abbrev pub first_choice : Bool → Option Gift → Bool → Option Entry → Choice
first_choice true held ambient led = ByUrl
first_choice false (Some gift) ambient led = ByCache gift
first_choice false None true led = ByDefault
first_choice false None false (Some entry) = ByFollowing (prompt_led entry.reply)
first_choice false None false None = ByLeading

-- the reply to a `Select` by the choice
abbrev pub select_answer : (ℕ → Bool) → List Entry → ℕ → Choice → BookReply
select_answer is_rival past s ByUrl = Url (next_gift past s) (evicted is_rival past s)
select_answer is_rival past s (ByCache gift) = Cached gift
select_answer is_rival past s ByDefault = Default
select_answer is_rival past s (ByFollowing p) = Follow p
select_answer is_rival past s ByLeading = Lead (leads past + 1) (leads_of past s + 1)

-- what the names tell

module _ (names : Tables) where
  -- NAMES

  abbrev pub space_named : ℕ → Option ProtectionSpace
  space_named s = numbered names.spaces s

  abbrev pub scheme_is : (Scheme → Bool) → ℕ → Bool
  scheme_is test s = unwrap_or (option_map (λ space. test space.scheme) (space_named s)) false

  abbrev pub target_of : ℕ → Target
  target_of s = unwrap_or (option_map (λ space. space.site.target) (space_named s)) Server

  abbrev pub is_of_site : Site → ℕ → Bool
  is_of_site place s = unwrap_or (option_map (λ space. same_site space.site place) (space_named s)) false

  -- the space is one of the partition
  abbrev pub is_of_partition : List ℕ → ℕ → Bool
  is_of_partition partition s = unwrap_or (option_map (λ space. bytes_eq space.site.partition partition) (space_named s)) false

  -- giving the space may evict the other one: one of its own partition
  abbrev pub is_rival : ℕ → ℕ → Bool
  is_rival s other = unwrap_or (option_map (λ space. is_of_partition space.site.partition other) (space_named s)) false

  abbrev pub nonce_of : ℕ → ℕ
  nonce_of t = unwrap_or (option_map (λ name. name.nonce) (numbered names.terms t)) 0

  -- the space has terms of that number
  abbrev pub has_terms : ℕ → ℕ → Bool
  has_terms s t = unwrap_or (option_map (λ name. name.space == s) (numbered names.terms t)) false

  -- NONCES

  abbrev pub holds_nonce : List Entry → ℕ → ℕ → Bool
  holds_nonce past n s = live past s && not (terms past s == 0) && nonce_of (terms past s) == n

  -- a live space that had the nonce before hasn't it afterwards
  abbrev pub is_left : List Entry → List Entry → ℕ → ℕ → Bool
  is_left before afterwards n s = holds_nonce before n s && not (holds_nonce afterwards n s)

  -- the entry takes the nonce out of a live space
  abbrev pub takes_out : Entry → List Entry → ℕ → Bool
  takes_out entry past n = list_any (is_left past (entry ∷ past) n) (spaces_given past)

  -- how many entries have taken the nonce out
  abbrev pub epoch : List Entry → ℕ → ℕ
  epoch [] n = 0
  epoch (entry ∷ past) n = (if takes_out entry past n then 1 else 0) + epoch past n

  -- the nonce that is left by a space in between, or 0
  abbrev pub nonce_left : List Entry → List Entry → ℕ
  nonce_left before afterwards =
      unwrap_or (option_map (λ s. nonce_of (terms before s)) (find (λ s. is_left before afterwards (nonce_of (terms before s)) s) (spaces_given before))) 0

  -- the nonce that the entry takes out of a live space, or 0
  abbrev pub retired : Entry → List Entry → ℕ
  retired entry past = nonce_left past (entry ∷ past)

  abbrev pub epoch_of_terms : List Entry → ℕ → ℕ
  epoch_of_terms past t = if t == 0 then 0 else epoch past (nonce_of t)

  abbrev pub fits_space : ℕ → ℕ → Bool
  fits_space s t = if scheme_is is_digest s then has_terms s t else t == 0

  -- the gift that the space holds, ready to be sent
  abbrev pub ready : List Entry → ℕ → Option Gift → BookReply
  ready past s None = Nothing
  ready past s (Some gift) = Ready gift (terms past s) (epoch_of_terms past (terms past s))

  abbrev pub preempt_answer : List Entry → Option ℕ → BookReply
  preempt_answer past None = Nothing
  preempt_answer past (Some s) = ready past s (current past s)

-- what the roster tells

module _ (roster : Roster) where
  -- DIRECTORIES

  abbrev pub path_of : ℕ → Target → List ℕ
  path_of r target = unwrap_or (option_map (λ request. path request target) (numbered roster.requests r)) []

  abbrev pub is_site_of : ℕ → ProtectionSpace → Bool
  is_site_of r space = unwrap_or (option_map (λ place. same_site place space.site) (option_and_then (λ request. site request space.site.target) (numbered roster.requests r))) false

  abbrev pub has_url_identity : ℕ → Bool
  has_url_identity r = unwrap_or (option_map (λ request. is_some request.place.identity) (numbered roster.requests r)) false

-- what the roster and the names tell

module _ (roster : Roster) (names : Tables) where
  -- the directories of the space, in the order in which they were added
  abbrev pub dirs : List Entry → ℕ → List NotedDir
  dirs [] s = []
  dirs (entry ∷ past) s =
      after entry (length past) (dirs past s)
    where
      after : Entry → ℕ → List NotedDir → List NotedDir
      after e place before =
          if takes_away e s
          then []
          else (if notes e.call s && is_noted e.reply
          then with_dir (record { dir = dir_of (path_of roster e.request (target_of names s)); place = place }) before
          else before)

  -- the best directory of the space that covers the path, where the space is live, Basic or Digest, and of the site
  abbrev pub found_in : List Entry → Site → List ℕ → ℕ → Option Found
  found_in past place p s =
      if live past s && (scheme_is names is_basic s || scheme_is names is_digest s) && is_of_site names place s
      then fold (λ best noted. better best (if covers noted.dir p then Some (record { space = s; noted = noted }) else None)) None (dirs past s)
      else None

  -- the space of the site with the longest directory that covers the path, of equal ones the one that was added last
  abbrev pub by_path : List Entry → Site → List ℕ → Option ℕ
  by_path past place p =
      option_map (λ found. found.space) (best_found (found_in past place p) (spaces_given past))

  abbrev pub is_allowed_origin : ℕ → Bool
  is_allowed_origin s = unwrap_or (option_map (λ space. list_any (same_origin space.site.origin) roster.allowed) (space_named names s)) false

  -- what the book gives the request in the space
  abbrev pub choice : List Entry → ℕ → ℕ → Choice
  choice past r s =
      first_choice
      (is_server (target_of names s) && has_url_identity roster r && not (was_url_told past r))
      (current past s)
      (scheme_is names is_negotiate s && is_allowed_origin s && not (was_default_told past r s))
      (open_lead past s)

  -- THE ANSWER

  abbrev pub space_by_path : List Entry → ℕ → Target → Option ℕ
  space_by_path past r target =
      option_and_then (λ place. by_path past place (path_of roster r target)) (option_and_then (λ request. site request target) (numbered roster.requests r))

  -- what the book replies to the call
  abbrev pub answer : List Entry → ℕ → Call → BookReply
  answer past r Begin = Begun
  answer past r (Preempt target) = preempt_answer names past (space_by_path past r target)
  answer past r (Select space t) = select_answer (is_rival names space) past space (choice past r space)
  answer past r (Reject space ordinal) = kept_or past (record { space = space; ordinal = ordinal }) Removed
  answer past r (Renew gift t) = kept_or past gift Renewed
  answer past r (Answer prompt text t) = given_answer (is_rival names (space_of_prompt past prompt)) past (space_of_prompt past prompt) text
  answer past r (Lose prompt loss) = Lost loss
  answer past r (Take prompt) = end past prompt
  answer past r (Note gift) = kept_or past gift Noted
  answer past r End = Ended
  answer past r (Draw nonce) = Pending

  -- what each call may be asked for
  abbrev pub allowed_call : List Entry → ℕ → Call → Bool
  allowed_call past r Begin = is_some (numbered roster.requests r)
  allowed_call past r (Preempt target) =
      unwrap_or (option_map (λ request. is_on_route request target) (numbered roster.requests r)) false && not (list_any (λ entry. preempts entry.call target) (own past r))
  allowed_call past r (Select space t) =
      unwrap_or (option_map (is_site_of roster r) (space_named names space)) false && fits_space names space t && not (waits past r)
  allowed_call past r (Reject space ordinal) =
      was_told past r (record { space = space; ordinal = ordinal }) || ordinal == 0 && was_default_told past r space
  allowed_call past r (Renew gift t) = was_told past r gift && scheme_is names is_digest gift.space && has_terms names gift.space t
  allowed_call past r (Answer prompt text t) =
      is_led_by past r prompt && not (settled past prompt) && nat_le text (length names.texts)
      && unwrap_or (option_map (λ entry. terms_selected entry.call == t) (lead past prompt)) false
  allowed_call past r (Lose prompt loss) = is_led_by past r prompt && not (settled past prompt)
  allowed_call past r (Take prompt) =
      not (prompt == 0) && list_any (λ entry. prompt_followed entry.reply == prompt) (own past r) && not (list_any (λ entry. takes entry.call prompt) (own past r))
  allowed_call past r (Note gift) = was_told past r gift && (scheme_is names is_basic gift.space || scheme_is names is_digest gift.space)
  allowed_call past r End = not (waits past r)
  allowed_call past r (Draw nonce) = false

  -- the conditions of a call
  abbrev pub allowed : List Entry → ℕ → ℕ → Call → Bool
  allowed past caller r call =
      (if begins call then no_entry past r else is_open past caller r) && allowed_call past r call

  -- the entry was asked for under its conditions, its reply is the answer, and both stand in one row of the table of calls
  abbrev pub IsStep : List Entry → Entry → Type 0
  IsStep past entry =
      IsTrue (allowed past entry.caller entry.request entry.call)
      × (entry.reply ≡ answer past entry.request entry.call)
      × IsTrue (fits entry.call entry.reply)

  -- each entry of the past, the latest first, is a step from those before it
  abbrev pub IsLegalPast : List Entry → Type 0
  IsLegalPast [] = Unit {0}
  IsLegalPast (entry ∷ past) = IsLegalPast past × IsStep past entry

  -- a history is a list of entries, the earliest first; draws are judged apart
  abbrev pub IsLegal : List Entry → Type 0
  IsLegal history = IsLegalPast (reverse (without_draws history))
