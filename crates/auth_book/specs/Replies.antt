-- What an index replies.
use Rattle.std.specs.Prelude.{ℕ, ◌+◌, ◌==◌, ◌&&◌, Bool, true, false, not, is_some, List, find, Option, None, Some, option_map, option_and_then, unwrap_or, if◌then◌else◌}
use Rattle.spaces.specs.declared.roster.Roster.{Roster}
use Rattle.spaces.specs.declared.site.Site.{Site}
use Rattle.spaces.specs.declared.site.Target.{Target}
use Rattle.spaces.specs.declared.site.Target.TheVariants.{Server, Proxy, Socks}
use Rattle.spaces.specs.Sites.{numbered, site}
use Rattle.auth_events.specs.declared.journal.Gift.{Gift}
use Rattle.auth_events.specs.declared.journal.Call.{Call}
use Rattle.auth_events.specs.declared.journal.Call.TheVariants.{Begin, Preempt, Select, Reject, Renew, Answer, Lose, Take, Note, End, Draw}
use Rattle.auth_events.specs.declared.journal.BookReply.{BookReply}
use Rattle.auth_events.specs.declared.journal.BookReply.TheVariants.{Begun, Ready, Nothing, Url, Cached, Default, Removed, Kept, Renewed, Given, Cancelled, Lost, Pending, Noted, Ended}
use Rattle.auth_events.specs.Book.{has_url_identity, is_allowed_origin, is_negotiate, is_of_site, is_server, nonce_of, path_of, same_gift, scheme_is, target_of}
use Rattle.auth_events.specs.Tables.{Tables}
use Rattle.auth_cache.specs.declared.cache.Held.{Held}
use Rattle.auth_cache.specs.Cached.{evicted, held_in}
use Rattle.path_lookup.specs.Notes.{deepest}
use Rattle.auth_book.specs.declared.partitions.PartRow.{PartRow}
use Rattle.auth_book.specs.Parts.{entries_at, notes_at, part_of}
use Rattle.prompt_queue.specs.Prompts.{ending_of, joined}
use Rattle.prompt_queue.specs.Histories.{reply_joined, reply_taken}
use Rattle.auth_book.specs.declared.index.BookIndex.{BookIndex}
use Rattle.auth_book.specs.declared.index.RequestRow.{RequestRow}

-- `done` where the space holds the gift
abbrev pub kept_by : Gift → BookReply → Option Held → BookReply
kept_by gift done None = Kept 0
kept_by gift done (Some held) = if same_gift held.gift gift then done else Kept held.gift.ordinal

abbrev pub takes_prompt : Call → Bool
takes_prompt (Take prompt) = true
takes_prompt _ = false

-- the default identity was answered for a space of the target
abbrev pub default_flag : RequestRow → Target → Bool
default_flag row Server = row.default_server
default_flag row Proxy = row.default_proxy
default_flag row Socks = row.default_socks

abbrev pub number_if : Bool → ℕ
number_if b = if b then 1 else 0

module _ (index : BookIndex) where
  -- the record of the space's partition
  abbrev pub part_in : ℕ → Option PartRow
  part_in s = option_and_then (λ row. numbered index.partitions row.partition) (numbered index.spaces.items s)

  -- what the cache of the space's partition has
  abbrev pub entries_in : ℕ → List Held
  entries_in s = entries_at (part_in s)

  -- what is held of the space
  abbrev pub held_of : ℕ → Option Held
  held_of s = held_in (entries_in s) s

  -- how often credentials of the space were given
  abbrev pub givings_in : ℕ → ℕ
  givings_in s = unwrap_or (option_map (λ row. row.givings) (numbered index.spaces.items s)) 0

  -- the site number in the space's row, or 0
  abbrev pub site_in : ℕ → ℕ
  site_in s = unwrap_or (option_map (λ row. row.site) (numbered index.spaces.items s)) 0

  abbrev pub next_in : ℕ → Gift
  next_in s = record { space = s; ordinal = givings_in s + 1 }

  -- who goes for the space, or 0
  abbrev pub evicted_in : ℕ → ℕ
  evicted_in s = unwrap_or (option_map (λ held. held.gift.space) (evicted 32 (entries_in s) s)) 0

  -- the space of the prompt
  abbrev pub led_in : ℕ → ℕ
  led_in p = unwrap_or (numbered index.led.items p) 0

  abbrev pub epoch_in : Tables → ℕ → ℕ
  epoch_in names t = if t == 0 then 0 else unwrap_or (numbered index.epochs.items (nonce_of names t)) 0

  abbrev pub url_in : ℕ → Bool
  url_in r = unwrap_or (option_map (λ row. row.url) (numbered index.requests.items r)) false

  abbrev pub default_in : ℕ → Target → Bool
  default_in r target = unwrap_or (option_map (λ row. default_flag row target) (numbered index.requests.items r)) false

  -- the gift that is held, ready to be sent
  abbrev pub ready_in : Tables → Option Held → BookReply
  ready_in names None = Nothing
  ready_in names (Some held) = Ready held.gift held.terms (epoch_in names held.terms)

  -- the entry of a live space of the site, where there is one
  abbrev pub live_at : Tables → Site → Option Held
  live_at names place =
      find (λ held. is_of_site names place held.gift.space) (entries_at (part_of index.partitions place.partition))

  -- the number of the site, or 0 where no space of it is live
  abbrev pub site_at : Tables → Site → ℕ
  site_at names place = unwrap_or (option_map (λ held. site_in held.gift.space) (live_at names place)) 0

  -- the space of the site whose directory covers the path and is the longest, or 0
  abbrev pub deepest_at : Roster → Tables → List ℕ → Site → ℕ
  deepest_at roster names path place =
      deepest roster (site_at names place) path (notes_at (part_of index.partitions place.partition))

  -- that of the request's site for the target
  abbrev pub deepest_in : Roster → Tables → ℕ → Target → ℕ
  deepest_in roster names r target =
      unwrap_or (option_map (deepest_at roster names (path_of roster r target)) (option_and_then (λ request. site request target) (numbered roster.requests r))) 0

  -- the first that holds: the URL's identity, the gift that is held, the default identity, or a prompt
  abbrev pub select_in : ℕ → Bool → Option Held → Bool → BookReply
  select_in s url held ambient =
      if url then Url (next_in s) (evicted_in s)
      else (if is_some held then Cached (unwrap_or (option_map (λ h. h.gift) held) (next_in s))
      else (if ambient then Default else reply_joined (joined index.prompts.prompts s)))

  abbrev pub answered_in : ℕ → ℕ → BookReply
  answered_in s text = if text == 0 then Cancelled else Given (next_in s) (evicted_in s)

  abbrev pub reply_in : Roster → Tables → ℕ → Call → BookReply
  reply_in roster names r Begin = Begun
  reply_in roster names r (Preempt target) = ready_in names (held_of (deepest_in roster names r target))
  reply_in roster names r (Select s t) =
      select_in s
      (is_server (target_of names s) && has_url_identity roster r && not (url_in r))
      (held_of s)
      (scheme_is names is_negotiate s && is_allowed_origin roster names s && not (default_in r (target_of names s)))
  reply_in roster names r (Reject s ordinal) =
      kept_by (record { space = s; ordinal = ordinal }) Removed (held_of s)
  reply_in roster names r (Renew gift t) = kept_by gift Renewed (held_of gift.space)
  reply_in roster names r (Answer p text t) = answered_in (led_in p) text
  reply_in roster names r (Lose p loss) = Lost loss
  reply_in roster names r (Take p) =
      unwrap_or (option_map (reply_taken (led_in p)) (ending_of index.prompts.prompts p)) Pending
  reply_in roster names r (Note gift) = kept_by gift Noted (held_of gift.space)
  reply_in roster names r End = Ended
  reply_in roster names r (Draw nonce) = Pending
