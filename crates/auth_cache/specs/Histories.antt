-- What the cache of a partition has after a history: its live spaces in order of touch.
-- A past is the list of the entries of calls, the latest first.
use Rattle.std.specs.Prelude.{◌≡◌, ◌<◌, ℕ, Bool, List, AllPairs, Option, None, option_map, if◌then◌else◌}
use Rattle.auth_events.specs.declared.journal.Call.{Call}
use Rattle.auth_events.specs.declared.journal.Call.TheVariants.{Reject, Renew}
use Rattle.auth_events.specs.declared.journal.BookReply.{BookReply}
use Rattle.auth_events.specs.declared.journal.BookReply.TheVariants.{Ready, Url, Cached as IsCached, Removed, Renewed, Given}
use Rattle.auth_events.specs.declared.journal.Entry.{Entry}
use Rattle.auth_events.specs.Past.{age, current, terms, terms_in}
use Rattle.history_laws.specs.Partitions.{concerns}
use Rattle.auth_cache.specs.declared.cache.Held.{Held}
use Rattle.auth_cache.specs.Cached.{held_in, put_in, touched, with_terms, without}

-- what the space holds after the past
abbrev pub held_after : List Entry → ℕ → Option Held
held_after past s = option_map (λ gift. record { gift = gift; terms = terms past s }) (current past s)

-- the entries are those of the live spaces that pass the test, each with its gift and its terms, in order of touch
pub record HasLive (is_in : ℕ → Bool) (past : List Entry) (entries : List Held) : Type 0 where
  pub each : (s : ℕ) → held_in entries s ≡ (if is_in s then held_after past s else None)
  pub order : AllPairs (λ a b. age past b.gift.space < age past a.gift.space) entries

-- what an entry does to a cache
pub data Change : Type 0 where
  Same : Change
  Put : Held → Change
  Touch : ℕ → Change
  Set : ℕ → ℕ → Change
  Remove : ℕ → Change

-- a giving puts its gift, a gift that is answered once more or renewed is touched, and what is rejected is removed
abbrev pub change : Call → BookReply → Change
change call (Url gift gone) = Put (record { gift = gift; terms = terms_in call })
change call (Given gift gone) = Put (record { gift = gift; terms = terms_in call })
change call (IsCached gift) = Set gift.space (terms_in call)
change (Renew gift t) Renewed = Set gift.space t
change call (Ready gift t epoch) = Touch gift.space
change (Reject s ordinal) Removed = Remove s
change call reply = Same

abbrev pub changed : ℕ → Change → List Held → List Held
changed bound Same entries = entries
changed bound (Put held) entries = put_in bound entries held
changed bound (Touch s) entries = touched s entries
changed bound (Set s t) entries = touched s (with_terms s t entries)
changed bound (Remove s) entries = without s entries

-- with what the entry does to a cache that is told it
abbrev pub entries_after : ℕ → Call → BookReply → List Held → List Held
entries_after bound call reply entries = changed bound (change call reply) entries

-- a cache of the spaces that pass the test is told the entries that are about one of them
abbrev pub entries_told : (ℕ → Bool) → ℕ → Call → BookReply → List Held → List Held
entries_told is_in bound call reply entries =
    if concerns is_in call reply then entries_after bound call reply entries else entries
