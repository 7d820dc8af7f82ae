-- A bounded cache as the list of its entries in order of touch, the one touched last at the end.
use Rattle.std.specs.Prelude.{ℕ, Bool, not, ◌==◌, nat_lt, List, [], ◌∷◌, ◌++◌, length, drop, map, filter, find, slice_get, option_to_list, Option, Some, None, false, if◌then◌else◌}
use Rattle.auth_events.specs.declared.journal.Gift.{Gift}
use Rattle.auth_events.specs.Book.{same_gift}
use Rattle.auth_cache.specs.declared.cache.Held.{Held}
use Rattle.auth_cache.specs.declared.cache.Removal.{Removal}
use Rattle.auth_cache.specs.declared.cache.Removal.TheVariants.{Removed, Kept}

-- what a cache is seen as
pub record Cached : Type 0 where
  -- at most so many entries
  pub bound : ℕ
  pub entries : List Held

abbrev pub is_of : ℕ → Held → Bool
is_of s held = held.gift.space == s

-- the entry of the space
abbrev pub held_in : List Held → ℕ → Option Held
held_in entries s = find (is_of s) entries

-- the entries of the other spaces
abbrev pub without : ℕ → List Held → List Held
without s entries = filter (λ held. not (held.gift.space == s)) entries

-- with room for one more: where there is none, the first goes
abbrev pub with_room : ℕ → List Held → List Held
with_room bound entries = if nat_lt (length entries) bound then entries else drop 1 entries

-- with an entry put last, in place of that of its space
abbrev pub put_in : ℕ → List Held → Held → List Held
put_in bound entries held = with_room bound (without held.gift.space entries) ++ held ∷ []

-- the entry that goes to make room for the space
abbrev pub evicted : ℕ → List Held → ℕ → Option Held
evicted bound entries s =
    if nat_lt (length (without s entries)) bound then None else slice_get (without s entries) 0

-- with the space's entry last
abbrev pub touched : ℕ → List Held → List Held
touched s entries = without s entries ++ option_to_list (held_in entries s)

-- the entry with other terms, where it is of the space
abbrev pub retermed : ℕ → ℕ → Held → Held
retermed s t held = if held.gift.space == s then record held { terms = t } else held

-- with other terms of the space
abbrev pub with_terms : ℕ → ℕ → List Held → List Held
with_terms s t entries = map (retermed s t) entries

-- what becomes of a gift that is to go, by what its space holds
abbrev pub removal : Gift → Option Held → Removal
removal gift None = Kept 0
removal gift (Some held) = if same_gift held.gift gift then Removed held else Kept held.gift.ordinal

-- the gift is the one that the space holds
abbrev pub holds : Gift → Option Held → Bool
holds gift None = false
holds gift (Some held) = same_gift held.gift gift

-- without the entry of the gift's space, where it holds that gift
abbrev pub taken_out : Gift → List Held → List Held
taken_out gift entries = if holds gift (held_in entries gift.space) then without gift.space entries else entries
