-- Whose requests and items are: request r belongs to caller (r - 1) mod W + 1 of W callers.
use Rattle.std.specs.Prelude.{◌≡◌, ℕ, ◌+◌, ◌-◌, ◌%◌, Bool, ◌&&◌, ◌==◌, nat_le, IsTrue, List, ◌++◌, filter, All}
use mathlib.Core.List.{IsPrefix}
use Rattle.spaces.specs.declared.roster.Roster.{Roster}
use Rattle.auth_events.specs.declared.told.Told.{Told}
use Rattle.auth_events.specs.declared.told.Told.TheVariants.{Made, SpaceNamed, TermsNamed, TextNamed}
use Rattle.auth_events.specs.Book.{IsLegal}
use Rattle.auth_events.specs.Told.{has_no_draw, journal, names_told}

-- the caller that a request belongs to
abbrev pub owner : ℕ → ℕ → ℕ
owner callers r = (r - 1) % callers + 1

-- the caller that made the item
abbrev pub maker : Told → ℕ
maker (Made entry) = entry.caller
maker (SpaceNamed caller space) = caller
maker (TermsNamed caller name) = caller
maker (TextNamed caller text) = caller

-- the items of a caller, in their order
abbrev pub items_of : ℕ → List Told → List Told
items_of number told = filter (λ item. maker item == number) told

-- an entry is of its owner, and a name of some caller
abbrev pub is_owned : ℕ → Told → Bool
is_owned callers (Made entry) = entry.caller == owner callers entry.request
is_owned callers (SpaceNamed caller space) = nat_le 1 caller && nat_le caller callers
is_owned callers (TermsNamed caller name) = nat_le 1 caller && nat_le caller callers
is_owned callers (TextNamed caller text) = nat_le 1 caller && nat_le caller callers

abbrev pub IsOwnedItem : ℕ → Told → Type 0
IsOwnedItem callers item = IsTrue (is_owned callers item)

-- each request is its owner's
abbrev pub IsOwned : ℕ → List Told → Type 0
IsOwned callers told = All (IsOwnedItem callers) told

-- the list grew by items of one caller
pub record AddsOwn (number : ℕ) (told more : List Told) : Type 0 where
  pub items : List Told
  pub grows : told ++ items ≡ more
  pub own : All (λ item. maker item ≡ number) items

-- what callers do to one book: its journal is legal and has no draw, and each request is its owner's
pub record IsShared (roster : Roster) (callers : ℕ) (told : List Told) : Type 0 where
  pub plain : IsTrue (has_no_draw told)
  pub legal : IsLegal roster (names_told told) (journal told)
  pub owned : IsOwned callers told

-- what the caller has seen of it: it began so, and all items of the caller's own stand there
pub record HasSeen (number : ℕ) (seen told : List Told) : Type 0 where
  pub kept : IsPrefix seen told
  pub own : items_of number told ≡ items_of number seen
