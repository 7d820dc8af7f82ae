-- What a ledger keeps of its roster, its names, the order of new names, and its entries.
use Rattle.std.specs.Prelude.{◌≡◌, ◌≤◌, List, length, reverse, All}
use Rattle.spaces.specs.declared.roster.Roster.{Roster}
use Rattle.auth_events.specs.declared.journal.Entry.{Entry}
use Rattle.auth_events.specs.declared.told.NewName.{NewName}
use Rattle.auth_events.specs.declared.told.Told.{Told}
use Rattle.auth_events.specs.Tables.{Tables, AreNames, AreFew}
use Rattle.auth_events.specs.Pages.{IsWithinRoom}
use Rattle.auth_events.specs.Book.{IsLegalPast}
use Rattle.auth_events.specs.Told.{IsLegalThroughout, IsNamed, names_told, weave}

-- the told list of the entries and the new names
abbrev pub told_of : Tables → List NewName → List Entry → List Told
told_of names made entries = weave names made 0 entries

pub record IsKept (roster : Roster) (names : Tables) (made : List NewName) (entries : List Entry) : Type 0 where
  -- each entry is a step from those before it
  pub legal : IsLegalPast roster names (reverse entries)
  -- there is room for 64 entries of each request
  pub pages : IsWithinRoom (length roster.requests) entries
  -- each new name was made at some place of the journal, and stands for a thing
  pub before : All (λ name. name.before ≤ length entries) made
  pub named : All (IsNamed names) made
  -- the names are those that were told
  pub told : names_told (told_of names made entries) ≡ names
  -- each name was made before an entry used it
  pub throughout : IsLegalThroughout roster (told_of names made entries)
  pub are_names : AreNames names
  pub within : AreFew (length roster.requests) names
