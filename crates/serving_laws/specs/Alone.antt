-- A request that one caller serves with nobody beside it: the history of its book, by the history before it and its own past.
use Rattle.std.specs.Prelude.{ℕ, ◌≡◌, Bool, false, not, ◌&&◌, List, [], ◌++◌, filter_map, Some}
use Rattle.std.specs.List.{list_any}
use Rattle.spaces.specs.declared.roster.Request.{Request}
use Rattle.spaces.specs.declared.roster.Roster.{Roster}
use Rattle.spaces.specs.Sites.{numbered}
use Rattle.auth_events.specs.declared.journal.Entry.{Entry}
use Rattle.auth_events.specs.Past.{is_lead, prompt_led, settled}
use Rattle.auth_events.specs.Book.{IsLegalPast, own}
use Rattle.auth_events.specs.Tables.{Tables, AreNames}
use Rattle.auth_runs.specs.Runs.{entry_of}
use Rattle.auth_runs.specs.declared.event.Event.{Event}

-- a prompt was led that has neither an answer nor a loss
abbrev pub has_open_prompt : List Entry → Bool
has_open_prompt entries = list_any (λ entry. is_lead entry.reply && not (settled entries (prompt_led entry.reply))) entries

-- the entries that the calls of a past are, made by caller 1, the latest first
abbrev pub entries_of : ℕ → List Event → List Entry
entries_of r past = filter_map (entry_of 1 r) past

-- the book's entries, the latest first, are those that it had, in which no prompt is open, and the calls of the request's past
pub record IsAlone (roster : Roster) (names : Tables) (before entries : List Entry) (r : ℕ) (request : Request) (past : List Event) : Type 0 where
  pub legal : IsLegalPast roster names entries
  pub are_names : AreNames names
  pub in_roster : numbered roster.requests r ≡ Some request
  pub same_calls : entries ≡ entries_of r past ++ before
  pub unserved : own before r ≡ []
  pub none_open : has_open_prompt before ≡ false
