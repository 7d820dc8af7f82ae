-- What one caller has made of its book and its words since a request began, and when the request is over.
use Rattle.std.specs.Prelude.{ℕ, ◌≡◌, ◌*◌, Bool, true, false, List, length, reverse}
use Rattle.spaces.specs.declared.roster.Request.{Request}
use Rattle.spaces.specs.declared.roster.Roster.{Roster}
use Rattle.auth_events.specs.declared.journal.Drawn.{Drawn}
use Rattle.auth_events.specs.declared.told.Told.{Told}
use Rattle.auth_events.specs.Tables.{AreFew}
use Rattle.auth_events.specs.Told.{names_told, past}
use Rattle.auth_runs.specs.declared.event.Event.{Event}
use Rattle.auth_runs.specs.declared.event.Event.TheVariants.{Called, Drew}
use Rattle.book_laws.specs.Owners.{AddsOwn}
use Rattle.trace_rule.specs.Settings.{setting_of}
use Rattle.trace_rule.specs.Traces.{IsTrace, is_spent}
use Rattle.serving_laws.specs.Alone.{IsAlone, entries_of, has_open_prompt}
use Rattle.serving_laws.specs.Draws.{AreWords}
use Rattle.serving_laws.specs.Meeting.{AreNamesMet}
use Rattle.serving_laws.specs.Rooms.{begun}

-- the book tells more by what caller 1 made, its entries are the calls of the events, and the words gave their draws
pub record IsServed (roster : Roster) (before told : List Told) (first words : List Drawn) (r : ℕ) (request : Request) (events : List Event) : Type 0 where
  pub grown : AddsOwn 1 before told
  pub alone : IsAlone roster (names_told told) (past before) (past told) r request events
  -- there are 16 words for each request
  pub as_many : length words ≡ 16 * length roster.requests
  pub drawn : AreWords (names_told told) (past before) (past told) first words r events

-- neither the book nor the words know of the event
abbrev pub is_outside : Event → Bool
is_outside (Called call reply) = false
is_outside (Drew target nonce count epoch) = false
is_outside _ = true

-- THE END

-- the request is over: the list that the book told before and tells now, and the words before and now
pub record IsServedAlone (roster : Roster) (seed : List ℕ) (before told : List Told) (first words : List Drawn) (r : ℕ) (request : Request) (trace : List Event) : Type 0 where
  -- the trace obeys the request's rule, by all that is named and given at its end
  pub is_trace : IsTrace (setting_of roster seed (names_told told) (past told) r request) trace
  -- the book tells more by names and by the trace's calls, and the words gave the trace's draws and no other
  pub served : IsServed roster before told first words r request (reverse trace)
  -- a call names each name that was made, in order, unless memory ran out
  pub met : is_spent (reverse trace) ≡ false → AreNamesMet (names_told before) (names_told told) (entries_of r (reverse trace))
  -- there are no more names than the requests that were begun have
  pub few : AreFew (begun (past told)) (names_told told)
  -- no prompt is open
  pub none_open : has_open_prompt (past told) ≡ false
