-- What holds where one caller serves the requests of a roster one behind the other.
use Rattle.std.specs.Prelude.{ℕ, ◌≡◌, ◌+◌, ◌*◌, ◌^◌, ◌≤◌, false, List, [], length, reverse}
use Rattle.spaces.specs.declared.roster.Roster.{Roster}
use Rattle.auth_events.specs.declared.journal.Drawn.{Drawn}
use Rattle.auth_events.specs.declared.told.Told.{Told}
use Rattle.auth_events.specs.Book.{own}
use Rattle.auth_events.specs.Tables.{AreFew}
use Rattle.auth_events.specs.Told.{names_told, past}
use Rattle.auth_runs.specs.declared.event.Event.{Event}
use Rattle.plain_book.specs.Words.{draws_of}
use Rattle.run_rule.specs.Outside.{Outside}
use Rattle.run_rule.specs.Runs.{IsLoneRun}
use Rattle.serving_laws.specs.Alone.{has_open_prompt}
use Rattle.serving_laws.specs.Draws.{AreEpochs}
use Rattle.serving_laws.specs.Rooms.{begun}
use Rattle.lone_laws.specs.Lone.{AreServed, run_told}

-- THE NEXT REQUEST

-- the book and the words are ready for the next request: it has no entry, no prompt is open, there are names left for it, and the words have the book's epochs
pub record IsReady (roster : Roster) (told : List Told) (words : List Drawn) (r : ℕ) : Type 0 where
  pub unserved : own (past told) r ≡ []
  pub settled : has_open_prompt (past told) ≡ false
  pub few : AreFew (begun (past told)) (names_told told)
  pub as_many : length words ≡ 16 * length roster.requests
  pub few_draws : (n : ℕ) → draws_of words n ≤ 2 ^ 29
  pub epochs : AreEpochs (names_told told) (past told) words

-- so they are behind the first requests of a roster
abbrev pub NextRequestsAreReadied : Type 0
NextRequestsAreReadied =
    (outside : Outside) → (roster : Roster) → (seed : List ℕ) → (traces : List (List Event)) → (told : List Told) → (words : List Drawn)
    → length traces ≤ 2048 → AreServed outside roster seed traces told words → IsReady roster told words (length traces + 1)

-- THE RUN

-- where all requests were served so, what the book told is a run of the roster over that outside
abbrev pub ServedRequestsMakeRuns : Type 0
ServedRequestsMakeRuns =
    (outside : Outside) → (roster : Roster) → (seed : List ℕ) → (traces : List (List Event)) → (told : List Told) → (words : List Drawn)
    → length traces ≤ 2048 → length traces ≡ length roster.requests → AreServed outside roster seed (reverse traces) told words
    → IsLoneRun roster outside seed (run_told roster seed told traces)
