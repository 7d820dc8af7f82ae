-- One caller that serves the requests of a roster, one behind the other, with nobody beside it.
use Rattle.std.specs.Prelude.{ℕ, ◌≡◌, ◌+◌, ◌*◌, false, IsTrue, List, [], ◌∷◌, length, filter_map, replicate, reverse, Some}
use Rattle.std.specs.List.{list_all, list_any}
use Rattle.spaces.specs.declared.roster.Request.{Request}
use Rattle.spaces.specs.declared.roster.Roster.{Roster}
use Rattle.spaces.specs.Sites.{numbered}
use Rattle.auth_events.specs.declared.journal.Drawn.{Drawn}
use Rattle.auth_events.specs.declared.told.Told.{Told}
use Rattle.auth_events.specs.Told.{journal, names_told}
use Rattle.auth_runs.specs.declared.event.Event.{Event}
use Rattle.auth_runs.specs.Runs.{Each, Run, entry_of}
use Rattle.plain_book.specs.Words.{unused}
use Rattle.trace_rule.specs.Heard.{IsAnswered, IsHeard}
use Rattle.run_rule.specs.Outside.{Outside, is_asked_right}
use Rattle.serving_laws.specs.Service.{IsServedAlone}
use Rattle.lone_laws.specs.Failing.{has_failed}

-- the run that a book told, with these traces
abbrev pub run_told : Roster → List ℕ → List Told → List (List Event) → Run
run_told roster seed told traces = record { seed = seed; roster = roster; names = names_told told; journal = journal told; traces = traces }

-- request r was served alone over that outside: by all that the book has told behind it
pub record IsServedOver (outside : Outside) (roster : Roster) (seed : List ℕ) (before told : List Told) (first words : List Drawn) (r : ℕ) (trace : List Event) : Type 0 where
  pub request : Request
  pub in_roster : numbered roster.requests r ≡ Some request
  pub alone : IsServedAlone roster seed before told first words r request trace
  -- what follows each head is what its link's stream shows
  pub heard : IsHeard outside.streams request.method r (reverse trace)
  -- each prompt got its answer, and the text of each answer is the one that stands for its prompt
  pub asked : IsTrue (list_all (is_asked_right outside (run_told roster seed told [])) trace)
  pub answered : Each (λ entry. IsAnswered outside.answers (names_told told) (journal told) entry.call) (filter_map (entry_of 1 r) trace)
  -- no dial, write, read or ask failed
  pub unfailed : list_any has_failed trace ≡ false

-- these traces, the latest first, are of the first requests of the roster, which were served so one behind the other, from a book that has told nothing and words that were not drawn
abbrev pub AreServed : Outside → Roster → List ℕ → List (List Event) → List Told → List Drawn → Type 0
AreServed outside roster seed [] told words = (told ≡ []) × (words ≡ replicate (16 * length roster.requests) unused)
AreServed outside roster seed (trace ∷ earlier) told words =
    (before : List Told) × (first : List Drawn)
    × AreServed outside roster seed earlier before first
    × IsServedOver outside roster seed before told first words (length earlier + 1) trace
