-- How a request ends, and that it may end anywhere for want of memory.
use Rattle.std.specs.Prelude.{ℕ, ◌≡◌, ◌==◌, ◌<◌, false, not, IsTrue, List, length, reverse}
use Rattle.std.specs.List.{list_all}
use Rattle.spaces.specs.declared.roster.Roster.{Roster}
use Rattle.auth_events.specs.declared.journal.Call.TheVariants.{End, Lose}
use Rattle.auth_events.specs.declared.journal.Loss.TheVariants.{Memory}
use Rattle.auth_events.specs.declared.journal.Entry.{Entry}
use Rattle.auth_events.specs.Book.{allowed, own, waits}
use Rattle.auth_events.specs.Tables.{Tables}
use Rattle.auth_runs.specs.Runs.{is_whole}
use Rattle.auth_runs.specs.declared.event.Event.{Event}
use Rattle.trace_rule.specs.Entries.{AreEntries}
use Rattle.trace_rule.specs.Laws.{WhereServed}
use Rattle.trace_rule.specs.Settings.{Setting}
use Rattle.trace_rule.specs.Traces.{IsPast, IsTrace, may_cut, prompt_open, with_loss}

-- THE OUTCOME

-- a trace ends with its outcome, and has no other
abbrev pub TracesAreWhole : Type 0
TracesAreWhole = (s : Setting) → (events : List Event) → IsTrace s events → IsTrue (is_whole events)

-- PROMPTS

-- at its end a request waits for no prompt: each that it led is settled, and each that it followed is taken
abbrev pub PromptsAreSettled : Type 0
PromptsAreSettled =
    (s : Setting) → (events : List Event) → (entries : List Entry) → (r : ℕ)
    → IsTrace s events → AreEntries entries r (reverse events) → waits entries r ≡ false

-- WANT OF MEMORY

-- where a request may run out of memory, the loss of the prompt that it leads may be told
abbrev pub LossesAreAllowed : Type 0
LossesAreAllowed =
    WhereServed (λ names entries roster caller r s past.
    IsTrue (may_cut past) → IsTrue (not (prompt_open past past == 0))
    → IsTrue (allowed roster names entries caller r (Lose (prompt_open past past) Memory)))

-- and once it is told, or where there is none, so may the end
abbrev pub CutsAreAllowed : Type 0
CutsAreAllowed =
    (s : Setting) → (roster : Roster) → (names : Tables) → (entries : List Entry) → (caller r : ℕ) → (past : List Event)
    → IsPast s past → IsTrue (may_cut past) → AreEntries entries r (with_loss (prompt_open past past) past)
    → IsTrue (list_all (λ entry. entry.caller == caller) (own entries r)) → length (own entries r) < 64
    → IsTrue (allowed roster names entries caller r End)
