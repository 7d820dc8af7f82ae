-- A run: what a report tells.
use Rattle.std.specs.Prelude.{ℕ, ◌≡◌, ◌≤◌, ◌+◌, ◌-◌, ◌%◌, ◌==◌, Bool, true, false, List, [], ◌∷◌, length, filter, filter_map, map, None, Some, slice_index_or, if◌then◌else◌}
use Rattle.std.specs.List.{flat_map, range_with_len}
use Rattle.std.specs.declared.option.Option.{Option}
use Rattle.spaces.specs.declared.roster.Roster.{Roster}
use Rattle.spaces.specs.declared.roster.Request.{Request}
use Rattle.auth_events.specs.Tables.{Tables}
use Rattle.auth_events.specs.declared.journal.Entry.{Entry}
use Rattle.auth_events.specs.Fresh.{StepTold, DidCall, DidDraw, merge}
use Rattle.auth_runs.specs.declared.event.Event.{Event}
use Rattle.auth_runs.specs.declared.event.Event.TheVariants.{Called, Drew, Ended}

-- all that happened while a roster's requests were served
pub record Run : Type 0 where
  pub seed : List ℕ
  pub roster : Roster
  pub names : Tables
  pub journal : List Entry
  pub traces : List (List Event)

-- there are at most 2,048 requests, and as many traces
pub record AreWithinLimits (requests : List Request) (all_traces : List (List Event)) : Type 0 where
  pub few_requests : length requests ≤ 2048
  pub few_traces : length all_traces ≤ 2048

-- TRACES

abbrev pub ends : Event → Bool
ends (Ended outcome) = true
ends _ = false

-- the last event, and no other, is `Ended`
abbrev pub is_whole : List Event → Bool
is_whole [] = false
is_whole (event ∷ []) = ends event
is_whole (event ∷ events) = if ends event then false else is_whole events

-- the trace of that request
abbrev pub trace : Run → ℕ → List Event
trace run r = slice_index_or run.traces (r - 1) []

-- THE HISTORY OF A RUN

-- what the event tells of the book and of the nonce words
abbrev pub step_told : Event → Option StepTold
step_told (Called call reply) = Some DidCall
step_told (Drew target nonce count epoch) = Some (DidDraw nonce count epoch)
step_told _ = None

-- the journal, with each draw behind the entry that stands before it in its trace
abbrev pub history : Run → List Entry
history run = merge run.journal (map (filter_map step_told) run.traces)

-- EACH CALL ONCE

-- the entry that a call of the trace is
abbrev pub entry_of : ℕ → ℕ → Event → Option Entry
entry_of caller r (Called call reply) = Some (record { caller = caller; request = r; call = call; reply = reply })
entry_of caller r _ = None

-- the requests that a caller serves, in rising order
abbrev pub requests_of : ℕ → ℕ → ℕ → List ℕ
requests_of callers requests caller = filter (λ r. (r - 1) % callers + 1 == caller) (range_with_len 1 requests)

-- the calls of the caller's traces, in rising order of requests
abbrev pub calls_of : ℕ → Run → ℕ → List Entry
calls_of callers run caller =
    flat_map (λ r. filter_map (entry_of caller r) (trace run r)) (requests_of callers (length run.traces) caller)

-- the caller's entries
abbrev pub made_by : Run → ℕ → List Entry
made_by run caller = filter (λ entry. entry.caller == caller) run.journal

-- each entry is one call of one trace, in its caller's order
abbrev pub AreOnce : ℕ → Run → Type 0
AreOnce callers run = (caller : ℕ) → made_by run caller ≡ calls_of callers run caller

-- each has P
abbrev pub Each : {A : Type 0} → (A → Type 0) → List A → Type 0
Each P [] = Unit {0}
Each P (x ∷ xs) = P x × Each P xs
