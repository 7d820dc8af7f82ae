-- How a request ended, as its events tell.
use Rattle.std.specs.Prelude.{ℕ, ◌-◌, List, length, Option, Some, None, slice_get}
use Rattle.auth_runs.specs.declared.event.Event.{Event}
use Rattle.auth_runs.specs.declared.event.Event.TheVariants.{Ended}
use Rattle.auth_runs.specs.declared.event.Outcome.TheVariants.{Answered}

-- the code of the reply that answered the request, where the event tells of one
abbrev pub code_told : Option Event → Option ℕ
code_told (Some (Ended (Answered code))) = Some code
code_told _ = None

-- the code that the last event tells of
abbrev pub answer : List Event → Option ℕ
answer events = code_told (slice_get events (length events - 1))
