-- What a run keeps of itself.
use Rattle.std.specs.Prelude.{◌≡◌, ℕ, false, IsTrue, List, ◌∷◌, reverse}
use Rattle.auth_events.specs.Tables.{AreNames}
use Rattle.auth_events.specs.Book.{IsLegal}
use Rattle.auth_events.specs.Fresh.{fresh}
use Rattle.auth_runs.specs.declared.event.Outcome.{Outcome}
use Rattle.auth_runs.specs.declared.event.Event.{Event}
use Rattle.auth_runs.specs.declared.event.Event.TheVariants.{Ended}
use Rattle.auth_runs.specs.Runs.{Run, history, trace}
use Rattle.run_rule.specs.Outside.{Outside}
use Rattle.run_rule.specs.Failing.{is_by_fault, is_faultless}
use Rattle.run_rule.specs.Runs.{IsServedIn, IsApart}

-- where names are names and the history is legal and fresh, no partition learns of another
abbrev pub PartitionsAreApart : Type 0
PartitionsAreApart =
    (run : Run) → AreNames run.names → IsLegal run.roster run.names (history run)
    → IsTrue (fresh run.names (history run)) → (partition : List ℕ) → IsApart run partition

-- the past, the latest event first, ends `Answered`, `Refused`, `BadReply` or `NoMemory`
abbrev pub IsEndedWell : List Event → Type 0
IsEndedWell past = (outcome : Outcome) × (before : List Event) × (past ≡ Ended outcome ∷ before) × (is_by_fault outcome ≡ false)

-- so ends each request of a run in which nothing fails
abbrev pub RequestsEndWell : Type 0
RequestsEndWell =
    (outside : Outside) → (run : Run) → (r : ℕ) → IsServedIn outside run r
    → IsTrue (is_faultless (trace run r)) → IsEndedWell (reverse (trace run r))
