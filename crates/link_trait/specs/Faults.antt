-- Counts of faults, and which calls fail.
use Rattle.std.specs.Prelude.{ℕ, Bool, true, false, ◌≡◌, ◌↔◌, ◌+◌, ◌-◌, ◌^◌, ◌<◌, ◌≤◌, ◌==◌, min, List, Option, None, Some, if◌then◌else◌}
use Rattle.std.specs.List.{list_any}

-- the count rose; where it may stick, it may also stand at the greatest u64
abbrev pub Rose : Bool → ℕ → ℕ → Type 0
Rose false before now = before < now
Rose true before now = min (before + 1) (2 ^ 64 - 1) ≤ now

-- how many calls were made, and the numbers, from 1, of those that fail
pub record Schedule : Type 0 where
  pub made : ℕ
  pub listed : List ℕ

-- the number of the next call; it stands still at the greatest u64
abbrev pub next_number : Schedule → ℕ
next_number schedule = min (schedule.made + 1) (2 ^ 64 - 1)

-- the next call is listed
abbrev pub next_fails : Schedule → Bool
next_fails schedule = list_any (λ number. number == next_number schedule) schedule.listed

-- one more call was made
abbrev pub one_more : Schedule → Schedule
one_more schedule = record { made = next_number schedule; listed = schedule.listed }

-- where the schedule is known, the call fails exactly where it is listed
abbrev pub FailsBy : Option Schedule → Type 0 → Type 0
FailsBy None failed = Unit {0}
FailsBy (Some schedule) failed = failed ↔ (next_fails schedule ≡ true)

-- a schedule, and how many calls failed
pub record Counted : Type 0 where
  pub schedule : Schedule
  pub faults : ℕ

-- one more call was made, and failed where it is listed
abbrev pub counted : Counted → Counted
counted counts = record {
  schedule = one_more counts.schedule;
  faults = if next_fails counts.schedule then counts.faults + 1 else counts.faults;
}
