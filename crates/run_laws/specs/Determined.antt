-- What the outside makes of a run of one caller: all of it.
use Rattle.std.specs.Prelude.{◌≡◌, ℕ, false, List}
use Rattle.spaces.specs.declared.roster.Roster.{Roster}
use Rattle.auth_runs.specs.Runs.{Run}
use Rattle.run_rule.specs.Outside.{Outside}
use Rattle.run_rule.specs.Failing.{is_any_spent}
use Rattle.run_rule.specs.Runs.{IsLoneRun}

-- two runs of one caller over one roster, one outside and one seed, in which nothing fails and no request ran out of memory, are equal
abbrev pub OutsidesMakeRuns : Type 0
OutsidesMakeRuns =
    (roster : Roster) → (outside : Outside) → (seed : List ℕ) → (a b : Run)
    → IsLoneRun roster outside seed a → IsLoneRun roster outside seed b
    → is_any_spent a ≡ false → is_any_spent b ≡ false → a ≡ b
