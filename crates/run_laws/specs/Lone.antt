-- What a run of one caller is made of.
use Rattle.std.specs.Prelude.{◌≡◌, ℕ, List}
use Rattle.spaces.specs.declared.roster.Roster.{Roster}
use Rattle.auth_runs.specs.Runs.{Run, calls_of}
use Rattle.run_rule.specs.Outside.{Outside}
use Rattle.run_rule.specs.Runs.{IsRunByOne}

-- the journal is the calls of the traces, in order of requests
abbrev pub JournalsAreCalls : Type 0
JournalsAreCalls =
    (roster : Roster) → (outside : Outside) → (seed : List ℕ) → (run : Run)
    → IsRunByOne roster outside seed run → run.journal ≡ calls_of 1 run 1

-- two runs of the same names and traces are equal
abbrev pub TracesMakeRuns : Type 0
TracesMakeRuns =
    (roster : Roster) → (outside : Outside) → (seed : List ℕ) → (a b : Run)
    → IsRunByOne roster outside seed a → IsRunByOne roster outside seed b
    → a.names ≡ b.names → a.traces ≡ b.traces → a ≡ b
