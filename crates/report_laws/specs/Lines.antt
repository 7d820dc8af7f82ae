-- The lines of a run, one by one.
use Rattle.std.specs.Prelude.{ℕ, ◌+◌, List, [], ◌∷◌, ◌++◌, map, codes}
use Rattle.auth_runs.specs.declared.event.Event.{Event}
use Rattle.auth_runs.specs.Runs.{Run}
use Rattle.report_lines.specs.RosterLines.{seed_line, default_line, request_line}
use Rattle.report_lines.specs.NameLines.{space_line, terms_line, text_line}
use Rattle.report_lines.specs.EntryLines.{entry_line}
use Rattle.report_lines.specs.EventLines.{event_line}

-- the lines of numbered things, whose numbers rise from n
abbrev pub numbered_lines : {A : Type 0} → (ℕ → A → List ℕ) → ℕ → List A → List (List ℕ)
numbered_lines line n [] = []
numbered_lines line n (thing ∷ things) = line n thing ∷ numbered_lines line (n + 1) things

-- the lines of the traces of requests from r on
abbrev pub all_events : ℕ → List (List Event) → List (List ℕ)
all_events r [] = []
all_events r (events ∷ traces) = map (event_line r) events ++ all_events (r + 1) traces

-- from the journal on
abbrev pub told_lines : Run → List (List ℕ)
told_lines run = map entry_line run.journal ++ (all_events 1 run.traces ++ (codes "end\n" ∷ []))

-- from the names on
abbrev pub named_lines : Run → List (List ℕ)
named_lines run =
    numbered_lines space_line 1 run.names.spaces
    ++ (numbered_lines terms_line 1 run.names.terms ++ (numbered_lines text_line 1 run.names.texts ++ told_lines run))

-- from the roster on
abbrev pub asked_lines : Run → List (List ℕ)
asked_lines run = map default_line run.roster.allowed ++ (numbered_lines request_line 1 run.roster.requests ++ named_lines run)

abbrev pub run_lines : Run → List (List ℕ)
run_lines run = codes "authreport 1\n" ∷ seed_line run.seed ∷ asked_lines run
