-- What was passed holds.
use Rattle.std.proofs.Common.{take}
use Rattle.auth_runs.specs.Runs.{Each}
use Rattle.report_laws.specs.Ranges.{EntryHolds}
use Rattle.report_laws.proofs.run_holds.keeps_entries.Given as goal

abbrev pub invariant-loop-it : goal.invariant-loop-it
invariant-loop-it l = Each EntryHolds (take l.it-index l.all)
