-- What was passed holds.
use Rattle.std.proofs.Common.{take}
use Rattle.auth_runs.specs.Runs.{Each}
use Rattle.report_laws.specs.Ranges.{EventHolds}
use Rattle.report_laws.proofs.run_holds.keeps_events.Given as goal

abbrev pub invariant-loop-it : goal.invariant-loop-it
invariant-loop-it l = Each EventHolds (take l.it-index l.all)
