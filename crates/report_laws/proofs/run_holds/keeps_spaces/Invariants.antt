-- What was passed holds.
use Rattle.std.proofs.Common.{take}
use Rattle.auth_runs.specs.Runs.{Each}
use Rattle.report_laws.specs.Ranges.{SpaceHolds}
use Rattle.report_laws.proofs.run_holds.keeps_spaces.Given as goal

abbrev pub invariant-loop-it : goal.invariant-loop-it
invariant-loop-it l = Each SpaceHolds (take l.it-index l.all)
