use Rattle.std.proofs.Common.{◌≡◌, take}
use Rattle.std.specs.Prelude.{reverse}
use Rattle.auth_events.specs.Identities.{giving}
use Rattle.worked_callers.proofs.tests.readings.giving.Given as goal

abbrev pub invariant-loop-entry : goal.invariant-loop-entry
invariant-loop-entry l = l.found ≡ giving (reverse (take l.entry-index l.entries)) l.gift
