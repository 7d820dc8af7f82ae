use Rattle.std.proofs.Common.{◌≡◌, ◌++◌, length}
use Rattle.report_reading.specs.EventForms as spec
use Rattle.report_reading.proofs.event_forms.values_behind.Given as goal

abbrev pub invariant-loop-rest : goal.invariant-loop-rest
invariant-loop-rest l = l.values ++ spec.values_behind l.kind l.rest ≡ spec.values_behind l.kind l.words

abbrev pub decreases-loop-rest : goal.decreases-loop-rest
decreases-loop-rest l = length l.rest
