use Rattle.std.proofs.Common.{◌≡◌, ◌≤◌, drop, length, None}
use Rattle.report_reading.specs.Words.{cut_last}
use Rattle.report_reading.proofs.values.last_colon.Given as goal

abbrev pub invariant-loop-n : goal.invariant-loop-n
invariant-loop-n l = (cut_last (drop l.n l.bytes) ≡ None) × (l.n ≤ length l.bytes)

abbrev pub decreases-loop-n : goal.decreases-loop-n
decreases-loop-n l = l.n
