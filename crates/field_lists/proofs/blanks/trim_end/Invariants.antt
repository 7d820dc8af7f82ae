use Rattle.std.proofs.Common.{◌≡◌, ◌≤◌, length, take}
use Rattle.field_lists.specs.Blanks.{trim_end}
use Rattle.field_lists.proofs.blanks.trim_end.Given as goal

abbrev pub invariant-loop-n : goal.invariant-loop-n
invariant-loop-n l = (l.n ≤ length l.bytes) × (trim_end (take l.n l.bytes) ≡ trim_end l.bytes)

abbrev pub decreases-loop-n : goal.decreases-loop-n
decreases-loop-n l = l.n
