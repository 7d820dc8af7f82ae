use Rattle.std.proofs.Common.{◌≡◌, ◌≤◌, ◌-◌, length, drop}
use Rattle.wire_head.specs.Replies.{heads, progress}
use Rattle.wire_head.proofs.laws.plain.progress_of.Given as goal

abbrev pub invariant-heads : goal.invariant-heads
invariant-heads l = (l.at ≤ length l.text) × (l.at ≤ 65536) × (heads l.method l.at 0 (drop l.at l.text) ≡ progress l.method l.text)

abbrev pub decreases-heads : goal.decreases-heads
decreases-heads l = length l.text - l.at
