use Rattle.std.proofs.Common.{length, ◌-◌}
use Rattle.wire_head.specs.ReadingRuns.{IsRead}
use Rattle.wire_head.specs.declared.state.Next.TheVariants.{On}
use Rattle.wire_head.proofs.reading.read.Given as goal

abbrev pub invariant-steps : goal.invariant-steps
invariant-steps l = IsRead l.method l.fn.state l.text (record { used = l.at; next = On l.state })

abbrev pub decreases-steps : goal.decreases-steps
decreases-steps l = length l.text - l.at
