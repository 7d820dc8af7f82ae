use Rattle.std.proofs.Common.{length, ◌-◌}
use Rattle.wire_head.specs.ReadingRuns.{IsChunkRun}
use Rattle.wire_head.specs.declared.chunk_run.ChunkRun.TheVariants.{On}
use Rattle.wire_head.proofs.chunk_run.chunk_run.Given as goal

abbrev pub invariant-steps : goal.invariant-steps
invariant-steps l = IsChunkRun l.count l.size l.fn.place l.text (On l.at l.on.0 l.on.1 l.on.2)

abbrev pub decreases-steps : goal.decreases-steps
decreases-steps l = length l.text - l.at
