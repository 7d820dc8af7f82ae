use Rattle.std.proofs.Common.{◌≡◌, ◌≤◌, ◌-◌, drop, length}
use Rattle.wire_head.specs.ChunkedBodies.{chunks, longer}
use Rattle.wire_head.proofs.chunked_body.chunks.Given as goal

abbrev pub invariant-chunks : goal.invariant-chunks
invariant-chunks l =
    (l.at ≤ length l.text) × (l.size ≤ l.at) × (longer l.at l.size (chunks 0 (drop l.at l.text)) ≡ chunks 0 l.text)

abbrev pub decreases-chunks : goal.decreases-chunks
decreases-chunks l = length l.text - l.at
