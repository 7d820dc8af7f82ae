use Rattle.std.proofs.Common.{◌≡◌, ◌++◌, length}
use Rattle.wire_head.specs.Lines.{cut_at}
use Rattle.wire_head.proofs.head_reader.lines.Given as goal

abbrev pub invariant-lines : goal.invariant-lines
invariant-lines l = l.them ++ cut_at 10 l.rest ≡ cut_at 10 l.text

abbrev pub decreases-lines : goal.decreases-lines
decreases-lines l = length l.rest
