use Rattle.std.proofs.Common.{◌≡◌, ◌*◌, length}
use Rattle.bench_core.proofs.challenges.copies.Given as goal

abbrev pub invariant-loop-copy : goal.invariant-loop-copy
invariant-loop-copy l = length l.text ≡ l._copy * length l.fn.piece
