use Rattle.std.proofs.Common.{◌≡◌, ◌++◌, ℕ, List, None, Ok, false}
use Rattle.std.specs.Slice.Iter.{chunks_rest}
use Rattle.spaces.specs.declared.roster.Method.TheVariants.{Get}
use Rattle.wire_head.specs.Feeding.{IsFed}
use Rattle.wire_head.specs.Replies.{reply}
use Rattle.bench_core.proofs.replies.is_whole_reply.Given as goal

abbrev pub invariant-loop-piece : goal.invariant-loop-piece
invariant-loop-piece l =
    goal.iterator-loop-piece.can_next l.piece-iterator
    × goal.iterator-loop-piece.is_finite l.piece-iterator
    × (fed : List ℕ) × IsFed l.reader Get fed × (reply Get fed false ≡ Ok None) × (fed ++ chunks_rest l.piece-iterator ≡ l.fn.text)
