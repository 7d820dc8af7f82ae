use Rattle.std.proofs.Common.{◌≡◌, ◌++◌, map}
use Rattle.field_lists.specs.Elements.{of_pieces}
use Rattle.field_lists.proofs.lists.push_value.Given as goal

abbrev pub invariant-loop-piece : goal.invariant-loop-piece
invariant-loop-piece l = l.them ≡ l.fn.them ++ of_pieces (map (λ p. p.now) l.yielded)
