use Rattle.std.proofs.Common.{◌≡◌, replicate}
use Rattle.auth_book.proofs.rows.Rows.filled.Given as goal

abbrev pub invariant-loop-at : goal.invariant-loop-at
invariant-loop-at g l = l.rows ≡ record { room = l.len; items = replicate l._at l.item }
