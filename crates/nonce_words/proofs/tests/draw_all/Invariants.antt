use Rattle.std.proofs.Common.{◌≡◌, ◌+◌, length}
use Rattle.nonce_words.proofs.tests.draw_all.Given as goal

abbrev pub invariant-loop-count : goal.invariant-loop-count
invariant-loop-count l = (l.seat.table ≡ l.fn.seat.table) × (l.seat.quota + l.count-index ≡ l.fn.seat.quota) × (length l.seat.drawn ≡ length l.fn.seat.drawn + l.count-index)
