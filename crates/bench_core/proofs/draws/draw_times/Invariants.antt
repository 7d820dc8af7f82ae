use Rattle.std.proofs.Common.{◌≡◌, ◌+◌, length}
use Rattle.bench_core.proofs.draws.draw_times.Given as goal

abbrev pub invariant-loop-draw : goal.invariant-loop-draw
invariant-loop-draw l = (l.seat.table ≡ l.fn.seat.table) × (l.seat.quota + l._draw ≡ l.fn.seat.quota) × (length l.seat.drawn ≡ length l.fn.seat.drawn + l._draw)
