use Rattle.std.proofs.Common.{◌≡◌, ◌+◌, drop}
use Rattle.std.specs.Option.{option_map}
use Rattle.wire_head.specs.Lines as Lines
use Rattle.origin_sim.proofs.answering.head_len.Given as goal

abbrev pub invariant-loop-i : goal.invariant-loop-i
invariant-loop-i l = option_map (λ n. l.i + n) (Lines.head_len (drop l.i l.text)) ≡ Lines.head_len l.text
