use Rattle.std.proofs.Common.{◌≡◌, ◌+◌, drop}
use Rattle.std.specs.Option.{option_map}
use Rattle.wire_head.specs.Lines.{head_len}
use Rattle.wire_head.proofs.lines.head_len.Given as goal

abbrev pub invariant-loop-i : goal.invariant-loop-i
invariant-loop-i l = option_map (λ n. l.i + n) (head_len (drop l.i l.text)) ≡ head_len l.text
