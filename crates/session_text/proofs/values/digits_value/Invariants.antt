use Rattle.std.proofs.Common.{◌≡◌, ◌<◌, ◌^◌, take}
use Rattle.std.specs.List.{fold}
use Rattle.session_text.specs.Cuts.{with_digit}
use Rattle.session_text.proofs.values.digits_value.Given as goal

abbrev pub invariant-loop-b : goal.invariant-loop-b
invariant-loop-b l = (l.n ≡ fold with_digit 0 (take l.b-index l.word)) × (l.n < 10 ^ l.b-index)
