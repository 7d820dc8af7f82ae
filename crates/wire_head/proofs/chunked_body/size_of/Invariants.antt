use Rattle.std.proofs.Common.{◌≡◌, ◌≤◌, ◌+◌, ◌*◌, ◌^◌, take}
use Rattle.std.specs.Str.Parse.{digits_value}
use Rattle.wire_head.proofs.chunked_body.size_of.Given as goal

abbrev pub invariant-loop-digit : goal.invariant-loop-digit
invariant-loop-digit l =
    (l.size ≡ digits_value 16 (take l.digit-index l.digits)) × (l.size + 3 ≤ 3 * 16 ^ l.digit-index)
