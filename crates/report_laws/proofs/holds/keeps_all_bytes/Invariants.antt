-- Those that were passed have only bytes.
use Rattle.std.proofs.Common.{◌≡◌, true, take}
use Rattle.report_laws.specs.Ranges.{are_all_bytes}
use Rattle.report_laws.proofs.holds.keeps_all_bytes.Given as goal

abbrev pub invariant-loop-bytes : goal.invariant-loop-bytes
invariant-loop-bytes l = are_all_bytes (take l.bytes-index l.all) ≡ true
