use Rattle.std.proofs.Common.{◌≡◌, if◌then◌else◌}
use Rattle.std.specs.Option.{is_none}
use Rattle.challenge_tokens.specs.Pieces.{field_read}
use Rattle.bench_core.proofs.challenges.whole_readings.Given as goal

abbrev pub invariant-loop-reading : goal.invariant-loop-reading
invariant-loop-reading l = l.whole ≡ (if is_none (field_read l.fn.field).bad_at then l._reading else 0)
