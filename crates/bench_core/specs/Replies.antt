-- The answer of a reader that a measurement counts.
use Rattle.std.specs.Prelude.{ℕ, Bool, true, false, Option, Some, None, Result, Ok, Err}
use Rattle.wire_head.specs.declared.reply.Reply.{Reply}
use Rattle.wire_head.specs.declared.reply.WireFault.{WireFault}

-- it is a whole reply
abbrev pub is_whole : Result (Option (Reply × ℕ)) WireFault → Bool
is_whole (Ok (Some reply)) = true
is_whole (Ok None) = false
is_whole (Err fault) = false
