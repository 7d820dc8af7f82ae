use Rattle.std.proofs.Common.{◌≡◌, take}
use Rattle.std.specs.Prelude.{reverse}
use Rattle.std.specs.Option.{option_copied}
use Rattle.trace_rule.specs.Holding.{last_reply}
use Rattle.request_machine.proofs.pick.last_reply.Given as goal

abbrev pub invariant-loop-event : goal.invariant-loop-event
invariant-loop-event l = option_copied l.last ≡ last_reply (reverse (take l.event-index l.events))
