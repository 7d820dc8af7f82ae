-- Failures that a request's dialer and its prompter cause, as its events show them.
use Rattle.std.specs.Prelude.{Bool, true, false}
use Rattle.link_trait.specs.declared.prompts.AskSeen.TheVariants.{Failed}
use Rattle.auth_runs.specs.declared.event.Event.{Event}
use Rattle.auth_runs.specs.declared.event.Event.TheVariants.{DialFailed, WriteFailed, ReadFailed, AskedFor}

-- a dial, a write, a read or an ask failed
abbrev pub has_failed : Event → Bool
has_failed (DialFailed link count) = true
has_failed (WriteFailed link count) = true
has_failed (ReadFailed link count) = true
has_failed (AskedFor prompt (Failed count)) = true
has_failed _ = false
