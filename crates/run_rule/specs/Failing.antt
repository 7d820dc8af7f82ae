-- Failures and want of memory in a run.
use Rattle.std.specs.Prelude.{Bool, true, false, not, ◌&&◌, ◌||◌, List, reverse}
use Rattle.std.specs.List.{list_all, list_any}
use Rattle.link_trait.specs.declared.prompts.AskSeen.TheVariants.{Failed as AskFailed, NoMemory as AskNoMemory}
use Rattle.link_trait.specs.declared.steps.StepSeen.TheVariants.{Failed as StepFailed, NoMemory as StepNoMemory}
use Rattle.auth_events.specs.declared.journal.Loss.TheVariants.{Fault}
use Rattle.auth_events.specs.declared.journal.Call.TheVariants.{Lose}
use Rattle.auth_runs.specs.declared.event.Outcome.{Outcome}
use Rattle.auth_runs.specs.declared.event.Outcome.TheVariants.{Answered, Refused, BadReply, LinkFailed, ProviderFailed, PromptFailed, NoMemory}
use Rattle.auth_runs.specs.declared.event.Event.{Event}
use Rattle.auth_runs.specs.declared.event.Event.TheVariants.{Called, DialFailed, WriteFailed, ReadFailed, AskedFor, Stepped, Ended}
use Rattle.auth_runs.specs.Runs.{Run}
use Rattle.trace_rule.specs.Traces.{is_spent}

-- a request ran out of memory
abbrev pub is_any_spent : Run → Bool
is_any_spent run = list_any (λ events. is_spent (reverse events)) run.traces

-- the outcome tells of a fault
abbrev pub is_by_fault : Outcome → Bool
is_by_fault (Answered code) = false
is_by_fault (Refused code why) = false
is_by_fault (BadReply fault) = false
is_by_fault (LinkFailed count) = true
is_by_fault (ProviderFailed count) = true
is_by_fault (PromptFailed count) = true
is_by_fault NoMemory = false

-- a dial, a write, a read, an ask or a step failed, or a prompt or the request ends by a fault
abbrev pub is_fault : Event → Bool
is_fault (DialFailed link count) = true
is_fault (WriteFailed link count) = true
is_fault (ReadFailed link count) = true
is_fault (AskedFor prompt (AskFailed count)) = true
is_fault (Stepped target (StepFailed count)) = true
is_fault (Called (Lose prompt (Fault count)) reply) = true
is_fault (Ended outcome) = is_by_fault outcome
is_fault _ = false

-- an ask or a step wanted memory
abbrev pub wants_memory : Event → Bool
wants_memory (AskedFor prompt AskNoMemory) = true
wants_memory (Stepped target StepNoMemory) = true
wants_memory _ = false

-- nothing failed, and nothing wanted memory unless the request ran out of it
abbrev pub is_faultless : List Event → Bool
is_faultless events =
    not (list_any is_fault events) && (is_spent (reverse events) || not (list_any wants_memory events))

-- so it is with each request; then each ends `Answered`, `Refused`, `BadReply` or `NoMemory`
abbrev pub is_all_faultless : Run → Bool
is_all_faultless run = list_all is_faultless run.traces
