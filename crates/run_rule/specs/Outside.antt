-- What the outside has for a run, and what it says of a trace: the provider's steps, and what prompts were answered.
use Rattle.std.specs.Prelude.{ℕ, ◌≡◌, Bool, true, List, length, filter_map, map, find, Option, None, is_some, is_none}
use Rattle.std.specs.List.{range_with_len}
use Rattle.auth_text.specs.Login.{Login}
use Rattle.spaces.specs.ProtectionSpaces.{ProtectionSpace}
use Rattle.link_trait.specs.declared.links.LinkName.{LinkName}
use Rattle.link_trait.specs.declared.prompts.AskSeen.{AskSeen}
use Rattle.link_trait.specs.declared.prompts.AskSeen.TheVariants.{Given, Cancel, Failed, NoMemory}
use Rattle.link_trait.specs.declared.steps.Step.{Step}
use Rattle.link_trait.specs.Links.{Stream}
use Rattle.auth_runs.specs.declared.event.Event.{Event}
use Rattle.auth_runs.specs.declared.event.Event.TheVariants.{AskedFor, Stepped}
use Rattle.auth_runs.specs.Runs.{Run}
use Rattle.trace_rule.specs.Heard.{answer_to, leads_to}
use Rattle.trace_rule.specs.Telling.{step_told}

-- what the peers of links send, what the provider answers, and what prompts are answered
pub record Outside : Type 0 where
  -- of each link the bytes, and whether its end is there
  pub streams : LinkName → Stream
  -- of each request the nth step, counted from 1
  pub steps : ℕ → ℕ → Step
  -- of each space the answer to its nth prompt; none is a cancel
  pub answers : ProtectionSpace → ℕ → Option Login

-- STEPS

abbrev pub step_in : Event → Option Step
step_in (Stepped target seen) = step_told seen
step_in _ = None

-- the steps that the provider answered, in order
abbrev pub steps_in : List Event → List Step
steps_in events = filter_map step_in events

-- they are the request's steps, from the first one on
abbrev pub HasSteps : Outside → ℕ → List Event → Type 0
HasSteps outside r events = steps_in events ≡ map (outside.steps r) (range_with_len 1 (length (steps_in events)))

-- PROMPTS

-- the answer for the space and the ordinal of the prompt
abbrev pub answer_for : Outside → Run → ℕ → Option Login
answer_for outside run prompt = answer_to outside.answers run.names (find (λ entry. leads_to entry.reply prompt) run.journal)

-- an identity was given where the answer is one, and a cancel where it is none
abbrev pub is_answer_seen : AskSeen → Option Login → Bool
is_answer_seen Given answer = is_some answer
is_answer_seen Cancel answer = is_none answer
is_answer_seen (Failed count) answer = true
is_answer_seen NoMemory answer = true

-- a prompt was answered with its answer
abbrev pub is_asked_right : Outside → Run → Event → Bool
is_asked_right outside run (AskedFor prompt seen) = is_answer_seen seen (answer_for outside run prompt)
is_asked_right outside run _ = true
