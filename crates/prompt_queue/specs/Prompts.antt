-- The prompts of a queue, the latest first, so each definition looks back from the latest prompt.
use Rattle.std.specs.Prelude.{ℕ, ◌+◌, Bool, true, false, ◌&&◌, ◌==◌, if◌then◌else◌, List, ◌∷◌, length, map, find, count_by, Option, None, Some, option_map}
use Rattle.prompt_queue.specs.declared.queue.Prompt.{Prompt}
use Rattle.prompt_queue.specs.declared.queue.Joined.{Joined}
use Rattle.prompt_queue.specs.declared.queue.Joined.TheVariants.{Lead, Follow}
use Rattle.prompt_queue.specs.declared.queue.PromptTake.{PromptTake}
use Rattle.prompt_queue.specs.declared.queue.PromptTake.TheVariants.{Pending, Gave, Cancelled}

-- what a queue is seen as
pub record Queue : Type 0 where
  -- there is room for 32 prompts of each of so many requests
  pub requests : ℕ
  -- there is room for the spaces of smaller numbers: they were added
  pub spaces : ℕ
  pub prompts : List Prompt

abbrev pub is_pending : PromptTake → Bool
is_pending Pending = true
is_pending _ = false

-- the prompt is of the space, and has neither answer nor loss
abbrev pub is_open_in : ℕ → Prompt → Bool
is_open_in s prompt = prompt.space == s && is_pending prompt.ending

-- the open prompt of the space, if one is
abbrev pub open_prompt : List Prompt → ℕ → Option Prompt
open_prompt prompts s = find (is_open_in s) prompts

-- how many prompts of the space there were
abbrev pub led_in : List Prompt → ℕ → ℕ
led_in prompts s = count_by (λ prompt. prompt.space == s) prompts

-- the prompt of that number
abbrev pub prompt_of : List Prompt → ℕ → Option Prompt
prompt_of prompts p = find (λ prompt. prompt.number == p) prompts

-- what those who wait for the prompt take
abbrev pub ending_of : List Prompt → ℕ → Option PromptTake
ending_of prompts p = option_map (λ prompt. prompt.ending) (prompt_of prompts p)

-- a request joins the prompt that is open, or leads a new one; its ordinal counts the prompts of the space
abbrev pub joined_to : Option Prompt → ℕ → ℕ → Joined
joined_to None prompts led = Lead (prompts + 1) (led + 1)
joined_to (Some prompt) prompts led = Follow prompt.number

abbrev pub joined : List Prompt → ℕ → Joined
joined prompts s = joined_to (open_prompt prompts s) (length prompts) (led_in prompts s)

-- with the prompt that the request leads, if it leads one
abbrev pub with_joined : List Prompt → ℕ → ℕ → Joined → List Prompt
with_joined prompts s r (Lead prompt ordinal) = record { number = prompt; space = s; request = r; ending = Pending } ∷ prompts
with_joined prompts s r (Follow prompt) = prompts

-- the answer's gift, or its cancel
abbrev pub answered : ℕ → PromptTake
answered ordinal = if ordinal == 0 then Cancelled else Gave ordinal

abbrev pub ended : ℕ → PromptTake → Prompt → Prompt
ended p outcome prompt = if prompt.number == p then record prompt { ending = outcome } else prompt

-- with the ending of one prompt
abbrev pub with_ending : List Prompt → ℕ → PromptTake → List Prompt
with_ending prompts p outcome = map (ended p outcome) prompts
