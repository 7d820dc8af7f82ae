-- What a queue keeps of each space beside its prompts, so that none is looked for.
use Rattle.std.specs.Prelude.{◌≡◌, ℕ, ◌+◌, ◌<◌, ◌==◌, List, [], ◌∷◌, length, get_or, find, Option, None, option_map, unwrap_or, All}
use Rattle.prompt_queue.specs.declared.queue.Prompt.{Prompt}
use Rattle.prompt_queue.specs.declared.queue.Row.{Row}
use Rattle.prompt_queue.specs.Prompts.{open_prompt, led_in}

-- the latest prompt of the space
abbrev pub latest : List Prompt → ℕ → Option Prompt
latest prompts s = find (λ prompt. prompt.space == s) prompts

abbrev pub latest_number : List Prompt → ℕ → ℕ
latest_number prompts s = unwrap_or (option_map (λ prompt. prompt.number) (latest prompts s)) 0

abbrev pub row_of : List Prompt → ℕ → Row
row_of prompts s = record { latest = latest_number prompts s; led = led_in prompts s }

-- prompts are numbered from 1 in their order
abbrev pub AreNumbered : List Prompt → Type 0
AreNumbered [] = Unit {0}
AreNumbered (prompt ∷ earlier) = (prompt.number ≡ length earlier + 1) × AreNumbered earlier

-- of two prompts of one space the earlier one has ended
abbrev pub AreApart : List Prompt → Type 0
AreApart [] = Unit {0}
AreApart (prompt ∷ earlier) = (open_prompt earlier prompt.space ≡ None) × AreApart earlier

-- what the rows tell of the prompts
pub record AreKept (rows : List Row) (prompts : List Prompt) : Type 0 where
  pub numbered : AreNumbered prompts
  pub apart : AreApart prompts
  pub within : All (λ prompt. prompt.space < length rows) prompts
  pub each : (s : ℕ) (other : Row) → s < length rows → get_or rows s other ≡ row_of prompts s
