-- The words of one caller, and what draws and retirements make of them.
use Rattle.std.specs.Prelude.{ℕ, ◌+◌, ◌-◌, Bool, false, ◌==◌, List, fold, replicate, option_map, unwrap_or, slice_set}
use Rattle.spaces.specs.Sites.{numbered}
use Rattle.auth_events.specs.declared.journal.Drawn.{Drawn}

-- the word of a nonce that was neither drawn nor retired
abbrev pub unused : Drawn
unused = record { count = 0; epoch = 0 }

-- how often the nonce was drawn
abbrev pub draws_of : List Drawn → ℕ → ℕ
draws_of words n = unwrap_or (option_map (λ word. word.count) (numbered words n)) 0

-- how often it was retired
abbrev pub retirements_of : List Drawn → ℕ → ℕ
retirements_of words n = unwrap_or (option_map (λ word. word.epoch) (numbered words n)) 0

-- with one draw of the nonce more
abbrev pub with_draw : List Drawn → ℕ → List Drawn
with_draw words n = slice_set words (n - 1) (record { count = draws_of words n + 1; epoch = retirements_of words n })

-- with one retirement of the nonce more
abbrev pub with_retirement : List Drawn → ℕ → List Drawn
with_retirement words n = slice_set words (n - 1) (record { count = draws_of words n; epoch = retirements_of words n + 1 })

-- what is done with a nonce
pub data Step : Type 0 where
  Draw : ℕ → Step
  Retire : ℕ → Step

abbrev pub nonce_in : Step → ℕ
nonce_in (Draw nonce) = nonce
nonce_in (Retire nonce) = nonce

abbrev pub is_draw : ℕ → Step → Bool
is_draw n (Draw nonce) = nonce == n
is_draw n (Retire nonce) = false

abbrev pub is_retirement : ℕ → Step → Bool
is_retirement n (Draw nonce) = false
is_retirement n (Retire nonce) = nonce == n

abbrev pub with_step : List Drawn → Step → List Drawn
with_step words (Draw nonce) = with_draw words nonce
with_step words (Retire nonce) = with_retirement words nonce

-- the words after these steps, the earliest first
abbrev pub words_after : ℕ → List Step → List Drawn
words_after nonces steps = fold with_step (replicate nonces unused) steps
