-- What a turn leaves as it is.
use Rattle.std.specs.Prelude.{◌≡◌, ℕ}
use Rattle.atomic_table.specs.Seated.{TableId}
use Rattle.nonce_words.specs.Views.{DrawView}

-- the number of callers and the words of the book are what they were
abbrev pub IsFixed : ℕ → TableId → ℕ → TableId → Type 0
IsFixed callers words callers_after words_after = (callers_after ≡ callers) × (words_after ≡ words)

-- a drawing seat that was told epochs has the quota and the draws that it had
abbrev pub IsInformed : DrawView → DrawView → Type 0
IsInformed before after = (after.table ≡ before.table) × (after.quota ≡ before.quota) × (after.drawn ≡ before.drawn)
