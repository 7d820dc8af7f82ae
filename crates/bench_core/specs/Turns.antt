-- Turns that passes took.
use Rattle.std.specs.Prelude.{ℕ, List, length}
use Rattle.std.specs.List.{sum_by}
use Rattle.turnstile.specs.Passes.{PassView}

-- how many items are the passes' own, in all
abbrev pub turns_of : {I F : Type 0} → List (PassView I F) → ℕ
turns_of passes = sum_by (λ pass. length pass.mine) passes
