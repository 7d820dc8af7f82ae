-- What a view knows of a pass that was joined into it.
use Rattle.std.specs.Prelude.{◌≡◌, ℕ, ◌⊎◌}
use mathlib.Core.Option.{some}
use lib.ListN.{get_elem?}
use Rattle.turnstile.specs.History.{keeping}
use Rattle.turnstile.specs.Passes.{PassView}
use Rattle.turnstile.specs.declared.history.Past.{Past}

-- it is the pass's own, or it keeps what the pass had seen and made
abbrev pub Knows : {I F : Type 0} → Past I → PassView I F → Type 0
Knows v p = ((p.number ≡ v.number) × (p.seen ≡ v.seen) × (p.mine ≡ v.mine)) ⊎ (((j : ℕ) × (get_elem? v.olds j ≡ some p.seen)) × ((k : ℕ) × (get_elem? v.kept k ≡ some (keeping p.number p.mine))))
