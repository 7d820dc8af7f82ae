-- How many counts a request draws.
use Rattle.std.specs.Prelude.{ℕ, ◌+◌, List, [], ◌∷◌}
use Rattle.auth_runs.specs.declared.event.Event.{Event}
use Rattle.auth_runs.specs.declared.event.Event.TheVariants.{Drew}

-- how many counts were drawn
abbrev pub draws : List Event → ℕ
draws [] = 0
draws (Drew target nonce count epoch ∷ past) = 1 + draws past
draws (event ∷ past) = draws past
