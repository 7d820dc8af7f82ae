-- One request more.
use Rattle.std.proofs.Common.{◌≡◌, ℕ, ◌+◌, [], ◌∷◌, ◌++◌, refl, add-one}
use Rattle.origin_sim.specs.Generated.{request, requests}

pub requests_step : (n : ℕ) → requests (n + 1) ≡ requests n ++ request (n + 1) ∷ []
requests_step n = rw add-one refl
