-- The calls of one request are among all calls.
use Rattle.std.proofs.Common.{ℕ, suc, ◌≤◌, ◌==◌, Bool, true, false, List, [], ◌∷◌, length, arith}
use Rattle.std.specs.Prelude.{filter, if◌then◌else◌}
use Rattle.link_trait.specs.Tokens.{taken_by}

least_if : (b : Bool) (x : ℕ) (some : List ℕ) (k : ℕ) → length some ≤ k → length (if b then x ∷ some else some) ≤ suc k
least_if true x some k small = omega (arith, small)
least_if false x some k small = omega (arith, small)

pub taken_least : (n : ℕ) (taken : List ℕ) → taken_by n taken ≤ length taken
taken_least n [] = omega arith
taken_least n (other ∷ taken) = least_if (other == n) other (filter (λ x. x == n) taken) (length taken) (taken_least n taken)
