-- Places among answers that are repeated.
use Rattle.std.proofs.Common.{◌≡◌, ◌∙◌, ℕ, zero, suc, ◌-◌, ◌<◌, ◌≤◌, List, ◌++◌, replicate, refl, ap, arith, Some}
use Rattle.std.specs.Prelude.{slice_get}

-- a place among the repeats, and behind them

pub at_repeated : {A : Type 0} (n k : ℕ) (x : A) (xs : List A) → k < n → slice_get (replicate n x ++ xs) k ≡ Some x
at_repeated zero k x xs within = absurd (omega (arith, within))
at_repeated (suc n) zero x xs within = refl
at_repeated (suc n) (suc k) x xs within = at_repeated n k x xs (omega (arith, within))

pub behind_repeated : {A : Type 0} (n k : ℕ) (x : A) (xs : List A) → n ≤ k → slice_get (replicate n x ++ xs) k ≡ slice_get xs (k - n)
behind_repeated zero k x xs past = ap (λ j. slice_get xs j) (omega arith)
behind_repeated (suc n) zero x xs past = absurd (omega (arith, past))
behind_repeated (suc n) (suc k) x xs past = behind_repeated n k x xs (omega (arith, past)) ∙ ap (λ j. slice_get xs j) (omega arith)
