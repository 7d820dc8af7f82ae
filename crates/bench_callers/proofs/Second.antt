-- The second request of the first caller.
use Rattle.std.proofs.Common.{◌≡◌, ℕ, ◌+◌, ◌-◌, ◌%◌, ap, sym, ◌∙◌, arith}
use Rattle.std.proofs.Math.Nat.{mod_self}
use Rattle.book_laws.specs.Owners.{owner}

pub second_request : (callers : ℕ) → 1 ≡ owner callers (callers + 1)
second_request callers =
    let same : callers + 1 - 1 ≡ callers = omega arith in
    sym (ap (λ m. m % callers + 1) same ∙ ap (λ m. m + 1) (mod_self callers))
