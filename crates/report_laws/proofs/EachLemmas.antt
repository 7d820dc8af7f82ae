-- What holds of each thing of a list, one thing after another.
use Rattle.std.proofs.Common.{◌≡◌, ℕ, zero, suc, ◌+◌, ◌<◌, ◌≤◌, List, [], ◌∷◌, length, take, get_or, sym, subst, arith}
use Rattle.std.proofs.lemmas.List.{take_all}
use Rattle.auth_runs.specs.Runs.{Each}

pub each_more : {A : Type 0} (P : A → Type 0) (xs : List A) (i : ℕ) (d x : A) → i < length xs → x ≡ get_or xs i d → Each P (take i xs) → P x → Each P (take (i + 1) xs)
each_more P [] i d x less is h p = absurd (omega arith)
each_more P (y ∷ xs) zero d x less is h p = (subst P is p, tt)
each_more P (y ∷ xs) (suc i) d x less is h p =
    let next : suc i + 1 ≡ suc (i + 1) = omega arith in
    subst (λ (k : ℕ). Each P (take k (y ∷ xs))) (sym next) (h.0, each_more P xs i d x (omega (arith, less)) is h.1 p)

pub each_all : {A : Type 0} (P : A → Type 0) (xs : List A) (n : ℕ) → length xs ≤ n → Each P (take n xs) → Each P xs
each_all P xs n all h = subst (Each P) (take_all n xs all) h
