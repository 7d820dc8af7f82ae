-- Where a pass stands once the last one was taken out.
use Rattle.std.proofs.Common.{◌≡◌, ℕ, zero, suc, List, [], ◌∷◌, ◌++◌, length, refl, Some}
use Rattle.std.specs.List.{slice_get}

pub last_place : {A : Type 0} (xs : List A) (x : A) → slice_get (xs ++ x ∷ []) (length xs) ≡ Some x
last_place [] x = refl
last_place (y ∷ xs) x = last_place xs x

pub same_place : {A : Type 0} (xs ys : List A) (k : ℕ) (x : A) → slice_get xs k ≡ Some x → slice_get (xs ++ ys) k ≡ Some x
same_place [] ys k x e = absurd (cc e)
same_place (y ∷ xs) ys zero x e = e
same_place (y ∷ xs) ys (suc k) x e = same_place xs ys k x e
