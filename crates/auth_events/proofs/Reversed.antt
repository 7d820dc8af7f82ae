-- A test passes in a past where it passes in its journal: so a loop over the entries, from either end, asks the same.
use Rattle.std.proofs.Common.{◌≡◌, Bool, true, false, ◌||◌, List, [], ◌∷◌, refl, ap, ◌∙◌}
use Rattle.std.specs.Prelude.{reverse}
use Rattle.std.specs.List.{list_any}
use Rattle.std.proofs.lemmas.List.{reverse-append}
use Rattle.std.proofs.lemmas.List.Folds.{list_any-append}

either_first : (a b : Bool) → (a || (b || false)) ≡ (b || a)
either_first true true = refl
either_first true false = refl
either_first false true = refl
either_first false false = refl

pub list_any-reverse : {X : Type 0} (p : X → Bool) (xs : List X) → list_any p (reverse xs) ≡ list_any p xs
list_any-reverse p [] = refl
list_any-reverse p (x ∷ xs) =
    ap (list_any p) (reverse-append (x ∷ []) xs)
    ∙ (list_any-append p (reverse xs) (x ∷ [])
    ∙ (ap (λ b. b || (p x || false)) (list_any-reverse p xs) ∙ either_first (list_any p xs) (p x)))
