-- Filters and maps of one list in either order, and from either end.
use Rattle.std.proofs.Common.{◌≡◌, Bool, true, false, cond, List, [], ◌∷◌, ◌++◌, refl, ap, sym, ◌∙◌}
use Rattle.std.specs.Prelude.{All, IsTrue, filter, map, reverse}
use Rattle.std.proofs.lemmas.List.{append-nil, map-append, reverse-append}
use Rattle.std.proofs.lemmas.List.Elements.{All-head, All-tail, filter-append}

pub filter_both : {X : Type 0} (p q : X → Bool) (xs : List X) → filter p (filter q xs) ≡ filter q (filter p xs)
filter_both p q [] = refl
filter_both {X} p q (x ∷ xs) = at (p x) refl (q x) refl (filter_both p q xs)
  where
    kept : Bool → List X → List X
    kept b ys = cond b (x ∷ ys) ys

    at : (b : Bool) → p x ≡ b → (c : Bool) → q x ≡ c → filter p (filter q xs) ≡ filter q (filter p xs) → filter p (kept c (filter q xs)) ≡ filter q (kept b (filter p xs))
    at true is true is' before = ap (λ b. kept b (filter p (filter q xs))) is ∙ (ap (λ ys. x ∷ ys) before ∙ sym (ap (λ b. kept b (filter q (filter p xs))) is'))
    at true is false is' before = before ∙ sym (ap (λ b. kept b (filter q (filter p xs))) is')
    at false is true is' before = ap (λ b. kept b (filter p (filter q xs))) is ∙ before
    at false is false is' before = before

pub filter_all : {X : Type 0} (p : X → Bool) (xs : List X) → All (λ x. IsTrue (p x)) xs → filter p xs ≡ xs
filter_all p [] all = refl
filter_all p (x ∷ xs) all =
    ap (λ b. cond b (x ∷ filter p xs) (filter p xs)) (All-head (λ x. IsTrue (p x)) x xs all) ∙ ap (λ ys. x ∷ ys) (filter_all p xs (All-tail (λ x. IsTrue (p x)) x xs all))

pub filter_same : {X : Type 0} (P : X → Type 0) (p q : X → Bool) → ((x : X) → P x → p x ≡ q x) → (xs : List X) → All P xs → filter p xs ≡ filter q xs
filter_same P p q same [] all = refl
filter_same P p q same (x ∷ xs) all =
    ap (λ b. cond b (x ∷ filter p xs) (filter p xs)) (same x (All-head P x xs all)) ∙ ap (λ ys. cond (q x) (x ∷ ys) ys) (filter_same P p q same xs (All-tail P x xs all))

pub filter_reverse : {X : Type 0} (p : X → Bool) (xs : List X) → filter p (reverse xs) ≡ reverse (filter p xs)
filter_reverse p [] = refl
filter_reverse p (x ∷ xs) =
    ap (filter p) (reverse-append (x ∷ []) xs) ∙ (filter-append p (reverse xs) (x ∷ []) ∙ at (p x) (filter_reverse p xs))
  where
    at : (b : Bool) → filter p (reverse xs) ≡ reverse (filter p xs) → filter p (reverse xs) ++ cond b (x ∷ []) [] ≡ reverse (cond b (x ∷ filter p xs) (filter p xs))
    at true before = ap (λ ys. ys ++ x ∷ []) before ∙ sym (reverse-append (x ∷ []) (filter p xs))
    at false before = append-nil (filter p (reverse xs)) ∙ before

pub map_reverse : {X Y : Type 0} (h : X → Y) (xs : List X) → map h (reverse xs) ≡ reverse (map h xs)
map_reverse h [] = refl
map_reverse h (x ∷ xs) =
    ap (map h) (reverse-append (x ∷ []) xs)
    ∙ (map-append h (reverse xs) (x ∷ []) ∙ (ap (λ ys. ys ++ h x ∷ []) (map_reverse h xs) ∙ sym (reverse-append (h x ∷ []) (map h xs))))
