-- Totals over lists that change at one place.
use Rattle.std.proofs.Common.{◌≡◌, ℕ, zero, suc, ◌+◌, ◌≤◌, ◌≢◌, List, [], ◌∷◌, length, get_or, set, sym, refl, ap, arith, max, sum, sum_by, flat_map}
use Rattle.std.proofs.lemmas.List.Sums.{sum_by-cons, sum_by-append}
use mathlib.Core.Option.{some, some-injective, some-ne-none}
use lib.ListN.{get_elem?}
use Rattle.nonce_words.specs.Rule.{raised, greater}

module _ {A : Type 0} (g : A → ℕ) where
  pub sum_by-set : (l : List A) (j : ℕ) (v w : A) → get_elem? l j ≡ some v → sum_by g (set l j w) + g v ≡ sum_by g l + g w
  sum_by-set [] j v w e = absurd (some-ne-none v (sym e))
  sum_by-set (x ∷ xs) zero v w e = omega (arith, ap g (some-injective x v e), sum_by-cons g x xs, sum_by-cons g w xs)
  sum_by-set (x ∷ xs) (suc j) v w e = omega (arith, sum_by-set xs j v w e, sum_by-cons g x xs, sum_by-cons g x (set xs j w))

  pub term_le : (l : List A) (j : ℕ) (v : A) → get_elem? l j ≡ some v → g v ≤ sum_by g l
  term_le [] j v e = absurd (some-ne-none v (sym e))
  term_le (x ∷ xs) zero v e = omega (arith, ap g (some-injective x v e), sum_by-cons g x xs)
  term_le (x ∷ xs) (suc j) v e = omega (arith, term_le xs j v e, sum_by-cons g x xs)

  pub sum_by_le : (f : A → ℕ) → ((x : A) → g x ≤ f x) → (l : List A) → sum_by g l ≤ sum_by f l
  sum_by_le f h [] = omega arith
  sum_by_le f h (x ∷ xs) = omega (arith, h x, sum_by_le f h xs, sum_by-cons g x xs, sum_by-cons f x xs)

  -- f is nothing where g is, and g is nothing anywhere
  sum_by_none : (f : A → ℕ) (l : List A) → ((j : ℕ) (v : A) → get_elem? l j ≡ some v → g v ≡ 0 → f v ≡ 0) → sum_by g l ≡ 0 → sum_by f l ≡ 0
  sum_by_none f [] h e = refl
  sum_by_none f (x ∷ xs) h e = let c = sum_by-cons g x xs in omega (arith, h 0 x refl (omega arith), sum_by_none f xs (λ j. h (suc j)) (omega arith), sum_by-cons f x xs)

  -- .. and g is at v alone
  pub sum_by_alone : (f : A → ℕ) (l : List A) (id : ℕ) (v : A) → ((j : ℕ) (u : A) → get_elem? l j ≡ some u → g u ≡ 0 → f u ≡ 0) → get_elem? l id ≡ some v → sum_by g l ≡ g v → sum_by f l ≡ f v
  sum_by_alone f [] id v h at e = absurd (some-ne-none v (sym at))
  sum_by_alone f (x ∷ xs) zero v h at e = let c = sum_by-cons g x xs in let is = some-injective x v at in let is' = ap g is in omega (arith, ap f is, sum_by_none f xs (λ j. h (suc j)) (omega arith), sum_by-cons f x xs)
  sum_by_alone f (x ∷ xs) (suc id) v h at e = let c = sum_by-cons g x xs in let part = term_le xs id v at in omega (arith, h 0 x refl (omega arith), sum_by_alone f xs id v (λ j. h (suc j)) at (omega arith), sum_by-cons f x xs)

  -- of all pieces together
  pub sum_by-flat_map : {B : Type 0} (f : B → List A) (l : List B) → sum_by g (flat_map f l) ≡ sum_by (λ v. sum_by g (f v)) l
  sum_by-flat_map f [] = refl
  sum_by-flat_map f (x ∷ xs) = omega (arith, sum_by-append g (f x) (flat_map f xs), sum_by-flat_map f xs, sum_by-cons (λ v. sum_by g (f v)) x xs)

pub sum_by-ones : {A : Type 0} (l : List A) → sum_by (λ _. 1) l ≡ length l
sum_by-ones [] = refl
sum_by-ones (x ∷ xs) = omega (arith, sum_by-ones xs, sum_by-cons (λ _. 1) x xs)

pub sum_by-plus : {A : Type 0} (f g : A → ℕ) (l : List A) → sum_by (λ x. f x + g x) l ≡ sum_by f l + sum_by g l
sum_by-plus f g [] = refl
sum_by-plus f g (x ∷ xs) = omega (arith, sum_by-plus f g xs, sum_by-cons f x xs, sum_by-cons g x xs, sum_by-cons (λ x. f x + g x) x xs)

pub sum-cons : (x : ℕ) (xs : List ℕ) → sum (x ∷ xs) ≡ x + sum xs
sum-cons x xs = sum_by-cons (λ n. n) x xs

pub get_le : (xs : List ℕ) (n : ℕ) → get_or xs n 0 ≤ sum xs
get_le [] n = omega arith
get_le (x ∷ xs) zero = omega (arith, sum-cons x xs)
get_le (x ∷ xs) (suc n) = omega (arith, get_le xs n, sum-cons x xs)

pub sum-raised : (xs : List ℕ) (n : ℕ) → sum (raised xs n) ≡ sum xs + 1
sum-raised [] zero = refl
sum-raised [] (suc n) = omega (arith, sum-raised [] n, sum-cons 0 (raised [] n))
sum-raised (x ∷ xs) zero = omega (arith, sum-cons x xs, sum-cons (x + 1) xs)
sum-raised (x ∷ xs) (suc n) = omega (arith, sum-raised xs n, sum-cons x xs, sum-cons x (raised xs n))

pub raised-here : (xs : List ℕ) (n : ℕ) → get_or (raised xs n) n 0 ≡ get_or xs n 0 + 1
raised-here [] zero = refl
raised-here [] (suc n) = raised-here [] n
raised-here (x ∷ xs) zero = refl
raised-here (x ∷ xs) (suc n) = raised-here xs n

pub raised-else : (xs : List ℕ) (n m : ℕ) → m ≢ n → get_or (raised xs n) m 0 ≡ get_or xs m 0
raised-else [] zero zero ne = absurd (ne refl)
raised-else [] zero (suc m) ne = refl
raised-else [] (suc n) zero ne = refl
raised-else [] (suc n) (suc m) ne = raised-else [] n m (λ e. ne (ap suc e))
raised-else (x ∷ xs) zero zero ne = absurd (ne refl)
raised-else (x ∷ xs) zero (suc m) ne = refl
raised-else (x ∷ xs) (suc n) zero ne = refl
raised-else (x ∷ xs) (suc n) (suc m) ne = raised-else xs n m (λ e. ne (ap suc e))

pub greater-get : (xs ys : List ℕ) (n : ℕ) → get_or (greater xs ys) n 0 ≡ max (get_or xs n 0) (get_or ys n 0)
greater-get [] ys n = grind arith
greater-get (x ∷ xs) [] n = grind arith
greater-get (x ∷ xs) (y ∷ ys) zero = refl
greater-get (x ∷ xs) (y ∷ ys) (suc n) = greater-get xs ys n
