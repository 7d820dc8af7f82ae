-- Totals over lists that change at one place.
use Rattle.std.proofs.Common.{◌≡◌, ℕ, zero, suc, ◌+◌, ◌<◌, ◌≤◌, ◌≢◌, ◌⊎◌, List, [], ◌∷◌, ◌++◌, length, get_or, set, sym, refl, ap, ◌∙◌, subst, inl, inr, ⊎_elim, arith, cond, eq-eqb, ne_eqb, Some}
use Rattle.std.specs.List.{All, slice_get}
use mathlib.Core.Option.{some, some-injective, some-ne-none}
use lib.ListN.{get_elem?}
use Rattle.atomic_table.proofs.Lists.{at_set, at_snoc}
use Rattle.turnstile.specs.Totals.{total, is, between, Each, EachAt}

module _ {A : Type 0} (g : A → ℕ) where
  pub total-append : (l m : List A) → total g (l ++ m) ≡ total g l + total g m
  total-append [] m = omega arith
  total-append (x ∷ xs) m = omega (arith, total-append xs m)

  pub total-set : (l : List A) (j : ℕ) (v w : A) → get_elem? l j ≡ some v → total g (set l j w) + g v ≡ total g l + g w
  total-set [] j v w e = absurd (some-ne-none v (sym e))
  total-set (x ∷ xs) zero v w e = omega (arith, ap g (some-injective x v e))
  total-set (x ∷ xs) (suc j) v w e = omega (arith, total-set xs j v w e)

  pub term_le : (l : List A) (j : ℕ) (v : A) → get_elem? l j ≡ some v → g v ≤ total g l
  term_le [] j v e = absurd (some-ne-none v (sym e))
  term_le (x ∷ xs) zero v e = omega (arith, ap g (some-injective x v e))
  term_le (x ∷ xs) (suc j) v e = omega (arith, term_le xs j v e)

  pub terms_le : (l : List A) (j k : ℕ) (v u : A) → k ≢ j → get_elem? l j ≡ some v → get_elem? l k ≡ some u → g v + g u ≤ total g l
  terms_le [] j k v u n e d = absurd (some-ne-none v (sym e))
  terms_le (x ∷ xs) zero zero v u n e d = absurd (n refl)
  terms_le (x ∷ xs) zero (suc k) v u n e d = omega (arith, ap g (some-injective x v e), term_le xs k u d)
  terms_le (x ∷ xs) (suc j) zero v u n e d = omega (arith, ap g (some-injective x u d), term_le xs j v e)
  terms_le (x ∷ xs) (suc j) (suc k) v u n e d = omega (arith, terms_le xs j k v u (λ h. n (ap suc h)) e d)

  pub total_le : (f : A → ℕ) (l : List A) → ((j : ℕ) (x : A) → get_elem? l j ≡ some x → g x ≤ f x) → total g l ≤ total f l
  total_le f [] h = omega arith
  total_le f (x ∷ xs) h = omega (arith, h 0 x refl, total_le f xs (λ j. h (suc j)))

  pub total_zero : (l : List A) → ((j : ℕ) (x : A) → get_elem? l j ≡ some x → g x ≡ 0) → total g l ≡ 0
  total_zero [] h = refl
  total_zero (x ∷ xs) h = omega (arith, h 0 x refl, total_zero xs (λ j. h (suc j)))

  -- f is nothing where g is, and g is nothing anywhere
  pub total_none : (f : A → ℕ) (l : List A) → ((j : ℕ) (v : A) → get_elem? l j ≡ some v → g v ≡ 0 → f v ≡ 0) → total g l ≡ 0 → total f l ≡ 0
  total_none f [] h e = refl
  total_none f (x ∷ xs) h e = omega (arith, h 0 x refl (omega arith), total_none f xs (λ j. h (suc j)) (omega arith))

  -- .. and g is at v alone
  pub total_alone : (f : A → ℕ) (l : List A) (id : ℕ) (v : A) → ((j : ℕ) (u : A) → get_elem? l j ≡ some u → g u ≡ 0 → f u ≡ 0) → get_elem? l id ≡ some v → total g l ≡ g v → total f l ≡ f v
  total_alone f [] id v h at e = absurd (some-ne-none v (sym at))
  total_alone f (x ∷ xs) zero v h at e = let is = some-injective x v at in omega (arith, ap f is, ap g is, total_none f xs (λ j. h (suc j)) (let is' = ap g is in omega arith))
  total_alone f (x ∷ xs) (suc id) v h at e = let part = term_le xs id v at in omega (arith, h 0 x refl (omega arith), total_alone f xs id v (λ j. h (suc j)) at (omega arith))

module _ {A : Type 0} (P : A → Type 0) where
  -- what holds at each place holds after a change that keeps it
  pub each_set : (l : List A) (id : ℕ) (w : A) → P w → ((j : ℕ) (u : A) → get_elem? l j ≡ some u → P u) → (j : ℕ) (u : A) → get_elem? (set l id w) j ≡ some u → P u
  each_set l id w p h j u e = ⊎_elim (λ t. subst P t.1 p) (λ t. h j u t.1) (at_set l id j w u e)

  pub each_snoc : (l : List A) (w : A) → P w → ((j : ℕ) (u : A) → get_elem? l j ≡ some u → P u) → (j : ℕ) (u : A) → get_elem? (l ++ w ∷ []) j ≡ some u → P u
  each_snoc l w p h j u e = ⊎_elim (λ (x : get_elem? l j ≡ some u). h j u x) (λ (x : w ≡ u). subst P x p) (at_snoc l w u j e)

pub is_here : (n : ℕ) → is n n ≡ 1
is_here n = ap (λ b. cond b 1 0) (eq-eqb n n refl)

pub is_else : (n m : ℕ) → m ≢ n → is n m ≡ 0
is_else n m ne = ap (λ b. cond b 1 0) (ne_eqb m n ne)

pub between_in : (n a b : ℕ) → 0 < between n a b → (a ≤ n) × (n < b)
between_in n a b h = grind arith

pub between_le : (n a b : ℕ) → between n a b ≤ 1
between_le n a b = grind arith

pub between_next : (n a b : ℕ) → a ≤ b → between n a (b + 1) ≡ between n a b + is n b
between_next n a b h = grind arith

pub between_served : (n a b : ℕ) → a < b → between n a b ≡ is n a + between n (a + 1) b
between_served n a b h = grind arith

pub between_none : (n : ℕ) → between n 0 0 ≡ 0
between_none n = grind arith

at_end : {A : Type 0} (l : List A) (w u : A) (j : ℕ) → get_elem? (l ++ w ∷ []) j ≡ some u → (get_elem? l j ≡ some u) ⊎ ((j ≡ length l) × (w ≡ u))
at_end [] w u zero e = inr (refl, some-injective w u e)
at_end [] w u (suc j) e = absurd (some-ne-none u (sym e))
at_end (x ∷ xs) w u zero e = inl e
at_end (x ∷ xs) w u (suc j) e = ⊎_elim (λ t. inl t) (λ t. inr (ap suc t.0, t.1)) (at_end xs w u j e)

-- what holds at each place holds with one more at the end
pub at_each_snoc : {A : Type 0} (P : ℕ → A → Type 0) (l : List A) (n : ℕ) (w : A) → length l ≡ n → P n w → EachAt P l → EachAt P (l ++ w ∷ [])
at_each_snoc P l n w len p h j u e = ⊎_elim (λ (t : get_elem? l j ≡ some u). h j u t) (λ (t : (j ≡ length l) × (w ≡ u)). subst (P j) t.1 (subst (λ m. P m w) (sym (t.0 ∙ len)) p)) (at_end l w u j e)

pub within : {A : Type 0} (l : List A) (j : ℕ) (u : A) → get_elem? l j ≡ some u → j < length l
within [] j u e = absurd (some-ne-none u (sym e))
within (x ∷ xs) zero u e = omega arith
within (x ∷ xs) (suc j) u e = omega (arith, within xs j u e)

at_place : {A : Type 0} (l : List A) (j : ℕ) (u : A) → get_elem? l j ≡ some u → get_or l j u ≡ u
at_place [] j u e = refl
at_place (x ∷ xs) zero u e = some-injective x u e
at_place (x ∷ xs) (suc j) u e = at_place xs j u e

at_or : {A : Type 0} (l : List A) (j : ℕ) (d : A) → j < length l → get_elem? l j ≡ some (get_or l j d)
at_or [] j d lt = absurd (omega arith)
at_or (x ∷ xs) zero d lt = refl
at_or (x ∷ xs) (suc j) d lt = at_or xs j d (omega arith)

-- the two ways to say that P holds of each element
pub each_of_all : {A : Type 0} (P : A → Type 0) (l : List A) → All P l → Each P l
each_of_all P l h j u e = subst P (at_place l j u e) (h j u (within l j u e))

pub all_of_each : {A : Type 0} (P : A → Type 0) (l : List A) → Each P l → All P l
all_of_each P l h j d lt = h j (get_or l j d) (at_or l j d lt)

-- the two ways to look an element up
pub at_get : {A : Type 0} (l : List A) (j : ℕ) (u : A) → slice_get l j ≡ Some u → get_elem? l j ≡ some u
at_get [] j u e = absurd (cc e)
at_get (x ∷ xs) zero u e = ap some (cc e)
at_get (x ∷ xs) (suc j) u e = at_get xs j u e
