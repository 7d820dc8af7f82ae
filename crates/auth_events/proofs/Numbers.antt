-- Numbered things: one thing more, and the first that passes a test.
use Rattle.std.proofs.Common.{◌≡◌, ℕ, zero, suc, ◌+◌, ◌-◌, ◌<◌, ◌≤◌, Bool, true, false, not, ◌&&◌, ◌||◌, cond, eqb, List, [], ◌∷◌, ◌++◌, length, refl, ap, sym, subst, ◌∙◌, inl, inr, ◌⊎◌, arith, Option, Some, None}
use Rattle.std.specs.Prelude.{IsTrue, ◌==◌, option_map, unwrap_or, is_some, slice_get, IfSome}
use Rattle.std.specs.List.{position_from}
use Rattle.std.proofs.lemmas.Bool.Decides.{nat_tests}
use Rattle.std.proofs.lemmas.Bool.{false≢true}
use Rattle.spaces.specs.Sites.{numbered}
use Rattle.auth_events.specs.Tables.{number_of, IsNumberedOnce}

pub some_of_test : {A : Type 0} (f : A → Bool) (o : Option A) → IsTrue (unwrap_or (option_map f o) false) → IsTrue (is_some o)
some_of_test f None test = absurd (false≢true test)
some_of_test f (Some x) test = refl

pub and_left : (a b : Bool) → IsTrue (a && b) → IsTrue a
and_left true b both = refl
and_left false b both = absurd (false≢true both)

pub and_right : (a b : Bool) → IsTrue (a && b) → IsTrue b
and_right true b both = both
and_right false b both = absurd (false≢true both)

pub both : (a b : Bool) → IsTrue a → IsTrue b → IsTrue (a && b)
both a b is_a is_b = cc

pub or_left : (a b : Bool) → IsTrue a → IsTrue (a || b)
or_left true b is = refl
or_left false b is = absurd (false≢true is)

pub or_right : (a b : Bool) → IsTrue b → IsTrue (a || b)
or_right true b is = refl
or_right false b is = is

pub is_not : (b : Bool) → IsTrue (not b) → b ≡ false
is_not true is = absurd (false≢true is)
is_not false is = refl

is_some_within : {A : Type 0} (xs : List A) (j : ℕ) → IsTrue (is_some (slice_get xs j)) → j < length xs
is_some_within [] j named = absurd (false≢true named)
is_some_within (x ∷ xs) zero named = omega arith
is_some_within (x ∷ xs) (suc j) named = omega (arith, is_some_within xs j named)

-- numbers count from 1
pub numbered_suc : {A : Type 0} (xs : List A) (j : ℕ) → numbered xs (suc j) ≡ slice_get xs j
numbered_suc {A} xs j =
    let positive : eqb (suc j) 0 ≡ false = grind (arith, nat_tests) in
    let back : suc j - 1 ≡ j = omega arith in
    ap (λ b. cond {A = Option A} b None (slice_get xs (suc j - 1))) positive ∙ ap (slice_get xs) back

pub numbered_in : {A : Type 0} (xs : List A) (r : ℕ) → IsTrue (is_some (numbered xs r)) → (1 ≤ r) × (r ≤ length xs)
numbered_in xs zero named = absurd (false≢true named)
numbered_in xs (suc k) named =
    let within = is_some_within xs k (subst (λ found. IsTrue (is_some found)) (numbered_suc xs k) named) in
    (omega arith, omega arith)

pub none_named : {A : Type 0} (n : ℕ) (x : A) → numbered [] n ≡ Some x → ⊥
none_named zero x at = false≢true (ap is_some at)
none_named {A} (suc k) x at = false≢true (ap is_some (sym (numbered_suc {A = A} [] k) ∙ at))

slice_get-append : {A : Type 0} (xs ys : List A) (j : ℕ) → IsTrue (is_some (slice_get xs j)) → slice_get (xs ++ ys) j ≡ slice_get xs j
slice_get-append [] ys j named = absurd (false≢true named)
slice_get-append (x ∷ xs) ys zero named = refl
slice_get-append (x ∷ xs) ys (suc j) named = slice_get-append xs ys j named

pub numbered-append : {A : Type 0} (xs ys : List A) (n : ℕ) → IsTrue (is_some (numbered xs n)) → numbered (xs ++ ys) n ≡ numbered xs n
numbered-append {A} xs ys n = at (n == 0)
  where
    at : (b : Bool) → IsTrue (is_some (cond {A = Option A} b None (slice_get xs (n - 1)))) → cond {A = Option A} b None (slice_get (xs ++ ys) (n - 1)) ≡ cond b None (slice_get xs (n - 1))
    at true named = refl
    at false named = slice_get-append xs ys (n - 1) named

slice_get-last : {A : Type 0} (xs : List A) (x : A) → slice_get (xs ++ x ∷ []) (length xs) ≡ Some x
slice_get-last [] x = refl
slice_get-last (y ∷ xs) x = slice_get-last xs x

-- the thing at the end
pub numbered-last : {A : Type 0} (xs : List A) (x : A) → numbered (xs ++ x ∷ []) (length xs + 1) ≡ Some x
numbered-last {A} xs x =
    let next : length xs + 1 ≡ suc (length xs) = omega arith in
    ap (numbered (xs ++ x ∷ [])) next ∙ (numbered_suc (xs ++ x ∷ []) (length xs) ∙ slice_get-last xs x)

slice_get-push : {A : Type 0} (xs : List A) (x y : A) (j : ℕ) → slice_get (xs ++ x ∷ []) j ≡ Some y → (slice_get xs j ≡ Some y) ⊎ ((j ≡ length xs) × (x ≡ y))
slice_get-push [] x y zero at = let same : x ≡ y = cc in inr (refl, same)
slice_get-push [] x y (suc j) at = inl at
slice_get-push (z ∷ zs) x y zero at = inl at
slice_get-push (z ∷ zs) x y (suc j) at =
    elim (slice_get-push zs x y j at) [
      | inl before ↦ inl before
      | inr last ↦ let place = last.0 in inr (omega arith, last.1)
    ]

-- a thing that is named, with one at the end: it was named before, or it is the one at the end
pub numbered-push : {A : Type 0} (xs : List A) (x y : A) (n : ℕ) → numbered (xs ++ x ∷ []) n ≡ Some y → (numbered xs n ≡ Some y) ⊎ ((n ≡ length xs + 1) × (x ≡ y))
numbered-push xs x y zero at = inl at
numbered-push xs x y (suc k) at =
    elim (slice_get-push xs x y k (sym (numbered_suc (xs ++ x ∷ []) k) ∙ at)) [
      | inl before ↦ inl (numbered_suc xs k ∙ before)
      | inr last ↦ let place = last.0 in inr (omega arith, last.1)
    ]

pub once_nil : {A : Type 0} → IsNumberedOnce {A = A} []
once_nil thing i j at_i at_j = absurd (none_named i thing at_i)

pub once-push : {A : Type 0} (xs : List A) (x : A) → IsNumberedOnce xs → ((n : ℕ) → numbered xs n ≡ Some x → ⊥) → IsNumberedOnce (xs ++ x ∷ [])
once-push xs x once fresh thing i j at_i at_j =
    elim (numbered-push xs x thing i at_i) [
      | inl old_i ↦ elim (numbered-push xs x thing j at_j) [
        | inl old_j ↦ once thing i j old_i old_j
        | inr new_j ↦ absurd (fresh i (old_i ∙ ap Some (sym new_j.1)))
      ]
      | inr new_i ↦ elim (numbered-push xs x thing j at_j) [
        | inl old_j ↦ absurd (fresh j (old_j ∙ ap Some (sym new_i.1)))
        | inr new_j ↦ new_i.0 ∙ sym new_j.0
      ]
    ]

-- the first that passes

none_passes : {A : Type 0} (t : A → Bool) (k : ℕ) (xs : List A) → position_from t k xs ≡ None → (j : ℕ) (x : A) → slice_get xs j ≡ Some x → t x ≡ false
none_passes t k [] none j x at = cc
none_passes {A} t k (y ∷ ys) none j x at = by (t y) refl none j at (none_passes t (k + 1) ys)
  where
    by : (b : Bool) → t y ≡ b → cond b (Some k) (position_from t (k + 1) ys) ≡ None → (j : ℕ) → slice_get (y ∷ ys) j ≡ Some x → (position_from t (k + 1) ys ≡ None → (i : ℕ) (z : A) → slice_get ys i ≡ Some z → t z ≡ false) → t x ≡ false
    by true is none' j at later = cc
    by false is none' zero at later = let same : y ≡ x = cc in subst (λ z. t z ≡ false) same is
    by false is none' (suc i) at later = later none' i x at

-- the place that was found, behind the first k
record IsFoundAt {A : Type 0} (t : A → Bool) (k : ℕ) (xs : List A) (place : ℕ) : Type 0 where
  thing : A
  at : ℕ
  is_place : place ≡ k + at
  is_there : slice_get xs at ≡ Some thing
  passes : t thing ≡ true

first_passes : {A : Type 0} (t : A → Bool) (k : ℕ) (xs : List A) (place : ℕ) → position_from t k xs ≡ Some place → IsFoundAt t k xs place
first_passes t k [] place found = absurd (let same : None ≡ Some place = found in cc)
first_passes t k (y ∷ ys) place found = by (t y) refl found (first_passes t (k + 1) ys place)
  where
    by : (b : Bool) → t y ≡ b → cond b (Some k) (position_from t (k + 1) ys) ≡ Some place → (position_from t (k + 1) ys ≡ Some place → IsFoundAt t (k + 1) ys place) → IsFoundAt t k (y ∷ ys) place
    by true is found' later =
        let same : k ≡ place = cc in
        record { thing = y; at = 0; is_place = omega arith; is_there = refl; passes = is }
    by false is found' later =
        let behind = later found' in
        let place_is = behind.is_place in
        record { thing = behind.thing; at = suc behind.at; is_place = omega arith; is_there = behind.is_there; passes = behind.passes }

pub none_numbered : {A : Type 0} (t : A → Bool) (xs : List A) → number_of t xs ≡ None → (n : ℕ) (x : A) → numbered xs n ≡ Some x → t x ≡ false
none_numbered t xs none zero x at = cc
none_numbered t xs none (suc k) x at = by (position_from t 0 xs) refl none
  where
    by : (o : Option ℕ) → position_from t 0 xs ≡ o → option_map suc o ≡ None → t x ≡ false
    by None is none' = none_passes t 0 xs is k x (sym (numbered_suc xs k) ∙ at)
    by (Some place) is none' = cc

-- the number that was found
pub record IsFound {A : Type 0} (t : A → Bool) (xs : List A) (number : ℕ) : Type 0 where
  pub thing : A
  pub is_there : numbered xs number ≡ Some thing
  pub passes : t thing ≡ true

pub first_numbered : {A : Type 0} (t : A → Bool) (xs : List A) (number : ℕ) → number_of t xs ≡ Some number → IsFound t xs number
first_numbered t xs number found = by (position_from t 0 xs) refl found
  where
    by : (o : Option ℕ) → position_from t 0 xs ≡ o → option_map suc o ≡ Some number → IsFound t xs number
    by None is found' = absurd (let same : None ≡ Some number = found' in cc)
    by (Some place) is found' =
        let at = first_passes t 0 xs place is in
        let next : suc place ≡ number = cc in
        let place_is = at.is_place in
        let number_is : number ≡ suc at.at = omega arith in
        record { thing = at.thing; is_there = ap (numbered xs) number_is ∙ (numbered_suc xs at.at ∙ at.is_there); passes = at.passes }

pub within_more : (place : Option ℕ) (n m : ℕ) → n ≤ m → IfSome place (λ at. at < n) → IfSome place (λ at. at < m)
within_more None n m le within = within
within_more (Some at) n m le within = let lt : at < n = within in omega arith
