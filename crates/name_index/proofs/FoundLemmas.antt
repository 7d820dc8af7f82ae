-- A map that finds things by keys: what is read off it, and one thing more.
use Rattle.std.proofs.Common.{◌≡◌, ◌∙◌, ℕ, suc, ◌+◌, Bool, true, false, cond, List, [], ◌∷◌, ◌++◌, length, Option, Some, None, refl, ap, sym, subst, arith, inl, inr, ◌⊎◌, BTreeMap}
use Rattle.std.specs.Prelude.{option_map, unwrap_or}
use Rattle.std.specs.BTreeMap.{IsUnchanged, Updates, get, is_at}
use Rattle.std.specs.Map.{lookup}
use Rattle.std.specs.List.{position_from}
use Rattle.std.specs.Ordering.{is_eq}
use Rattle.std.specs.declared.cmp.Ordering.{Ordering}
use Rattle.spaces.specs.Sites.{numbered}
use Rattle.auth_events.specs.Tables.{number_of}
use Rattle.auth_events.proofs.Numbers.{IsFound, first_numbered, none_numbered}
use Rattle.name_index.specs.Found.{Finds, checked}

-- THE FIRST THAT PASSES, OF THINGS AND ONE MORE

position_more : {X : Type 0} (t : X → Bool) (k n : ℕ) (xs : List X) (y : X) → position_from t k xs ≡ Some n → position_from t k (xs ++ y ∷ []) ≡ Some n
position_more t k n [] y found = absurd cc
position_more t k n (x ∷ xs) y found = at (t x) found (position_more t (k + 1) n xs y)
  where
    at : (b : Bool) → cond b (Some k) (position_from t (k + 1) xs) ≡ Some n → (position_from t (k + 1) xs ≡ Some n → position_from t (k + 1) (xs ++ y ∷ []) ≡ Some n) → cond b (Some k) (position_from t (k + 1) (xs ++ y ∷ [])) ≡ Some n
    at true found' later = found'
    at false found' later = later found'

position_last : {X : Type 0} (t : X → Bool) (k : ℕ) (xs : List X) (y : X) → position_from t k xs ≡ None → position_from t k (xs ++ y ∷ []) ≡ cond (t y) (Some (k + length xs)) None
position_last t k [] y none = ap (λ n. cond (t y) (Some n) None) (omega arith)
position_last t k (x ∷ xs) y none = at (t x) none (position_last t (k + 1) xs y)
  where
    at : (b : Bool) → cond b (Some k) (position_from t (k + 1) xs) ≡ None → (position_from t (k + 1) xs ≡ None → position_from t (k + 1) (xs ++ y ∷ []) ≡ cond (t y) (Some (k + 1 + length xs)) None) → cond b (Some k) (position_from t (k + 1) (xs ++ y ∷ [])) ≡ cond (t y) (Some (k + suc (length xs))) None
    at true none' later = absurd cc
    at false none' later = later none' ∙ ap (λ n. cond (t y) (Some n) None) (omega arith)

-- a number that a thing has it keeps, and the thing at the end gets the next one where none passes before it
number_more : {X : Type 0} (t : X → Bool) (xs : List X) (y : X) (n : ℕ) → number_of t (xs ++ y ∷ []) ≡ Some n → (number_of t xs ≡ Some n) ⊎ ((t y ≡ true) × (n ≡ length xs + 1))
number_more t xs y n found = at (position_from t 0 xs) refl
  where
    last : (b : Bool) → t y ≡ b → option_map suc (cond b (Some (0 + length xs)) None) ≡ Some n → (number_of t xs ≡ Some n) ⊎ ((t y ≡ true) × (n ≡ length xs + 1))
    last true passes is = let same : suc (0 + length xs) ≡ n = cc in inr (passes, omega (arith, same))
    last false fails is = absurd cc

    at : (o : Option ℕ) → position_from t 0 xs ≡ o → (number_of t xs ≡ Some n) ⊎ ((t y ≡ true) × (n ≡ length xs + 1))
    at None none = last (t y) refl (sym (ap (option_map suc) (position_last t 0 xs y none)) ∙ found)
    at (Some k) is = inl (ap (option_map suc) (is ∙ sym (position_more t 0 k xs y is)) ∙ found)

-- what passes keeps its number
pub number_known : {X : Type 0} (t : X → Bool) (xs : List X) (y : X) (n : ℕ) → number_of t xs ≡ Some n → number_of t (xs ++ y ∷ []) ≡ Some n
number_known t xs y n found = at (position_from t 0 xs) refl
  where
    at : (o : Option ℕ) → position_from t 0 xs ≡ o → number_of t (xs ++ y ∷ []) ≡ Some n
    at None none = absurd (let both : None ≡ Some n = sym (ap (option_map suc) none) ∙ found in cc)
    at (Some k) is = ap (option_map suc) (position_more t 0 k xs y is) ∙ (sym (ap (option_map suc) is) ∙ found)

-- and where none passes, one that does at the end gets the next number
pub number_next : {X : Type 0} (t : X → Bool) (xs : List X) (y : X) → number_of t xs ≡ None → t y ≡ true → number_of t (xs ++ y ∷ []) ≡ Some (length xs + 1)
number_next t xs y none passes = at (position_from t 0 xs) refl
  where
    at : (o : Option ℕ) → position_from t 0 xs ≡ o → number_of t (xs ++ y ∷ []) ≡ Some (length xs + 1)
    at None is =
        let next : suc (0 + length xs) ≡ length xs + 1 = omega arith in
        ap (option_map suc) (position_last t 0 xs y is) ∙ (ap (λ b. option_map suc (cond b (Some (0 + length xs)) None)) passes ∙ ap Some next)
    at (Some k) is = absurd (let both : Some (suc k) ≡ None = sym (ap (option_map suc) is) ∙ none in cc)

module _ {K A X : Type 0} (cmp : K → K → Ordering) (IsKeyOf : K → A → Type 0) (test : A → X → Bool) where
  -- WHAT IS READ

  pub found_is : (map : BTreeMap K ℕ) (things : List X) (key : K) (asked : A) → Finds cmp IsKeyOf test map things → IsKeyOf key asked
      → checked (test asked) things (get cmp map key) ≡ number_of (test asked) things
  found_is map things key asked finds of_it = at (number_of (test asked) things) refl
    where
      nothing : (o : Option ℕ) → number_of (test asked) things ≡ None → checked (test asked) things o ≡ None
      nothing None none = refl
      nothing (Some n) none = of (numbered things n) refl
        where
          of : (o : Option X) → numbered things n ≡ o → cond (unwrap_or (option_map (test asked) o) false) (Some n) None ≡ None
          of None there = refl
          of (Some x) there = ap (λ b. cond {A = Option ℕ} b (Some n) None) (none_numbered (test asked) things none n x there)

      at : (o : Option ℕ) → number_of (test asked) things ≡ o → checked (test asked) things (get cmp map key) ≡ o
      at None none = nothing (get cmp map key) none
      at (Some n) found =
          let first : IsFound (test asked) things n = first_numbered (test asked) things n found in
          ap (checked (test asked) things) (finds key asked n of_it found)
          ∙ ap (λ b. cond {A = Option ℕ} b (Some n) None)
          (ap (λ o. unwrap_or (option_map (test asked) o) false) first.is_there ∙ first.passes)

  -- ONE THING MORE

  module _ (alike : (a b : K) (x y : A) → IsKeyOf a x → IsKeyOf b y → is_eq (cmp a b) ≡ true → x ≡ y) (old new : BTreeMap K ℕ) (things : List X) (key : K) (asked : A) (n : ℕ) (finds : Finds cmp IsKeyOf test old things) (unknown : number_of (test asked) things ≡ None) (of_it : IsKeyOf key asked) (updates : Updates cmp old new key (Some n)) where
    other : (k : K) (x : A) (m : ℕ) → IsKeyOf k x → number_of (test x) things ≡ Some m → is_eq (cmp key k) ≡ false
    other k x m of_x found = at (is_eq (cmp key k)) refl
      where
        at : (b : Bool) → is_eq (cmp key k) ≡ b → b ≡ false
        at true same =
            let none : number_of (test x) things ≡ None = subst (λ a. number_of (test a) things ≡ None) (alike key k asked x of_it of_x same) unknown in
            absurd (let both : Some m ≡ None = sym found ∙ none in cc)
        at false differs = refl

    -- what was known is known
    pub noted : Finds cmp IsKeyOf test new things
    noted k x m of_x found =
        updates.0 k ∙ ap (λ b. cond b (Some n) (get cmp old k)) (other k x m of_x found) ∙ finds k x m of_x found

    -- and the thing too, once it is there
    pub grown : (equal : (a b : K) (x : A) → IsKeyOf a x → IsKeyOf b x → is_eq (cmp a b) ≡ true) (thing : X) → ((x : A) → test x thing ≡ true → x ≡ asked) → n ≡ length things + 1
        → Finds cmp IsKeyOf test new (things ++ thing ∷ [])
    grown equal thing one next k x m of_x found =
        elim (number_more (test x) things thing m found) [
          | inl before ↦ noted k x m of_x before
          | inr last ↦
              let same : is_eq (cmp key k) ≡ true = equal key k asked of_it (subst (IsKeyOf k) (one x last.0) of_x) in
              updates.0 k ∙ ap (λ b. cond b (Some n) (get cmp old k)) same ∙ ap Some (next ∙ sym last.1)
        ]

  -- what has its number keeps it
  pub kept : (map : BTreeMap K ℕ) (things : List X) (asked : A) (n : ℕ) → Finds cmp IsKeyOf test map things → number_of (test asked) things ≡ Some n → (thing : X) → ((x : A) → test x thing ≡ true → x ≡ asked)
      → Finds cmp IsKeyOf test map (things ++ thing ∷ [])
  kept map things asked n finds known thing one k x m of_x found =
      elim (number_more (test x) things thing m found) [
        | inl before ↦ finds k x m of_x before
        | inr last ↦
            let its : number_of (test x) things ≡ Some n = subst (λ a. number_of (test a) things ≡ Some n) (sym (one x last.0)) known in
            finds k x n of_x its ∙ (sym (number_known (test x) things thing n its) ∙ found)
      ]

  -- a map of nothing
  pub finds_nothing : (map : BTreeMap K ℕ) → Finds cmp IsKeyOf test map []
  finds_nothing map key asked n of_it found = absurd cc

  -- a map with the same entries finds the same
  pub finds_same : (old new : BTreeMap K ℕ) (things : List X) → IsUnchanged old new → Finds cmp IsKeyOf test old things → Finds cmp IsKeyOf test new things
  finds_same old new things same finds key asked n of_it found = ap (lookup (is_at (cmp key))) same ∙ finds key asked n of_it found
