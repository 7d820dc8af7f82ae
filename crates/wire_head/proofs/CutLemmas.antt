-- The pieces of a text, and its lines.
use Rattle.std.proofs.Common.{◌≡◌, ℕ, suc, ◌+◌, ◌-◌, ◌≤◌, Bool, true, false, cond, List, [], ◌∷◌, ◌++◌, take, drop, Some, None, ◌==◌, refl, sym, ap, ◌∙◌, arith, append_assoc}
use Rattle.std.specs.List.{position_from}
use Rattle.wire_head.specs.Lines.{cut_at, grow}

pub record Cut (stop : ℕ) (xs : List ℕ) (j k : ℕ) : Type 0 where
  pub least : j ≤ k
  pub parts : cut_at stop xs ≡ take (k - j) xs ∷ cut_at stop (drop (k - j + 1) xs)

cut_on : (stop : ℕ) (t : Bool) (x : ℕ) (xs : List ℕ) (j k : ℕ) → (x == stop) ≡ t
    → cond t (Some j) (position_from (λ c. c == stop) (j + 1) xs) ≡ Some k
    → (position_from (λ c. c == stop) (j + 1) xs ≡ Some k → Cut stop xs (j + 1) k) → Cut stop (x ∷ xs) j k
cut_on stop true x xs j k is found later =
    let same : j ≡ k = cc in
    let none : k - j ≡ 0 = omega arith in
    record { least = omega arith; parts = rw (is, none) refl }
cut_on stop false x xs j k is found later =
    let rest = later found in
    let least : j + 1 ≤ k = rest.least in
    let gap : k - j ≡ suc (k - (j + 1)) = omega arith in
    let next : k - j + 1 ≡ suc (k - (j + 1) + 1) = omega arith in
    record {
      least = omega arith;
      parts = ap (λ (t : Bool). grow t x (cut_at stop xs)) is ∙ ap (grow false x) rest.parts
          ∙ sym (ap (λ (n : ℕ). take n (x ∷ xs) ∷ cut_at stop (drop (k - j + 1) (x ∷ xs))) gap
          ∙ ap (λ (n : ℕ). take (suc (k - (j + 1))) (x ∷ xs) ∷ cut_at stop (drop n (x ∷ xs))) next);
    }

cut_from : (stop j k : ℕ) (xs : List ℕ) → position_from (λ c. c == stop) j xs ≡ Some k → Cut stop xs j k
cut_from stop j k [] found = cc found
cut_from stop j k (x ∷ xs) found = cut_on stop (x == stop) x xs j k refl found (cut_from stop (j + 1) k xs)

pub cut_some : (stop i : ℕ) (xs : List ℕ) → position_from (λ c. c == stop) 0 xs ≡ Some i
    → cut_at stop xs ≡ take i xs ∷ cut_at stop (drop (i + 1) xs)
cut_some stop i xs found =
    let whole : i - 0 ≡ i = omega arith in rw whole at (cut_from stop 0 i xs found).parts

none_on : (stop : ℕ) (t : Bool) (x : ℕ) (xs : List ℕ) (j : ℕ) → (x == stop) ≡ t
    → cond t (Some j) (position_from (λ c. c == stop) (j + 1) xs) ≡ None
    → (position_from (λ c. c == stop) (j + 1) xs ≡ None → cut_at stop xs ≡ xs ∷ []) → cut_at stop (x ∷ xs) ≡ (x ∷ xs) ∷ []
none_on stop true x xs j is found later = cc found
none_on stop false x xs j is found later = ap (λ (t : Bool). grow t x (cut_at stop xs)) is ∙ ap (grow false x) (later found)

pub cut_none : (stop j : ℕ) (xs : List ℕ) → position_from (λ c. c == stop) j xs ≡ None → cut_at stop xs ≡ xs ∷ []
cut_none stop j [] found = refl
cut_none stop j (x ∷ xs) found = none_on stop (x == stop) x xs j refl found (cut_none stop (j + 1) xs)

pub line_step : (i : ℕ) (xs : List ℕ) (old : List (List ℕ)) → position_from (λ c. c == 10) 0 xs ≡ Some i
    → (old ++ take i xs ∷ []) ++ cut_at 10 (drop (i + 1) xs) ≡ old ++ cut_at 10 xs
line_step i xs old found =
    append_assoc old (take i xs ∷ []) (cut_at 10 (drop (i + 1) xs))
    ∙ ap (λ (ls : List (List ℕ)). old ++ ls) (sym (cut_some 10 i xs found))
