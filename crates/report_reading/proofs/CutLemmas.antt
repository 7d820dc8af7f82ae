-- The first part of a cut, and the parts behind it.
use Rattle.std.proofs.Common.{◌≡◌, ℕ, zero, suc, ◌+◌, ◌<◌, Bool, true, false, List, [], ◌∷◌, length, take, drop, refl, sym, ap, ◌∙◌, arith}
use Rattle.std.specs.List.{position_or_len, slice_split}

-- the parts behind a first one of n bytes
abbrev pub parts_behind : (ℕ → Bool) → List ℕ → List (List ℕ)
parts_behind p [] = []
parts_behind p (c ∷ bytes) = slice_split p bytes

abbrev pub first_then : (ℕ → Bool) → ℕ → List ℕ → List (List ℕ)
first_then p n text = take n text ∷ parts_behind p (drop n text)

by_test : (p : ℕ → Bool) (b : ℕ) (bytes : List ℕ) (t : Bool) → p b ≡ t
    → slice_split p bytes ≡ first_then p (position_or_len p bytes) bytes
    → slice_split p (b ∷ bytes) ≡ first_then p (position_or_len p (b ∷ bytes)) (b ∷ bytes)
by_test p b bytes true e rest = rw e refl
by_test p b bytes false e rest =
    let one : 1 + position_or_len p bytes ≡ suc (position_or_len p bytes) = omega arith in
    rw (e, rest, one) refl

pub split_first : (p : ℕ → Bool) (text : List ℕ) → slice_split p text ≡ first_then p (position_or_len p text) text
split_first p [] = refl
split_first p (b ∷ bytes) = by_test p b bytes (p b) refl (split_first p bytes)

behind_more : (p : ℕ → Bool) (n : ℕ) (text : List ℕ) → n < length text
    → parts_behind p (drop n text) ≡ slice_split p (drop (n + 1) text)
behind_more p n [] less = absurd (omega arith)
behind_more p zero (b ∷ text) less = refl
behind_more p (suc n) (b ∷ text) less =
    let one : suc n + 1 ≡ suc (n + 1) = omega arith in rw one (behind_more p n text (omega arith))

-- text whose first part has n bytes
pub split_more : (p : ℕ → Bool) (n : ℕ) (text : List ℕ) → n ≡ position_or_len p text → n < length text
    → slice_split p text ≡ take n text ∷ slice_split p (drop (n + 1) text)
split_more p n text is less =
    split_first p text ∙ ap (λ k. first_then p k text) (sym is) ∙ ap (λ (more : List (List ℕ)). take n text ∷ more) (behind_more p n text less)

drop_whole : (p : ℕ → Bool) (n : ℕ) (text : List ℕ) → n ≡ length text → parts_behind p (drop n text) ≡ []
drop_whole p zero [] is = refl
drop_whole p (suc n) [] is = refl
drop_whole p zero (b ∷ text) is = absurd (omega arith)
drop_whole p (suc n) (b ∷ text) is = drop_whole p n text (omega arith)

pub split_last : (p : ℕ → Bool) (n : ℕ) (text : List ℕ) → n ≡ position_or_len p text → n ≡ length text
    → slice_split p text ≡ take n text ∷ []
split_last p n text is whole =
    split_first p text ∙ ap (λ k. first_then p k text) (sym is) ∙ ap (λ (more : List (List ℕ)). take n text ∷ more) (drop_whole p n text whole)
