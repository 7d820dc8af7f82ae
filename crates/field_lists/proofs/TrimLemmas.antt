-- A last byte, and the blanks at the end.
use Rattle.std.proofs.Common.{◌≡◌, ℕ, true, false, List, [], ◌∷◌, ◌++◌, refl, sym, ap, ◌∙◌, ◌<◌, ◌≤◌, ◌+◌, ◌-◌, length, take, get_or, arith}
use Rattle.std.proofs.lemmas.List.{take_more}
use Rattle.field_lists.specs.Blanks.{is_blank, keep_unless_blank, trim_end}

pub trim_end-push_blank : (xs : List ℕ) (b : ℕ) → is_blank b ≡ true → trim_end (xs ++ b ∷ []) ≡ trim_end xs
trim_end-push_blank [] b blank = rw blank refl
trim_end-push_blank (x ∷ xs) b blank = ap (keep_unless_blank x) (trim_end-push_blank xs b blank)

keep_nonempty : (x : ℕ) (ys : List ℕ) (b : ℕ) → keep_unless_blank x (ys ++ b ∷ []) ≡ x ∷ (ys ++ b ∷ [])
keep_nonempty x [] b = refl
keep_nonempty x (y ∷ ys) b = refl

pub trim_end-push_kept : (xs : List ℕ) (b : ℕ) → is_blank b ≡ false → trim_end (xs ++ b ∷ []) ≡ xs ++ b ∷ []
trim_end-push_kept [] b kept = rw kept refl
trim_end-push_kept (x ∷ xs) b kept = ap (keep_unless_blank x) (trim_end-push_kept xs b kept) ∙ keep_nonempty x xs b

more : (xs : List ℕ) (n : ℕ) → 0 < n → n ≤ length xs → take n xs ≡ take (n - 1) xs ++ get_or xs (n - 1) 0 ∷ []
more xs n some all =
    let back : n - 1 + 1 ≡ n = omega arith in
    ap (λ k. take k xs) (sym back) ∙ take_more xs (n - 1) 0 (omega arith)

pub trim_end-blank : (xs : List ℕ) (n : ℕ) → 0 < n → n ≤ length xs → is_blank (get_or xs (n - 1) 0) ≡ true
    → trim_end (take (n - 1) xs) ≡ trim_end (take n xs)
trim_end-blank xs n some all blank =
    sym (ap trim_end (more xs n some all) ∙ trim_end-push_blank (take (n - 1) xs) (get_or xs (n - 1) 0) blank)

pub trim_end-kept : (xs : List ℕ) (n : ℕ) → 0 < n → n ≤ length xs → is_blank (get_or xs (n - 1) 0) ≡ false
    → trim_end (take n xs) ≡ take n xs
trim_end-kept xs n some all kept =
    ap trim_end (more xs n some all) ∙ trim_end-push_kept (take (n - 1) xs) (get_or xs (n - 1) 0) kept ∙ sym (more xs n some all)
