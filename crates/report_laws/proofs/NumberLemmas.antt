-- Canonical numbers are read as they were.
use Rattle.std.proofs.Common.{◌≡◌, ℕ, ◌+◌, ◌^◌, ◌<◌, ◌≤◌, ◌%◌, nat_lt, nat_le, true, [], ◌∷◌, length, refl, ◌∙◌, arith}
use Rattle.std.specs.List.{list_all}
use Rattle.std.specs.Char.{is_ascii_digit}
use Rattle.std.specs.Fmt.{decimal}
use Rattle.std.specs.Str.Parse.{digits_value}
use Rattle.std.proofs.lemmas.Fmt.{decimal_is_IsNumeral, decimal_by_steps, length-decimal-le}
use Rattle.std.proofs.lemmas.Bool.Decides.{nat_tests}
use Rattle.std.proofs.lemmas.List.Folds.{list_all-append}
use Rattle.report_reading.specs.Numbers.{number_below, small, count, code}

is_digit_at : (n : ℕ) → n < 10 → is_ascii_digit (48 + n) ≡ true
is_digit_at n less = grind (arith, nat_tests)

pub digits_decimal : (n : ℕ) → n < 2 ^ 64 → list_all is_ascii_digit (decimal n) ≡ true
digits_decimal n fits = decimal_by_steps (λ n ds. list_all is_ascii_digit ds ≡ true)
    (λ n less. rw (is_digit_at n less) refl)
    (λ n ds more h. list_all-append is_ascii_digit ds ((48 + n % 10) ∷ []) ∙ rw (h, is_digit_at (n % 10) (omega arith)) refl) n fits

le_test : (a b : ℕ) → a ≤ b → nat_le a b ≡ true
le_test a b h = grind (arith, nat_tests)

lt_test : (a b : ℕ) → a < b → nat_lt a b ≡ true
lt_test a b h = grind (arith, nat_tests)

below : (bound n : ℕ) → n < bound → n < 2 ^ 64 → number_below bound (decimal n) ≡ n
below bound n less fits =
    let numeral = decimal_is_IsNumeral n fits in
    let few = le_test (length (decimal n)) 20 (length-decimal-le 20 n (omega arith) (omega (arith, fits)) fits) in
    let small = lt_test (digits_value 10 (decimal n)) bound (rw numeral.1 less) in
    rw (few, digits_decimal n fits, small) numeral.1

pub small_again : (n : ℕ) → n < 2 ^ 32 → small (decimal n) ≡ n
small_again n h = below (2 ^ 32) n h (omega (arith, h))

pub count_again : (n : ℕ) → n < 2 ^ 64 → count (decimal n) ≡ n
count_again n h = below (2 ^ 64) n h h

pub code_again : (n : ℕ) → n < 2 ^ 16 → code (decimal n) ≡ n
code_again n h = below (2 ^ 16) n h (omega (arith, h))
