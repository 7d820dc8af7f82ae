use Rattle.std.proofs.Common.{◌≡◌, ℕ, zero, suc, ◌+◌, ◌-◌, ◌*◌, ◌^◌, ◌<◌, ◌≤◌, true, List, [], ◌∷◌, length, take, get_or, arith, add-one}
use Rattle.std.specs.List.{list_all}
use Rattle.std.specs.Char.{is_ascii_digit, digit_value}
use Rattle.std.specs.Str.Parse.{digits_value}
use Rattle.std.proofs.Math.Nat.{pow-suc}
use Rattle.std.proofs.lemmas.Bool.Decides.{nat_tests}
use Rattle.std.proofs.lemmas.Str.{digit_value_digit}
use Rattle.std.proofs.lemmas.Int.Digits.{digits_value_more}
use Rattle.report_reading.proofs.Tests.{both}
use Rattle.report_reading.proofs.numbers.digits_number.Goals as goal

digit_at : (w : List ℕ) (k : ℕ) → list_all is_ascii_digit w ≡ true → k < length w → is_ascii_digit (get_or w k 0) ≡ true
digit_at [] k h less = absurd (omega arith)
digit_at (b ∷ w) zero h less = (both (is_ascii_digit b) (list_all is_ascii_digit w) h).0
digit_at (b ∷ w) (suc k) h less = digit_at w k (both (is_ascii_digit b) (list_all is_ascii_digit w) h).1 (omega arith)

in_range : (c : ℕ) → is_ascii_digit c ≡ true → (48 ≤ c) × (c ≤ 57)
in_range c h = (grind (arith, nat_tests), grind (arith, nat_tests))

one_more : (n d i : ℕ) → n < 10 ^ i → d < 10 → n * 10 + d < 10 ^ (i + 1)
one_more n d i small digit = rw (add-one, pow-suc) (omega arith)

next : (w : List ℕ) (i n : ℕ) → list_all is_ascii_digit w ≡ true → i < length w → n ≡ digits_value 10 (take i w) → n < 10 ^ i
    → (n * 10 + (get_or w i 0 - 48) ≡ digits_value 10 (take (i + 1) w)) × (n * 10 + (get_or w i 0 - 48) < 10 ^ (i + 1))
next w i n digits less value small =
    let range = in_range (get_or w i 0) (digit_at w i digits less) in
    let digit : digit_value (get_or w i 0) + 48 ≡ get_or w i 0 = digit_value_digit (get_or w i 0) range in
    let more = digits_value_more 10 w i less in
    (omega (arith, digit, more, value), one_more n (get_or w i 0 - 48) i small (omega (arith, range.1)))

pub loop-b-preserved : goal.loop-b-preserved
loop-b-preserved c =
    next c.args.word.now c.loop-b.b-index c.loop-b.n c.requires.digits (omega arith) c.loop-b.invariant.0 c.loop-b.invariant.1
