-- Numbers of many digits.
use Rattle.std.proofs.Common.{◌≡◌, ℕ, ◌+◌, ◌*◌, ◌<◌, ◌≤◌, List, [], ◌∷◌, ◌++◌, take, drop, refl, sym, ap, ◌∙◌, arith}
use Rattle.std.specs.Char.{digit_value}
use Rattle.std.specs.Str.Parse.{digits_value, digits_value_after}
use Rattle.std.proofs.lemmas.List.{take-append-drop}

digits_split : (radix n : ℕ) (xs ys : List ℕ)
    → digits_value_after radix n (xs ++ ys) ≡ digits_value_after radix (digits_value_after radix n xs) ys
digits_split radix n [] ys = refl
digits_split radix n (x ∷ xs) ys = digits_split radix (n * radix + digit_value x) xs ys

grows : (n : ℕ) (ds : List ℕ) → n ≤ digits_value_after 10 n ds
grows n [] = omega arith
grows n (d ∷ ds) = omega (arith, grows (n * 10 + digit_value d) ds)

pub over : (limit i : ℕ) (ds : List ℕ) → limit < digits_value 10 (take i ds) → limit < digits_value 10 ds
over limit i ds above =
    let whole = sym (digits_split 10 0 (take i ds) (drop i ds)) ∙ ap (digits_value 10) (take-append-drop i ds) in
    omega (arith, grows (digits_value 10 (take i ds)) (drop i ds), whole)
