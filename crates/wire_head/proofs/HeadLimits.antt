-- The lines of a head that grew by bytes without an LF.
use Rattle.std.proofs.Common.{◌≡◌, ℕ, ◌+◌, ◌≤◌, ◌==◌, ◌||◌, Bool, true, false, cond, List, [], ◌∷◌, length, take, drop, Option, Some, None, refl, sym, ◌∙◌, arith}
use Rattle.std.specs.Prelude.{nat_lt, count_by}
use Rattle.std.specs.List.{position_from}
use Rattle.std.proofs.lemmas.Bool.Decides.{nat_tests}
use Rattle.std.proofs.lemmas.List.Sums.{sum_by-cons, sum_by-take-drop}
use Rattle.wire_head.specs.Replies.{is_too_long}

feed_none : (x : Bool) (i n : ℕ) (later : Option ℕ) → cond x (Some i) later ≡ None → (later ≡ None → n ≡ 0) → cond x 1 0 + n ≡ 0
feed_none true i n later is zero = cc is
feed_none false i n later is zero = let none = zero is in omega (arith, none)

no_feeds : (i : ℕ) (xs : List ℕ) → position_from (λ b. b == 10) i xs ≡ None → count_by (λ b. b == 10) xs ≡ 0
no_feeds i [] none = refl
no_feeds i (b ∷ xs) none =
    sum_by-cons (λ c. cond (c == 10) 1 0) b xs
    ∙ feed_none (b == 10) i (count_by (λ c. c == 10) xs) (position_from (λ c. c == 10) (i + 1) xs) none (no_feeds (i + 1) xs)

or_false : (a b : Bool) → b ≡ false → a ≡ (a || b)
or_false true b is = refl
or_false false b is = sym is

few_lines : (at : ℕ) (front : List ℕ) → is_too_long at front ≡ false → count_by (λ b. b == 10) front ≤ 256
few_lines at front short = grind (arith, nat_tests)

pub same_lines : (at before : ℕ) (front : List ℕ) → is_too_long at (take before front) ≡ false → None ≡ position_from (λ b. b == 10) 0 (drop before front)
    → nat_lt 65536 (at + length front) ≡ is_too_long at front
same_lines at before front short none =
    let parts = sum_by-take-drop (λ b. cond (b == 10) 1 0) front before in
    let added = no_feeds 0 (drop before front) (sym none) in
    let few = few_lines at (take before front) short in
    let all : count_by (λ b. b == 10) front ≤ 256 = omega (arith, parts, added, few) in
    or_false (nat_lt 65536 (at + length front)) (nat_lt 256 (count_by (λ b. b == 10) front)) (grind (arith, nat_tests, all))
