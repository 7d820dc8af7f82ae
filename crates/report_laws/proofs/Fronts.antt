-- A section takes its own lines, and stops at those of the next one.
use Rattle.std.proofs.Common.{◌≡◌, ℕ, ◌+◌, ◌<◌, ◌≤◌, ◌==◌, Bool, true, false, List, [], ◌∷◌, Option, Some, None, refl, sym, ap, ◌∙◌, arith}
use Rattle.std.specs.Prelude.{bytes_eq, nat_le, nat_lt, All, if◌then◌else◌}
use Rattle.std.proofs.lemmas.Bool.Decides.{nat_tests}
use Rattle.std.proofs.lemmas.Slice.Eq.{bytes_eq-Decides}
use Rattle.std.proofs.lemmas.List.Elements.{All-head, All-tail}
use Rattle.auth_runs.specs.Runs.{Each}
use Rattle.report_reading.specs.Words.{◌>>=◌}
use Rattle.report_reading.specs.Reading.{if_written}
use Rattle.auth_report.specs.Sections.{taken}

pub le_test : (a b : ℕ) → a ≤ b → nat_le a b ≡ true
le_test a b h = grind (arith, nat_tests)

pub lt_test : (a b : ℕ) → a < b → nat_lt a b ≡ true
lt_test a b h = grind (arith, nat_tests)

pub le_by : (a b : ℕ) → nat_le a b ≡ true → a ≤ b
le_by a b h = grind (arith, nat_tests)

pub equal_test : (a b : ℕ) → a ≡ b → (a == b) ≡ true
equal_test a b h = grind (arith, nat_tests)

pub each_of : {A : Type 0} (P : A → Type 0) (xs : List A) → All P xs → Each P xs
each_of P [] h = tt
each_of P (x ∷ xs) h = (All-head P x xs h, each_of P xs (All-tail P x xs h))

-- WHICH KIND A LINE IS OF

abbrev third : List ℕ → ℕ
third [] = 0
third (c ∷ rest) = c

-- the first byte, where a space stands behind it, else the third
abbrev pub sign : List ℕ → ℕ
sign [] = 0
sign (a ∷ []) = 0
sign (a ∷ b ∷ rest) = if b == 32 then a else third rest

-- the place of its section: default, request, space, terms, text, e, t, end
abbrev pub rank : ℕ → ℕ
rank s =
    if s == 102 then 1
    else if s == 113 then 2
    else if s == 97 then 3
    else if s == 114 then 4
    else if s == 120 then 5
    else if s == 101 then 6
    else if s == 116 then 7
    else if s == 100 then 8
    else 0

-- the first line is of this section or of one behind it
abbrev pub begins : ℕ → List (List ℕ) → Bool
begins n [] = true
begins n (line ∷ lines) = nat_le n (rank (sign line))

le_more : (a b n : ℕ) → a ≤ b → nat_le b n ≡ true → nat_le a n ≡ true
le_more a b n less h = le_test a n (omega (arith, less, le_by b n h))

pub later : (a b : ℕ) (lines : List (List ℕ)) → a ≤ b → begins b lines ≡ true → begins a lines ≡ true
later a b [] less h = refl
later a b (line ∷ lines) less h = le_more a b (rank (sign line)) less h

-- nothing is read of a line of another kind
pub other_kind : {A : Type 0} (made : Option A) (written : A → List ℕ) (line : List ℕ) (n : ℕ) → ((x : A) → rank (sign (written x)) ≡ n) → nat_le (n + 1) (rank (sign line)) ≡ true
    → (made >>= if_written written line) ≡ None
other_kind None written line n kind h = refl
other_kind (Some x) written line n kind h = by_test (bytes_eq (written x) line) refl where
  by_test : (same : Bool) → bytes_eq (written x) line ≡ same → if_written written line x ≡ None
  by_test false e = rw e refl
  by_test true e =
      let it : written x ≡ line = (bytes_eq-Decides (written x) line).0 e in
      let more : n + 1 ≤ rank (sign line) = le_by (n + 1) (rank (sign line)) h in
      let here : rank (sign line) ≡ n = sym (ap (λ (l : List ℕ). rank (sign l)) it) ∙ kind x in
      absurd (omega (arith, more, here))

-- the next line isn't taken
abbrev pub Refuses : {S : Type 0} → (S → List ℕ → Option S) → S → List (List ℕ) → Type 0
Refuses step s [] = Unit {0}
Refuses step s (line ∷ lines) = step s line ≡ None

pub taken_more : {S : Type 0} (step : S → List ℕ → Option S) (s t : S) (line : List ℕ) (lines : List (List ℕ)) → step s line ≡ Some t
    → taken step s (line ∷ lines) ≡ taken step t lines
taken_more step s t line lines h = rw h refl

pub taken_stop : {S : Type 0} (step : S → List ℕ → Option S) (s : S) (lines : List (List ℕ)) → Refuses step s lines → taken step s lines ≡ (s, lines)
taken_stop step s [] h = refl
taken_stop step s (line ∷ lines) h = rw h refl

-- what reads nothing takes nothing
pub none_taken : {A S : Type 0} (o : Option A) (f : A → Option S) → o ≡ None → (o >>= f) ≡ None
none_taken o f h = rw h refl
