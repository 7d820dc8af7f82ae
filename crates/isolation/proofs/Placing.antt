-- New places of one's own entries keep the order.
use Rattle.std.proofs.Common.{◌≡◌, ℕ, ◌+◌, ◌<◌, ◌≤◌, Bool, true, false, ◌&&◌, ◌||◌, List, [], ◌∷◌, length, refl, ap, ◌∙◌, arith}
use Rattle.std.specs.Prelude.{IsTrue, nat_lt, ◌==◌}
use Rattle.std.proofs.lemmas.Bool.Decides.{nat_tests}
use Rattle.std.proofs.lemmas.Bool.{false≢true}
use Rattle.auth_events.specs.declared.journal.Entry.{Entry}
use Rattle.auth_events.proofs.Numbers.{and_left, and_right}
use Rattle.auth_events.proofs.Same.{number_same}
use Rattle.history_laws.proofs.Prompting.{one_if}
use Rattle.isolation.proofs.Places.{IsPlacing}

module _ (keep : Entry → Bool) where
  -- how many entries of one's own there are before this place
  abbrev pub before : List Entry → ℕ → ℕ
  before [] k = 0
  before (entry ∷ past) k = one_if (keep entry && nat_lt (length past) k) + before past k

  -- an entry of one's own stands at the place
  abbrev pub stands : List Entry → ℕ → Bool
  stands [] k = false
  stands (entry ∷ past) k = keep entry && length past == k || stands past k

  one_more : (a b : Bool) → (IsTrue a → IsTrue b) → one_if a ≤ one_if b
  one_more true true less = omega arith
  one_more true false less = absurd (false≢true (less refl))
  one_more false b less = omega arith

  and_lt : (a : Bool) (n k l : ℕ) → k ≤ l → IsTrue (a && nat_lt n k) → IsTrue (a && nat_lt n l)
  and_lt true n k l le is = grind (arith, nat_tests)
  and_lt false n k l le is = absurd (false≢true is)

  before_more : (past : List Entry) (k l : ℕ) → k ≤ l → before past k ≤ before past l
  before_more [] k l le = omega arith
  before_more (entry ∷ past) k l le =
      let rest = before_more past k l le in
      let here = one_more (keep entry && nat_lt (length past) k) (keep entry && nat_lt (length past) l) (and_lt (keep entry) (length past) k l le) in
      omega (arith, rest, here)

  lt_less : (k l : ℕ) → k < l → nat_lt k l ≡ true
  lt_less k l lt = grind (arith, nat_tests)

  lt_not : (k l : ℕ) → l ≤ k → nat_lt k l ≡ false
  lt_not k l le = grind (arith, nat_tests)

  before_less : (past : List Entry) (k l : ℕ) → k < l → IsTrue (stands past k) → before past k < before past l
  before_less [] k l lt is = absurd (false≢true is)
  before_less (entry ∷ past) k l lt is = at (keep entry && length past == k) refl is (before_less past k l lt)
    where
      at : (b : Bool) → (keep entry && length past == k) ≡ b → IsTrue (b || stands past k) → (IsTrue (stands past k) → before past k < before past l) → before (entry ∷ past) k < before (entry ∷ past) l
      at true here is' later =
          let mine = and_left (keep entry) (length past == k) here in
          let place = number_same (length past) k (and_right (keep entry) (length past == k) here) in
          let high : one_if (keep entry && nat_lt (length past) l) ≡ 1 = ap (λ a. one_if (a && nat_lt (length past) l)) mine ∙ (ap (λ n. one_if (nat_lt n l)) place ∙ ap one_if (lt_less k l lt)) in
          let low : one_if (keep entry && nat_lt (length past) k) ≡ 0 = ap (λ a. one_if (a && nat_lt (length past) k)) mine ∙ (ap (λ n. one_if (nat_lt n k)) place ∙ ap one_if (lt_not k k (omega arith))) in
          let rest = before_more past k l (omega (arith, lt)) in
          omega (arith, high, low, rest)
      at false other is' later =
          let rest = later is' in
          let here = one_more (keep entry && nat_lt (length past) k) (keep entry && nat_lt (length past) l) (and_lt (keep entry) (length past) k l (omega (arith, lt))) in
          omega (arith, rest, here)

  -- the order of places
  pub placing : (past : List Entry) → IsPlacing (before past) (λ k. IsTrue (stands past k))
  placing past = record { order = λ k l at_k at_l. by k l (nat_lt k l) refl at_k }
    where
      by : (k l : ℕ) (b : Bool) → nat_lt k l ≡ b → IsTrue (stands past k) → nat_lt (before past k) (before past l) ≡ b
      by k l true is at_k = lt_less (before past k) (before past l) (before_less past k l (less_of k l is) at_k)
        where
          less_of : (a b : ℕ) → nat_lt a b ≡ true → a < b
          less_of a b is' = grind (arith, nat_tests)
      by k l false is at_k = lt_not (before past k) (before past l) (before_more past l k (more_of k l is))
        where
          more_of : (a b : ℕ) → nat_lt a b ≡ false → b ≤ a
          more_of a b is' = grind (arith, nat_tests)
