-- Lists of numbers, by how often each number stands in them.
use Rattle.std.proofs.Common.{◌≡◌, ℕ, ◌+◌, ◌<◌, ◌≤◌, Bool, true, false, cond, List, [], ◌∷◌, length, refl, ap, ◌∙◌, arith}
use Rattle.std.specs.Prelude.{◌==◌}
use Rattle.std.proofs.lemmas.List.Sums.{sum_by-cons}
use Rattle.auth_events.proofs.Same.{number_same, number_refl}
use Rattle.history_laws.proofs.Prompting.{one_if}
use Rattle.history_laws.proofs.Rooms.{times}

pub times_cons : (s x : ℕ) (xs : List ℕ) → times s (x ∷ xs) ≡ one_if (x == s) + times s xs
times_cons s x xs = sum_by-cons (λ y. cond (y == s) 1 0) x xs

-- without the first of that number
abbrev less : ℕ → List ℕ → List ℕ
less a [] = []
less a (b ∷ bs) = cond (b == a) bs (b ∷ less a bs)

less_shorter : (a : ℕ) (bs : List ℕ) → 0 < times a bs → length bs ≡ length (less a bs) + 1
less_shorter a [] some = absurd (omega arith)
less_shorter a (b ∷ bs) some = at (b == a) refl (λ more. less_shorter a bs more)
  where
    at : (t : Bool) → (b == a) ≡ t → (0 < times a bs → length bs ≡ length (less a bs) + 1) → length (b ∷ bs) ≡ length (cond t bs (b ∷ less a bs)) + 1
    at true is before = omega arith
    at false is before = omega (arith, before (omega (arith, times_cons a b bs, ap one_if is)))

less_times : (s a : ℕ) (bs : List ℕ) → 0 < times a bs → times s bs ≡ one_if (a == s) + times s (less a bs)
less_times s a [] some = absurd (omega arith)
less_times s a (b ∷ bs) some = at (b == a) refl (λ more. less_times s a bs more)
  where
    at : (t : Bool) → (b == a) ≡ t → (0 < times a bs → times s bs ≡ one_if (a == s) + times s (less a bs)) → times s (b ∷ bs) ≡ one_if (a == s) + times s (cond t bs (b ∷ less a bs))
    at true is before = times_cons s b bs ∙ ap (λ n. one_if (n == s) + times s bs) (number_same b a is)
    at false is before =
        omega (arith, times_cons s b bs, times_cons s b (less a bs), before (omega (arith, times_cons a b bs, ap one_if is)))

-- where no number stands more often, there are no more of them
pub fewer : (cs bs : List ℕ) → ((s : ℕ) → times s cs ≤ times s bs) → length cs ≤ length bs
fewer [] bs le = omega arith
fewer (c ∷ cs) bs le =
    let some : 0 < times c bs = omega (arith, le c, times_cons c c cs, ap one_if (number_refl c)) in
    omega (arith, less_shorter c bs some, fewer cs (less c bs) (λ s. omega (arith, le s, times_cons s c cs, less_times s c bs some)))

-- where each number stands as often, there are as many
pub as_long : (cs bs : List ℕ) → ((s : ℕ) → times s cs ≡ times s bs) → length cs ≡ length bs
as_long cs bs same = omega (arith, fewer cs bs (λ s. omega (arith, same s)), fewer bs cs (λ s. omega (arith, same s)))
