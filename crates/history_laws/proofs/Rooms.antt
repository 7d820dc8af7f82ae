-- At most 32 spaces of a partition are live, and each live space stands once in the list of them.
use Rattle.std.proofs.Common.{◌≡◌, ◌≢◌, ℕ, ◌+◌, ◌<◌, ◌≤◌, Bool, true, false, not, ◌&&◌, ◌||◌, cond, List, [], ◌∷◌, length, refl, ap, sym, subst, ◌∙◌, ◌⊎◌, inl, inr, arith, Option, Some, None}
use Rattle.std.specs.Prelude.{IsTrue, is_some, filter, count_by, option_map, unwrap_or, ◌==◌, nat_lt, nat_le, bytes_eq}
use Rattle.std.specs.List.{sum_by, cons_option}
use Rattle.std.proofs.lemmas.Bool.Decides.{nat_tests}
use Rattle.std.proofs.lemmas.Bool.{false≢true}
use Rattle.std.proofs.lemmas.List.Sums.{length-filter, sum_by-cons, sum_by-le-sum_by}
use Rattle.spaces.specs.declared.roster.Roster.{Roster}
use Rattle.spaces.specs.ProtectionSpaces.{ProtectionSpace}
use Rattle.auth_events.specs.declared.journal.Entry.{Entry}
use Rattle.auth_events.specs.Tables.{Tables}
use Rattle.auth_events.specs.Past.{current, live, live_spaces, spaces_given, givings, gives, takes_away, gift_given, evicted_by, first_space, is_of, victim, evicted, greatest_by, greater_by, age, live_rivals}
use Rattle.auth_events.specs.Book.{IsLegalPast, is_of_partition, is_rival, next_gift, space_named}
use Rattle.history_laws.specs.Laws.{AreFewLive, is_site_named}
use Rattle.auth_events.proofs.Numbers.{and_left, both, or_right}
use Rattle.auth_events.proofs.Same.{bytes_same, number_same, number_refl}
use Rattle.history_laws.proofs.Holding.{current_taken, current_kept}
use Rattle.history_laws.proofs.Prompting.{one_if}
use Rattle.history_laws.proofs.Leaving.{and_false, GivesNext, GivesNone, gives_next}
use Rattle.history_laws.proofs.Homes.{asked_site, not_zero}

-- how often a number stands in the list
abbrev pub times : ℕ → List ℕ → ℕ
times s xs = count_by (λ x. x == s) xs

-- A SPACE IS GIVEN FOR THE FIRST TIME ONCE

-- a number that is added, where the test holds
abbrev with_first : Bool → ℕ → List ℕ → List ℕ
with_first b u xs = cons_option (cond b (Some u) None) xs

count_with_first : (p : ℕ → Bool) (b : Bool) (u : ℕ) (xs : List ℕ) → count_by p (with_first b u xs) ≡ one_if (b && p u) + count_by p xs
count_with_first p true u xs = sum_by-cons (λ x. cond (p x) 1 0) u xs
count_with_first p false u xs = omega arith

-- the spaces given, by one entry more
given_none : (entry : Entry) (past : List Entry) → gift_given entry.reply ≡ None → spaces_given (entry ∷ past) ≡ spaces_given past
given_none entry past none = ap (λ gift. cons_option (first_space gift) (spaces_given past)) none

given_next : (entry : Entry) (past : List Entry) (u : ℕ) → gift_given entry.reply ≡ Some (next_gift past u) → spaces_given (entry ∷ past) ≡ with_first (givings past u + 1 == 1) u (spaces_given past)
given_next entry past u next = ap (λ gift. cons_option (first_space gift) (spaces_given past)) next

pub giving_counted : (entry : Entry) (past : List Entry) (s : ℕ) → givings (entry ∷ past) s ≡ one_if (gives entry s) + givings past s
giving_counted entry past s = sum_by-cons (λ e. cond (gives e s) 1 0) entry past

-- once where it was ever given
abbrev pub once_if : ℕ → ℕ
once_if n = cond (n == 0) 0 1

next_once : (n : ℕ) → one_if ((n + 1 == 1) && true) + once_if n ≡ once_if (1 + n)
next_once n = grind (arith, nat_tests)

other_once : (b : Bool) (n : ℕ) → one_if (b && false) + once_if n ≡ once_if (0 + n)
other_once true n = grind (arith, nat_tests)
other_once false n = grind (arith, nat_tests)

module _ (roster : Roster) (names : Tables) where
  pub given_once : (past : List Entry) → IsLegalPast roster names past → (s : ℕ) → times s (spaces_given past) ≡ once_if (givings past s)
  given_once [] legal s = refl
  given_once (entry ∷ past) legal s = at (gives_next roster names past entry legal.1) (given_once past legal.0 s)
    where
      at : GivesNone entry.reply ⊎ GivesNext names past entry.call entry.reply → times s (spaces_given past) ≡ once_if (givings past s) → times s (spaces_given (entry ∷ past)) ≡ once_if (givings (entry ∷ past) s)
      at (inl none) before =
          ap (times s) (given_none entry past none.0) ∙ before
          ∙ ap once_if (sym (giving_counted entry past s ∙ ap (λ gift. one_if (is_of gift s) + givings past s) none.0 ∙ omega arith))
      at (inr next) before =
          ap (times s) (given_next entry past next.space next.gift)
          ∙ count_with_first (λ x. x == s) (givings past next.space + 1 == 1) next.space (spaces_given past)
          ∙ ap (λ n. one_if ((givings past next.space + 1 == 1) && (next.space == s)) + n) before
          ∙ of (next.space == s) refl
          ∙ ap once_if (sym (giving_counted entry past s ∙ ap (λ gift. one_if (is_of gift s) + givings past s) next.gift))
        where
          of : (b : Bool) → (next.space == s) ≡ b → one_if ((givings past next.space + 1 == 1) && b) + once_if (givings past s) ≡ once_if (one_if b + givings past s)
          of true same = subst (λ u. one_if ((givings past u + 1 == 1) && true) + once_if (givings past s) ≡ once_if (1 + givings past s)) (sym (number_same next.space s same)) (next_once (givings past s))
          of false other = other_once (givings past next.space + 1 == 1) (givings past s)

-- LIVE SPACES ARE FEW

one_le : (b : Bool) → one_if b ≤ 1
one_le true = omega arith
one_le false = omega arith

-- a live space was given
pub live_given : (past : List Entry) (s : ℕ) → IsTrue (live past s) → 0 < givings past s
live_given [] s lives = absurd (false≢true lives)
live_given (entry ∷ past) s lives = at (takes_away entry s) (gives entry s) refl lives (λ before. live_given past s before)
  where
    at : (a b : Bool) → gives entry s ≡ b → IsTrue (is_some (cond a None (cond b (gift_given entry.reply) (current past s)))) → (IsTrue (live past s) → 0 < givings past s) → 0 < givings (entry ∷ past) s
    at true b is some before = absurd (false≢true some)
    at false true is some before = omega (arith, giving_counted entry past s, ap one_if is)
    at false false is some before = omega (arith, giving_counted entry past s, before some)

-- what an entry doesn't give isn't live through it
live_no_more : (entry : Entry) (past : List Entry) (x : ℕ) → gives entry x ≡ false → one_if (live (entry ∷ past) x) ≤ one_if (live past x)
live_no_more entry past x none = at (takes_away entry x) refl
  where
    at : (b : Bool) → takes_away entry x ≡ b → one_if (live (entry ∷ past) x) ≤ one_if (live past x)
    at true taken = omega (arith, ap (λ held. one_if (is_some held)) (current_taken entry past x taken))
    at false kept = omega (arith, ap (λ held. one_if (is_some held)) (current_kept entry past x kept none))

-- what passes two tests, one after the other
filter_both : (p q : ℕ → Bool) (xs : List ℕ) → filter q (filter p xs) ≡ filter (λ x. p x && q x) xs
filter_both p q [] = refl
filter_both p q (x ∷ xs) = at (p x) refl (filter_both p q xs)
  where
    at : (b : Bool) → p x ≡ b → filter q (filter p xs) ≡ filter (λ x. p x && q x) xs → filter q (cond b (x ∷ filter p xs) (filter p xs)) ≡ filter (λ x. p x && q x) (x ∷ xs)
    at true is before = ap (λ ys. cond (q x) (x ∷ ys) ys) before ∙ ap (λ b. cond (b && q x) (x ∷ filter (λ x. p x && q x) xs) (filter (λ x. p x && q x) xs)) (sym is)
    at false is before = before ∙ ap (λ b. cond (b && q x) (x ∷ filter (λ x. p x && q x) xs) (filter (λ x. p x && q x) xs)) (sym is)

-- the greatest of some numbers is one of them
pub greatest_passes : (f : ℕ → ℕ) (p : ℕ → Bool) (xs : List ℕ) → 0 < length (filter p xs) → IsTrue (p (greatest_by f (filter p xs)))
greatest_passes f p [] some = absurd (omega arith)
greatest_passes f p (x ∷ xs) some = at (p x) refl some (λ more. greatest_passes f p xs more)
  where
    rest : List ℕ
    rest = filter p xs

    best : ℕ
    best = greatest_by f (filter p xs)

    none_left : (ys : List ℕ) → length ys ≤ 0 → greatest_by f ys ≡ 0
    none_left [] empty = refl
    none_left (y ∷ ys) empty = absurd (omega arith)

    chosen : (b : Bool) → IsTrue (p x) → IsTrue (p best) → IsTrue (p (cond b x best))
    chosen true this other = this
    chosen false this other = other

    at : (b : Bool) → p x ≡ b → 0 < length (cond b (x ∷ rest) rest) → (0 < length rest → IsTrue (p best)) → IsTrue (p (greatest_by f (cond b (x ∷ rest) rest)))
    at false is some' before = before some'
    at true is some' before = of (nat_lt 0 (length rest)) refl
      where
        of : (b : Bool) → nat_lt 0 (length rest) ≡ b → IsTrue (p (greater_by f x best))
        of true more = chosen (best == 0 || nat_lt (f best) (f x)) is (before (grind (arith, nat_tests)))
        of false none =
            let empty : length rest ≤ 0 = grind (arith, nat_tests) in
            subst (λ n. IsTrue (p (greater_by f x n))) (sym (none_left rest empty)) is

sum_both : (f g : ℕ → ℕ) (xs : List ℕ) → sum_by (λ x. f x + g x) xs ≡ sum_by f xs + sum_by g xs
sum_both f g [] = refl
sum_both f g (x ∷ xs) = omega (arith, sum_by-cons (λ y. f y + g y) x xs, sum_by-cons f x xs, sum_by-cons g x xs, sum_both f g xs)

is_nonzero : (v : ℕ) → v ≢ 0 → IsTrue (not (v == 0))
is_nonzero v some = grind (arith, nat_tests)

skipped : (s x : ℕ) (xs : List ℕ) → (x == s) ≡ false → times s (x ∷ xs) ≡ times s xs
skipped s x xs other = omega (arith, sum_by-cons (λ y. cond (y == s) 1 0) x xs, ap one_if other)

-- how often a number stands among those that pass a test
pub times_filtered : (p : ℕ → Bool) (s : ℕ) (xs : List ℕ) → times s (filter p xs) ≡ cond (p s) (times s xs) 0
times_filtered p s [] = at (p s)
  where
    at : (b : Bool) → ◌≡◌ {A = ℕ} 0 (cond b 0 0)
    at true = refl
    at false = refl
times_filtered p s (x ∷ xs) = at (p x) refl (x == s) refl (times_filtered p s xs)
  where
    at : (b : Bool) → p x ≡ b → (e : Bool) → (x == s) ≡ e → times s (filter p xs) ≡ cond (p s) (times s xs) 0 → times s (cond b (x ∷ filter p xs) (filter p xs)) ≡ cond (p s) (times s (x ∷ xs)) 0
    at true is true same before =
        let passes : IsTrue (p s) = subst (λ n. IsTrue (p n)) (number_same x s same) is in
        sum_by-cons (λ y. cond (y == s) 1 0) x (filter p xs) ∙ ap (λ n. one_if (x == s) + n) (before ∙ ap (λ b. cond b (times s xs) 0) passes)
        ∙ sym (ap (λ b. cond b (times s (x ∷ xs)) 0) passes ∙ sum_by-cons (λ y. cond (y == s) 1 0) x xs)
    at true is false other before =
        skipped s x (filter p xs) other ∙ before ∙ ap (λ n. cond (p s) n 0) (sym (skipped s x xs other))
    at false is true same before =
        let fails : p s ≡ false = subst (λ n. p n ≡ false) (number_same x s same) is in
        before ∙ ap (λ b. cond b (times s xs) 0) fails ∙ sym (ap (λ b. cond b (times s (x ∷ xs)) 0) fails)
    at false is false other before = before ∙ ap (λ n. cond (p s) n 0) (sym (skipped s x xs other))

once_le : (n : ℕ) → once_if n ≤ 1
once_le n = grind (arith, nat_tests)

once_of_some : (n : ℕ) → 0 < n → once_if n ≡ 1
once_of_some n some = grind (arith, nat_tests)

less_live : (a b m : Bool) → one_if a ≤ one_if b → one_if (a && m) ≤ one_if (b && m)
less_live true true m le = omega arith
less_live true false m le = absurd (omega arith)
less_live false b m le = omega arith

-- of the spaces that pass a test, a partition's
module _ (mine : ℕ → Bool) where
  -- the space is live, and one of these
  abbrev lives : List Entry → ℕ → Bool
  lives past x = live past x && mine x

  abbrev AreFewOf : List Entry → Type 0
  AreFewOf past = count_by (lives past) (spaces_given past) ≤ 32

  lives_no_more : (entry : Entry) (past : List Entry) (x : ℕ) → gives entry x ≡ false → one_if (lives (entry ∷ past) x) ≤ one_if (lives past x)
  lives_no_more entry past x none = less_live (live (entry ∷ past) x) (live past x) (mine x) (live_no_more entry past x none)

  rivals_counted : (past : List Entry) → length (live_rivals mine past) ≡ count_by (lives past) (spaces_given past)
  rivals_counted past = ap length (filter_both (live past) mine (spaces_given past)) ∙ length-filter (lives past) (spaces_given past)

  few_by_none : (entry : Entry) (past : List Entry) → GivesNone entry.reply → AreFewOf past → AreFewOf (entry ∷ past)
  few_by_none entry past none before =
      let same = ap (count_by (lives (entry ∷ past))) (given_none entry past none.0) in
      let less = sum_by-le-sum_by (λ x. one_if (lives (entry ∷ past) x)) (λ x. one_if (lives past x)) (spaces_given past) (λ x. lives_no_more entry past x (ap (λ gift. is_of gift x) none.0)) in
      omega (arith, same, less, before)

  -- a giving
  module _ (names : Tables) (entry : Entry) (past : List Entry) (next : GivesNext names past entry.call entry.reply) (once : (s : ℕ) → times s (spaces_given (entry ∷ past)) ≡ once_if (givings (entry ∷ past) s)) (unused : givings past 0 ≡ 0) (before : AreFewOf past) where
    abbrev u : ℕ
    u = next.space

    gives_that : (x : ℕ) → gives entry x ≡ (u == x)
    gives_that x = ap (λ gift. is_of gift x) next.gift

    grown : (p : ℕ → Bool) → count_by p (spaces_given (entry ∷ past)) ≡ one_if ((givings past u + 1 == 1) && p u) + count_by p (spaces_given past)
    grown p = ap (count_by p) (given_next entry past u next.gift) ∙ count_with_first p (givings past u + 1 == 1) u (spaces_given past)

    -- of another partition
    given_elsewhere : mine u ≡ false → AreFewOf (entry ∷ past)
    given_elsewhere other =
        let none : lives (entry ∷ past) u ≡ false = ap (λ m. live (entry ∷ past) u && m) other ∙ and_false (live (entry ∷ past) u) in
        let first = ap (λ l. one_if ((givings past u + 1 == 1) && l)) none ∙ ap one_if (and_false (givings past u + 1 == 1)) in
        let less = sum_by-le-sum_by (λ x. one_if (lives (entry ∷ past) x)) (λ x. one_if (lives past x)) (spaces_given past) (λ x. of x (u == x) refl) in
        omega (arith, grown (lives (entry ∷ past)), first, less, before)
      where
        of : (x : ℕ) (b : Bool) → (u == x) ≡ b → one_if (lives (entry ∷ past) x) ≤ one_if (lives past x)
        of x true same =
            let apart : mine x ≡ false = subst (λ n. mine n ≡ false) (number_same u x same) other in
            omega (arith, ap (λ m. one_if (live (entry ∷ past) x && m)) apart ∙ ap one_if (and_false (live (entry ∷ past) x)))
        of x false none = lives_no_more entry past x (gives_that x ∙ none)

    live_again : IsTrue (lives past u) → AreFewOf (entry ∷ past)
    live_again held =
        let again : (givings past u + 1 == 1) ≡ false = grind (arith, nat_tests, live_given past u (and_left (live past u) (mine u) held)) in
        let less = sum_by-le-sum_by (λ x. one_if (lives (entry ∷ past) x)) (λ x. one_if (lives past x)) (spaces_given past) (λ x. of x (u == x) refl) in
        omega (arith, grown (lives (entry ∷ past)), ap (λ b. one_if (b && lives (entry ∷ past) u)) again, less, before)
      where
        of : (x : ℕ) (b : Bool) → (u == x) ≡ b → one_if (lives (entry ∷ past) x) ≤ one_if (lives past x)
        of x true same = omega (arith, one_le (lives (entry ∷ past) x), ap one_if (subst (λ n. IsTrue (lives past n)) (number_same u x same) held))
        of x false other = lives_no_more entry past x (gives_that x ∙ other)

    -- what was live, with the space that is given
    live_or_given : (x : ℕ) → one_if (lives (entry ∷ past) x) ≤ one_if (lives past x) + one_if (x == u)
    live_or_given x = of (u == x) refl
      where
        of : (b : Bool) → (u == x) ≡ b → one_if (lives (entry ∷ past) x) ≤ one_if (lives past x) + one_if (x == u)
        of true same = omega (arith, one_le (lives (entry ∷ past) x), ap one_if (subst (λ n. IsTrue (n == u)) (number_same u x same) (number_refl u)))
        of false other = omega (arith, lives_no_more entry past x (gives_that x ∙ other))

    module _ (evicts : evicted_by entry.reply ≡ evicted mine past u) (dead : live past u ≡ false) where
      count_before : count_by (lives past) (spaces_given (entry ∷ past)) ≡ count_by (lives past) (spaces_given past)
      count_before =
          omega (arith, grown (lives past), ap (λ l. one_if ((givings past u + 1 == 1) && (l && mine u))) dead ∙ ap one_if (and_false (givings past u + 1 == 1)))

      once_given : times u (spaces_given (entry ∷ past)) ≤ 1
      once_given = omega (arith, once u, once_le (givings (entry ∷ past) u))

      with_room_left : nat_le 32 (length (live_rivals mine past)) ≡ false → AreFewOf (entry ∷ past)
      with_room_left room =
          let short : length (live_rivals mine past) < 32 = grind (arith, nat_tests) in
          let less = sum_by-le-sum_by (λ x. one_if (lives (entry ∷ past) x)) (λ x. one_if (lives past x) + one_if (x == u)) (spaces_given (entry ∷ past)) live_or_given in
          omega (arith, less, sum_both (λ x. one_if (lives past x)) (λ x. one_if (x == u)) (spaces_given (entry ∷ past)), count_before, once_given, short, rivals_counted past)

      module _ (full : nat_le 32 (length (live_rivals mine past)) ≡ true) where
        evicts_it : evicted_by entry.reply ≡ victim mine past
        evicts_it =
            evicts
            ∙ ap (λ l. cond (not l && nat_le 32 (length (live_rivals mine past))) (victim mine past) 0) dead
            ∙ ap (λ b. cond b (victim mine past) 0) full

        many : 32 ≤ length (live_rivals mine past)
        many = grind (arith, nat_tests)

        victim_held : IsTrue (lives past (victim mine past))
        victim_held =
            subst (λ xs. IsTrue (lives past (greatest_by (age past) xs))) (sym (filter_both (live past) mine (spaces_given past)))
            (greatest_passes (age past) (lives past) (spaces_given past) (omega (arith, many, ap length (filter_both (live past) mine (spaces_given past)))))

        victim_lives : IsTrue (live past (victim mine past))
        victim_lives = and_left (live past (victim mine past)) (mine (victim mine past)) victim_held

        victim_some : victim mine past ≢ 0
        victim_some = λ same. absurd (omega (arith, subst (λ n. 0 < givings past n) same (live_given past (victim mine past) victim_lives), unused))

        victim_taken : IsTrue (takes_away entry (victim mine past))
        victim_taken =
            or_right _ _
            (both (not (victim mine past == 0)) (evicted_by entry.reply == victim mine past) (is_nonzero (victim mine past) victim_some)
            (subst (λ n. IsTrue (n == victim mine past)) (sym evicts_it) (number_refl (victim mine past))))

        victim_goes : lives (entry ∷ past) (victim mine past) ≡ false
        victim_goes = ap (λ held. is_some held && mine (victim mine past)) (current_taken entry past (victim mine past) victim_taken)

        one_for_one : (x : ℕ) → one_if (lives (entry ∷ past) x) + one_if (x == victim mine past) ≤ one_if (lives past x) + one_if (x == u)
        one_for_one x = of (x == victim mine past) refl
          where
            of : (b : Bool) → (x == victim mine past) ≡ b → one_if (lives (entry ∷ past) x) + one_if b ≤ one_if (lives past x) + one_if (x == u)
            of true same =
                let is = sym (number_same x (victim mine past) same) in
                omega (arith, ap one_if (subst (λ n. lives (entry ∷ past) n ≡ false) is victim_goes), ap one_if (subst (λ n. IsTrue (lives past n)) is victim_held))
            of false other = omega (arith, live_or_given x)

        victim_once : times (victim mine past) (spaces_given (entry ∷ past)) ≡ 1
        victim_once =
            once (victim mine past)
            ∙ once_of_some (givings (entry ∷ past) (victim mine past)) (omega (arith, giving_counted entry past (victim mine past), live_given past (victim mine past) victim_lives))

        with_victim : AreFewOf (entry ∷ past)
        with_victim =
            let less = sum_by-le-sum_by (λ x. one_if (lives (entry ∷ past) x) + one_if (x == victim mine past)) (λ x. one_if (lives past x) + one_if (x == u)) (spaces_given (entry ∷ past)) one_for_one in
            omega (arith, less, sum_both (λ x. one_if (lives (entry ∷ past) x)) (λ x. one_if (x == victim mine past)) (spaces_given (entry ∷ past)), sum_both (λ x. one_if (lives past x)) (λ x. one_if (x == u)) (spaces_given (entry ∷ past)), count_before, once_given, victim_once, before)

      given_anew : AreFewOf (entry ∷ past)
      given_anew = of (nat_le 32 (length (live_rivals mine past))) refl
        where
          of : (b : Bool) → nat_le 32 (length (live_rivals mine past)) ≡ b → AreFewOf (entry ∷ past)
          of true full = with_victim full
          of false room = with_room_left room

    -- of this one
    given_here : IsTrue (mine u) → evicted_by entry.reply ≡ evicted mine past u → AreFewOf (entry ∷ past)
    given_here own evicts = of (live past u) refl
      where
        of : (b : Bool) → live past u ≡ b → AreFewOf (entry ∷ past)
        of true held = live_again (both (live past u) (mine u) held own)
        of false dead = given_anew evicts dead

-- who competes with a space of the partition: the partition's
pub rivals_of : (names : Tables) (partition : List ℕ) (s : ℕ) → IsTrue (is_of_partition names partition s) → is_rival names s ≡ is_of_partition names partition
rivals_of names partition s own = of (space_named names s) own
  where
    of : (o : Option ProtectionSpace) → IsTrue (unwrap_or (option_map (λ (space : ProtectionSpace). bytes_eq space.site.partition partition) o) false) → ◌≡◌ {A = ℕ → Bool} (λ other. unwrap_or (option_map (λ (space : ProtectionSpace). is_of_partition names space.site.partition other) o) false) (is_of_partition names partition)
    of None own' = absurd (false≢true own')
    of (Some space) own' = ap (is_of_partition names) (bytes_same space.site.partition partition own')

module _ (roster : Roster) (names : Tables) where
  -- no gift is of the number 0
  pub zero_unused : (past : List Entry) → IsLegalPast roster names past → givings past 0 ≡ 0
  zero_unused [] legal = refl
  zero_unused (entry ∷ past) legal = at (gives_next roster names past entry legal.1) (zero_unused past legal.0)
    where
      at : GivesNone entry.reply ⊎ GivesNext names past entry.call entry.reply → givings past 0 ≡ 0 → givings (entry ∷ past) 0 ≡ 0
      at (inl none) before = omega (arith, giving_counted entry past 0, ap (λ gift. one_if (is_of gift 0)) none.0, before)
      at (inr next) before =
          let named = not_zero roster names entry.request next.space (subst (λ s. IsTrue (is_site_named roster names entry.request s)) (sym next.asked) (asked_site roster names past legal.0 entry legal.1 next.asks)) in
          let other : (next.space == 0) ≡ false = grind (arith, nat_tests, named) in
          omega (arith, giving_counted entry past 0, ap (λ gift. one_if (is_of gift 0)) next.gift ∙ ap one_if other, before)

  few_live : (partition : List ℕ) (past : List Entry) → IsLegalPast roster names past → AreFewOf (is_of_partition names partition) past
  few_live partition [] legal = omega arith
  few_live partition (entry ∷ past) legal = at (gives_next roster names past entry legal.1) (few_live partition past legal.0)
    where
      mine : ℕ → Bool
      mine = is_of_partition names partition

      at : GivesNone entry.reply ⊎ GivesNext names past entry.call entry.reply → AreFewOf (is_of_partition names partition) past → AreFewOf (is_of_partition names partition) (entry ∷ past)
      at (inl none) before = few_by_none mine entry past none before
      at (inr next) before = of (mine next.space) refl
        where
          once : (s : ℕ) → times s (spaces_given (entry ∷ past)) ≡ once_if (givings (entry ∷ past) s)
          once = given_once roster names (entry ∷ past) legal

          of : (b : Bool) → mine next.space ≡ b → AreFewOf (is_of_partition names partition) (entry ∷ past)
          of true own =
              given_here mine names entry past next once (zero_unused past legal.0) before own
              (next.evicts ∙ ap (λ rival. evicted rival past next.space) (rivals_of names partition next.space own))
          of false other = given_elsewhere mine names entry past next once (zero_unused past legal.0) before other

  listed_once : (past : List Entry) → IsLegalPast roster names past → (s : ℕ) → times s (live_spaces past) ≡ one_if (live past s)
  listed_once past legal s = times_filtered (live past) s (spaces_given past) ∙ at (live past s) refl
    where
      at : (b : Bool) → live past s ≡ b → cond b (times s (spaces_given past)) 0 ≡ one_if b
      at true lives = given_once roster names past legal s ∙ once_of_some (givings past s) (live_given past s lives)
      at false dead = refl

  pub live_few : (past : List Entry) → IsLegalPast roster names past → AreFewLive names past
  live_few past legal =
      record {
        few = λ partition. omega (arith, rivals_counted (is_of_partition names partition) past, few_live partition past legal);
        once = listed_once past legal;
      }
