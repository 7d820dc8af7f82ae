-- The nonce that an entry retires is read off what the spaces held.
use Rattle.std.proofs.Common.{◌≡◌, ℕ, ◌+◌, ◌<◌, ◌≤◌, Bool, true, false, not, ◌&&◌, ◌||◌, cond, List, [], ◌∷◌, refl, ap, sym, subst, ◌∙◌, arith, Option, Some, None}
use Rattle.std.specs.Prelude.{IsTrue, find, option_map, unwrap_or, ◌==◌}
use Rattle.std.specs.List.{list_any}
use Rattle.std.proofs.lemmas.Bool.Decides.{nat_tests}
use Rattle.std.proofs.lemmas.Bool.{false≢true}
use Rattle.std.proofs.lemmas.Option.{none-some}
use Rattle.std.proofs.lemmas.List.Sums.{sum_by-cons}
use Rattle.spaces.specs.declared.roster.Roster.{Roster}
use Rattle.auth_events.specs.declared.journal.Entry.{Entry}
use Rattle.auth_events.specs.Tables.{Tables}
use Rattle.auth_events.specs.Past.{givings, live, spaces_given, terms}
use Rattle.auth_events.specs.Book.{IsLegalPast, IsStep, holds_nonce, is_left, nonce_of, retired, takes_out}
use Rattle.auth_events.proofs.Numbers.{and_left}
use Rattle.auth_events.proofs.Same.{number_same}
use Rattle.history_laws.proofs.Leaving.{moved, one_left}
use Rattle.history_laws.proofs.Rooms.{times, given_once, live_given, once_if}

-- WHO LEAVES ITS NONCE

in_list : (p : ℕ → Bool) (s : ℕ) (xs : List ℕ) → p s ≡ true → 0 < times s xs → list_any p xs ≡ true
in_list p s [] is some = absurd (omega arith)
in_list p s (x ∷ xs) is some = at (x == s) refl (λ more. in_list p s xs is more)
  where
    at : (b : Bool) → (x == s) ≡ b → (0 < times s xs → list_any p xs ≡ true) → (p x || list_any p xs) ≡ true
    at true same before = ap (λ b. b || list_any p xs) (subst (λ n. p n ≡ true) (sym (number_same x s same)) is)
    at false other before = or_later (p x) (before (omega (arith, some, counted, ap (λ b. cond {A = ℕ} b 1 0) other)))
      where
        counted : times s (x ∷ xs) ≡ cond {A = ℕ} (x == s) 1 0 + times s xs
        counted = sum_by-cons (λ y. cond (y == s) 1 0) x xs

        or_later : (b : Bool) → list_any p xs ≡ true → (b || list_any p xs) ≡ true
        or_later true is' = refl
        or_later false is' = is'

found_passes : (q : ℕ → Bool) (xs : List ℕ) (x : ℕ) → find q xs ≡ Some x → q x ≡ true
found_passes q [] x found = absurd (none-some x found)
found_passes q (y ∷ ys) x found = at (q y) refl found (λ rest. found_passes q ys x rest)
  where
    at : (b : Bool) → q y ≡ b → cond b (Some y) (find q ys) ≡ Some x → (find q ys ≡ Some x → q x ≡ true) → q x ≡ true
    at true is this before = let same : y ≡ x = cc in subst (λ n. q n ≡ true) same is
    at false is later before = before later

found_listed : (p q : ℕ → Bool) (xs : List ℕ) (x : ℕ) → p x ≡ true → find q xs ≡ Some x → list_any p xs ≡ true
found_listed p q [] x is found = absurd (none-some x found)
found_listed p q (y ∷ ys) x is found = at (q y) found (λ rest. found_listed p q ys x is rest)
  where
    at : (b : Bool) → cond b (Some y) (find q ys) ≡ Some x → (find q ys ≡ Some x → list_any p ys ≡ true) → (p y || list_any p ys) ≡ true
    at true this before = let same : y ≡ x = cc in ap (λ b. b || list_any p ys) (subst (λ n. p n ≡ true) (sym same) is)
    at false later before = or_later (p y) (before later)
      where
        or_later : (b : Bool) → list_any p ys ≡ true → (b || list_any p ys) ≡ true
        or_later true is' = refl
        or_later false is' = is'

none_left : (q : ℕ → Bool) (xs : List ℕ) → find q xs ≡ None → list_any q xs ≡ false
none_left q [] none = refl
none_left q (y ∷ ys) none = at (q y) refl none (λ rest. none_left q ys rest)
  where
    at : (b : Bool) → q y ≡ b → cond b (Some y) (find q ys) ≡ None → (find q ys ≡ None → list_any q ys ≡ false) → (b || list_any q ys) ≡ false
    at true is this before = absurd (none-some y (sym this))
    at false is later before = before later

module _ (roster : Roster) (names : Tables) (past : List Entry) (legal : IsLegalPast roster names past) (entry : Entry) (step : IsStep roster names past entry) where
  -- the space leaves the nonce that it had
  abbrev pub leaves : ℕ → Bool
  leaves s = is_left names past (entry ∷ past) (nonce_of names (terms past s)) s

  abbrev m : ℕ
  m = moved names past entry.call entry.reply

  only_moved : (s : ℕ) → leaves s ≡ true → s ≡ m
  only_moved s left = one_left roster names past entry step (nonce_of names (terms past s)) s left

  left_lives : (s : ℕ) → leaves s ≡ true → live past s ≡ true
  left_lives s left =
      let n = nonce_of names (terms past s) in
      and_left (live past s) (not (terms past s == 0))
      (and_left (live past s && not (terms past s == 0)) (nonce_of names (terms past s) == n)
      (and_left (holds_nonce names past n s) (not (holds_nonce names (entry ∷ past) n s)) left))

  given_list : (s : ℕ) → live past s ≡ true → 0 < times s (spaces_given past)
  given_list s lives = omega (arith, given_once roster names past legal s, once_some (givings past s) (live_given past s lives))
    where
      once_some : (k : ℕ) → 0 < k → once_if k ≡ 1
      once_some k some = grind (arith, nat_tests)

  -- what is retired is the nonce of the one space that is moved
  pub retired_is : retired names entry past ≡ cond (leaves m) (nonce_of names (terms past m)) 0
  retired_is = at (find leaves (spaces_given past)) refl (leaves m) refl
    where
      at : (o : Option ℕ) → find leaves (spaces_given past) ≡ o → (b : Bool) → leaves m ≡ b → unwrap_or (option_map (λ s. nonce_of names (terms past s)) o) 0 ≡ cond b (nonce_of names (terms past m)) 0
      at None none true left =
          absurd (false≢true (sym (none_left leaves (spaces_given past) none) ∙ in_list leaves m (spaces_given past) left (given_list m (left_lives m left))))
      at None none false stays = refl
      at (Some s) found true left = ap (λ k. nonce_of names (terms past k)) (only_moved s (found_passes leaves (spaces_given past) s found))
      at (Some s) found false stays =
          let left = found_passes leaves (spaces_given past) s found in
          absurd (false≢true (sym stays ∙ subst (λ k. leaves k ≡ true) (only_moved s left) left))

  -- a nonce that is retired is taken out
  pub retired_out : 1 ≤ retired names entry past → IsTrue (takes_out names entry past (retired names entry past))
  retired_out some = at (find leaves (spaces_given past)) refl some
    where
      at : (o : Option ℕ) → find leaves (spaces_given past) ≡ o → 1 ≤ unwrap_or (option_map (λ s. nonce_of names (terms past s)) o) 0 → IsTrue (takes_out names entry past (unwrap_or (option_map (λ s. nonce_of names (terms past s)) o) 0))
      at None none some' = absurd (omega arith)
      at (Some s) found some' =
          found_listed (is_left names past (entry ∷ past) (nonce_of names (terms past s))) leaves (spaces_given past) s (found_passes leaves (spaces_given past) s found) found
