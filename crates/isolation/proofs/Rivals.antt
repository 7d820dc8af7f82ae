-- What a partition's spaces hold is the same in its own part of the past.
use Rattle.std.proofs.Common.{◌≡◌, ℕ, suc, Bool, true, false, ◌||◌, cond, List, [], ◌∷◌, refl, ap, sym, ◌∙◌, Option, Some, None, arith}
use Rattle.std.specs.Prelude.{All, IsTrue, filter, is_some, nat_lt, ◌==◌}
use Rattle.std.specs.List.{cons_option}
use Rattle.std.proofs.lemmas.Bool.Decides.{nat_tests}
use Rattle.std.proofs.lemmas.Bool.{false≢true}
use Rattle.std.proofs.lemmas.List.Elements.{All-nil, All-cons, All-head, All-tail, filter_passes}
use Rattle.auth_events.specs.declared.journal.Gift.{Gift}
use Rattle.auth_events.specs.declared.journal.Entry.{Entry}
use Rattle.auth_events.specs.Past.{gift_given, is_of, first_space, spaces_given, live, live_spaces, current, givings, takes_away, gives, touches, terms, selects, age, greater_by, greatest_by, live_rivals, evicted}
use Rattle.auth_events.specs.Book.{notes}
use Rattle.auth_events.proofs.Numbers.{or_right}
use Rattle.auth_events.proofs.Same.{number_refl}
use Rattle.isolation.specs.Partitions.{renumbered}
use Rattle.isolation.proofs.Lists.{filter_both, filter_all, filter_same}
use Rattle.isolation.proofs.Parts.{kept, shrink, Agrees, count_shrunk, given_moved, taken_moved, used_moved, ready_moved, terms_moved}

-- the entry has nothing to do with the space
pub record IsFarFrom (entry : Entry) (s : ℕ) : Type 0 where
  pub taken : takes_away entry s ≡ false
  pub given : gives entry s ≡ false
  pub touched : touches entry s ≡ false
  pub selected : selects entry.call s ≡ false
  pub noted : notes entry.call s ≡ false

-- what is left out has nothing to do with the spaces that are one's own, and what is kept nothing with the others
pub record IsApart (keep : Entry → Bool) (mine : ℕ → Bool) (entry : Entry) : Type 0 where
  pub out : keep entry ≡ false → (s : ℕ) → IsTrue (mine s) → IsFarFrom entry s
  pub within : IsTrue (keep entry) → (s : ℕ) → mine s ≡ false → IsFarFrom entry s

abbrev Own : (ℕ → Bool) → ℕ → Type 0
Own mine s = IsTrue (mine s)

lt_suc : (a b : ℕ) → nat_lt (suc a) (suc b) ≡ nat_lt a b
lt_suc a b = by (nat_lt a b) refl
  where
    by : (c : Bool) → nat_lt a b ≡ c → nat_lt (suc a) (suc b) ≡ c
    by true is = grind (arith, nat_tests)
    by false is = grind (arith, nat_tests)

never : (a : ℕ) → nat_lt (suc a) 0 ≡ false
never a = grind (arith, nat_tests)

always : (a : ℕ) → nat_lt 0 (suc a) ≡ true
always a = grind (arith, nat_tests)

module _ (f : ℕ → ℕ) (keep : Entry → Bool) (mine : ℕ → Bool) where
  -- WHAT A SPACE HOLDS

  pub current_shrunk : (past : List Entry) → All (IsApart keep mine) past → (s : ℕ) → IsTrue (mine s) → current (shrink f keep past) s ≡ current past s
  current_shrunk [] all s own = refl
  current_shrunk (entry ∷ past) all s own = at (keep entry) refl (current_shrunk past (All-tail (IsApart keep mine) entry past all) s own)
    where
      at : (b : Bool) → keep entry ≡ b → current (shrink f keep past) s ≡ current past s → current (kept b (renumbered f entry) (shrink f keep past)) s ≡ current (entry ∷ past) s
      at true is before =
          let a = taken_moved f entry s in
          let b = given_moved f entry.reply in
          cc
      at false is before =
          let far = (All-head (IsApart keep mine) entry past all).out is s own in
          let taken = far.taken in
          let given = far.given in
          cc

  pub live_shrunk : (past : List Entry) → All (IsApart keep mine) past → (s : ℕ) → IsTrue (mine s) → live (shrink f keep past) s ≡ live past s
  live_shrunk past all s own = ap is_some (current_shrunk past all s own)

  -- TERMS

  pub terms_shrunk : (past : List Entry) → All (IsApart keep mine) past → (s : ℕ) → IsTrue (mine s) → terms (shrink f keep past) s ≡ terms past s
  terms_shrunk [] all s own = refl
  terms_shrunk (entry ∷ past) all s own = at (keep entry) refl (terms_shrunk past (All-tail (IsApart keep mine) entry past all) s own)
    where
      at : (b : Bool) → keep entry ≡ b → terms (shrink f keep past) s ≡ terms past s → terms (kept b (renumbered f entry) (shrink f keep past)) s ≡ terms (entry ∷ past) s
      at true is before =
          let a = used_moved f entry.call entry.reply in
          let b = ready_moved f entry.reply in
          let c = terms_moved f entry.call in
          cc
      at false is before =
          let far = (All-head (IsApart keep mine) entry past all).out is s own in
          let touched = far.touched in
          cc

  -- GIVINGS

  giving_agrees : (s : ℕ) → IsTrue (mine s) → (past : List Entry) → All (IsApart keep mine) past → All (Agrees f keep (λ entry. gives entry s) (λ entry. gives entry s)) past
  giving_agrees s own [] all = All-nil (Agrees f keep (λ entry. gives entry s) (λ entry. gives entry s))
  giving_agrees s own (entry ∷ past) all =
      All-cons (Agrees f keep (λ entry. gives entry s) (λ entry. gives entry s)) entry past
      (record { out = λ is. ((All-head (IsApart keep mine) entry past all).out is s own).given; within = λ is. ap (λ g. is_of g s) (given_moved f entry.reply) })
      (giving_agrees s own past (All-tail (IsApart keep mine) entry past all))

  pub givings_shrunk : (past : List Entry) → All (IsApart keep mine) past → (s : ℕ) → IsTrue (mine s) → givings (shrink f keep past) s ≡ givings past s
  givings_shrunk past all s own =
      count_shrunk f keep (λ entry. gives entry s) (λ entry. gives entry s) past (giving_agrees s own past all)

  -- TOUCH

  -- of two spaces the same one was touched last
  pub age_shrunk : (past : List Entry) → All (IsApart keep mine) past → (s t : ℕ) → IsTrue (mine s) → IsTrue (mine t) → nat_lt (age (shrink f keep past) s) (age (shrink f keep past) t) ≡ nat_lt (age past s) (age past t)
  age_shrunk [] all s t own_s own_t = refl
  age_shrunk (entry ∷ past) all s t own_s own_t = at (keep entry) refl (age_shrunk past (All-tail (IsApart keep mine) entry past all) s t own_s own_t)
    where
      rest : List Entry
      rest = shrink f keep past

      apart : IsApart keep mine entry
      apart = All-head (IsApart keep mine) entry past all

      by : (b c : Bool) → nat_lt (age rest s) (age rest t) ≡ nat_lt (age past s) (age past t) → nat_lt (cond b 0 (suc (age rest s))) (cond c 0 (suc (age rest t))) ≡ nat_lt (cond b 0 (suc (age past s))) (cond c 0 (suc (age past t)))
      by true true before = refl
      by true false before = always (age rest t) ∙ sym (always (age past t))
      by false true before = never (age rest s) ∙ sym (never (age past s))
      by false false before = lt_suc (age rest s) (age rest t) ∙ (before ∙ sym (lt_suc (age past s) (age past t)))

      at : (b : Bool) → keep entry ≡ b → nat_lt (age rest s) (age rest t) ≡ nat_lt (age past s) (age past t) → nat_lt (age (kept b (renumbered f entry) rest) s) (age (kept b (renumbered f entry) rest) t) ≡ nat_lt (age (entry ∷ past) s) (age (entry ∷ past) t)
      at true is before =
          ap (λ g. nat_lt (cond (is_of g s) 0 (suc (age rest s))) (cond (is_of g t) 0 (suc (age rest t)))) (used_moved f entry.call entry.reply)
          ∙ by (touches entry s) (touches entry t) before
      at false is before =
          let far_s = (apart.out is s own_s).touched in
          let far_t = (apart.out is t own_t).touched in
          before
          ∙ sym (ap (λ b. nat_lt (cond b 0 (suc (age past s))) (age (entry ∷ past) t)) far_s ∙ ap (λ b. nat_lt (suc (age past s)) (cond b 0 (suc (age past t)))) far_t ∙ lt_suc (age past s) (age past t))

  -- THE SPACES THAT WERE GIVEN

  first_far : (entry : Entry) (o : Option Gift) → gift_given entry.reply ≡ o → ((s : ℕ) → IsTrue (mine s) → gives entry s ≡ false) → (xs : List ℕ) → filter mine (cons_option (first_space o) xs) ≡ filter mine xs
  first_far entry None is far xs = refl
  first_far entry (Some gift) is far xs = at (gift.ordinal == 1)
    where
      foreign : mine gift.space ≡ false
      foreign = by (mine gift.space) refl
        where
          by : (b : Bool) → mine gift.space ≡ b → b ≡ false
          by false is' = refl
          by true is' = absurd (false≢true (sym (far gift.space is') ∙ (ap (λ g. is_of g gift.space) is ∙ number_refl gift.space)))

      at : (b : Bool) → filter mine (cons_option (cond b (Some gift.space) None) xs) ≡ filter mine xs
      at true = ap (λ b. cond b (gift.space ∷ filter mine xs) (filter mine xs)) foreign
      at false = refl

  first_near : (entry : Entry) (o : Option Gift) → gift_given entry.reply ≡ o → ((s : ℕ) → mine s ≡ false → gives entry s ≡ false) → (xs : List ℕ) → filter mine (cons_option (first_space o) xs) ≡ cons_option (first_space o) (filter mine xs)
  first_near entry None is far xs = refl
  first_near entry (Some gift) is far xs = at (gift.ordinal == 1)
    where
      own : mine gift.space ≡ true
      own = by (mine gift.space) refl
        where
          by : (b : Bool) → mine gift.space ≡ b → b ≡ true
          by true is' = refl
          by false is' = absurd (false≢true (sym (far gift.space is') ∙ (ap (λ g. is_of g gift.space) is ∙ number_refl gift.space)))

      at : (b : Bool) → filter mine (cons_option (cond b (Some gift.space) None) xs) ≡ cons_option (cond b (Some gift.space) None) (filter mine xs)
      at true = ap (λ b. cond b (gift.space ∷ filter mine xs) (filter mine xs)) own
      at false = refl

  -- the part's spaces are one's own among the spaces
  pub given_shrunk : (past : List Entry) → All (IsApart keep mine) past → spaces_given (shrink f keep past) ≡ filter mine (spaces_given past)
  given_shrunk [] all = refl
  given_shrunk (entry ∷ past) all = at (keep entry) refl (given_shrunk past (All-tail (IsApart keep mine) entry past all))
    where
      apart : IsApart keep mine entry
      apart = All-head (IsApart keep mine) entry past all

      at : (b : Bool) → keep entry ≡ b → spaces_given (shrink f keep past) ≡ filter mine (spaces_given past) → spaces_given (kept b (renumbered f entry) (shrink f keep past)) ≡ filter mine (spaces_given (entry ∷ past))
      at true is before =
          ap (λ g. cons_option (first_space g) (spaces_given (shrink f keep past))) (given_moved f entry.reply)
          ∙ (ap (cons_option (first_space (gift_given entry.reply))) before
          ∙ sym (first_near entry (gift_given entry.reply) refl (λ s foreign. (apart.within is s foreign).given) (spaces_given past)))
      at false is before = before ∙ sym (first_far entry (gift_given entry.reply) refl (λ s own. (apart.out is s own).given) (spaces_given past))

  -- EVICTION

  -- the live rivals are the same, and the one that goes
  pub rivals_shrunk : (past : List Entry) → All (IsApart keep mine) past → live_rivals mine (shrink f keep past) ≡ live_rivals mine past
  rivals_shrunk past all =
      filter_both mine (live (shrink f keep past)) (spaces_given (shrink f keep past))
      ∙ (ap (λ xs. filter (live (shrink f keep past)) (filter mine xs)) (given_shrunk past all)
      ∙ (ap (filter (live (shrink f keep past))) (filter_all mine (filter mine (spaces_given past)) (filter_passes mine (spaces_given past)))
      ∙ (filter_same (Own mine) (live (shrink f keep past)) (live past) (live_shrunk past all) (filter mine (spaces_given past)) (filter_passes mine (spaces_given past))
      ∙ sym (filter_both mine (live past) (spaces_given past)))))

  -- of numbers that are one's own, the one at which either of two orders is greatest
  pub greatest_own : (g : ℕ → ℕ) (xs : List ℕ) → All (Own mine) xs → IsTrue (greatest_by g xs == 0 || mine (greatest_by g xs))
  greatest_own g [] all = refl
  greatest_own g (x ∷ xs) all = at (greatest_by g xs == 0 || nat_lt (g (greatest_by g xs)) (g x)) (greatest_own g xs (All-tail (Own mine) x xs all))
    where
      at : (b : Bool) → IsTrue (greatest_by g xs == 0 || mine (greatest_by g xs)) → IsTrue (cond b x (greatest_by g xs) == 0 || mine (cond b x (greatest_by g xs)))
      at true before = or_right (x == 0) (mine x) (All-head (Own mine) x xs all)
      at false before = before

  greatest_same : (g h : ℕ → ℕ) → ((s t : ℕ) → IsTrue (mine s) → IsTrue (mine t) → nat_lt (g s) (g t) ≡ nat_lt (h s) (h t)) → (xs : List ℕ) → All (Own mine) xs → greatest_by g xs ≡ greatest_by h xs
  greatest_same g h same [] all = refl
  greatest_same g h same (x ∷ xs) all =
      ap (greater_by g x) (greatest_same g h same xs (All-tail (Own mine) x xs all)) ∙ at (greatest_by h xs == 0) (greatest_own h xs (All-tail (Own mine) x xs all))
    where
      at : (b : Bool) → IsTrue (b || mine (greatest_by h xs)) → cond (b || nat_lt (g (greatest_by h xs)) (g x)) x (greatest_by h xs) ≡ cond (b || nat_lt (h (greatest_by h xs)) (h x)) x (greatest_by h xs)
      at true own = refl
      at false own = ap (λ b. cond b x (greatest_by h xs)) (same (greatest_by h xs) x own (All-head (Own mine) x xs all))

  -- a space of one's own evicts the same one in one's own part
  pub evicted_shrunk : (past : List Entry) → All (IsApart keep mine) past → (s : ℕ) → IsTrue (mine s) → evicted mine (shrink f keep past) s ≡ evicted mine past s
  evicted_shrunk past all s own =
      let lives = live_shrunk past all s own in
      let rivals = rivals_shrunk past all in
      let oldest : greatest_by (age (shrink f keep past)) (live_rivals mine past) ≡ greatest_by (age past) (live_rivals mine past) =
      greatest_same (age (shrink f keep past)) (age past) (age_shrunk past all) (live_rivals mine past) (filter_passes mine (live_spaces past)) in
      cc
