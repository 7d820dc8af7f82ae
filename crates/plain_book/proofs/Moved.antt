-- An entry moves two spaces at most, so it takes a nonce out of one of these two or of none.
use Rattle.std.proofs.Common.{◌≡◌, ℕ, Bool, true, false, not, ◌&&◌, ◌||◌, cond, List, [], ◌∷◌, refl, ap, sym, ◌∙◌, ◌⊎◌, inl, inr, arith, Option, Some, None}
use Rattle.std.specs.Prelude.{is_some, find, option_map, unwrap_or, ◌==◌}
use Rattle.std.specs.List.{list_any}
use Rattle.std.proofs.lemmas.Bool.Decides.{nat_tests}
use Rattle.std.proofs.lemmas.Bool.{false≢true}
use Rattle.std.proofs.lemmas.Option.{none-some}
use Rattle.auth_events.specs.declared.journal.Gift.{Gift}
use Rattle.auth_events.specs.declared.journal.Call.{Call}
use Rattle.auth_events.specs.declared.journal.Call.TheVariants.{Reject}
use Rattle.auth_events.specs.declared.journal.BookReply.{BookReply}
use Rattle.auth_events.specs.declared.journal.BookReply.TheVariants.{Url, Given, Removed}
use Rattle.auth_events.specs.declared.journal.Entry.{Entry}
use Rattle.auth_events.specs.Tables.{Tables}
use Rattle.auth_events.specs.Past.{current, evicted_by, gift_given, gift_used, gives, is_of, is_ready, is_removed, live, rejects, spaces_given, takes_away, terms, terms_in}
use Rattle.auth_events.specs.Book.{holds_nonce, is_left, nonce_of, retired, takes_out}
use Rattle.auth_events.proofs.Numbers.{and_left, and_right, both}
use Rattle.auth_events.proofs.Same.{number_same, number_refl}
use Rattle.plain_book.specs.Moves.{passes_in, sets_terms, space_rejected, space_set, space_taken}

-- TESTS

or_first : (a b : Bool) → a ≡ true → (a || b) ≡ true
or_first a b is = ap (λ c. c || b) is

or_second : (a b : Bool) → b ≡ true → (a || b) ≡ true
or_second true b is = refl
or_second false b is = is

and_false : (a : Bool) → (a && false) ≡ false
and_false true = refl
and_false false = refl

and_not : (a : Bool) → (a && not a) ≡ false
and_not true = refl
and_not false = refl

same_tests : (a b : Bool) → (a ≡ true → b ≡ true) → (b ≡ true → a ≡ true) → a ≡ b
same_tests true b to from = sym (to refl)
same_tests false true to from = from refl
same_tests false false to from = refl

-- A TEST THAT TWO NUMBERS AT MOST PASS

-- a number that passes stands in the list
passing : (p : ℕ → Bool) (xs : List ℕ) → list_any p xs ≡ true → (x : ℕ) × (p x ≡ true) × (list_any (λ y. y == x) xs ≡ true)
passing p [] any = absurd (false≢true any)
passing p (x ∷ xs) any = at (p x) refl any (λ rest. passing p xs rest)
  where
    at : (b : Bool) → p x ≡ b → (b || list_any p xs) ≡ true → (list_any p xs ≡ true → (y : ℕ) × (p y ≡ true) × (list_any (λ z. z == y) xs ≡ true)) → (y : ℕ) × (p y ≡ true) × (list_any (λ z. z == y) (x ∷ xs) ≡ true)
    at true is some before = (x, is, or_first (x == x) (list_any (λ z. z == x) xs) (number_refl x))
    at false is some before = let rest = before some in (rest.0, rest.1, or_second (x == rest.0) (list_any (λ z. z == rest.0) xs) rest.2)

-- one of the list that passes
standing : (p : ℕ → Bool) (x : ℕ) (xs : List ℕ) → p x ≡ true → list_any (λ y. y == x) xs ≡ true → list_any p xs ≡ true
standing p x [] is there = there
standing p x (y ∷ ys) is there = at (y == x) refl there (λ rest. standing p x ys is rest)
  where
    at : (b : Bool) → (y == x) ≡ b → (b || list_any (λ z. z == x) ys) ≡ true → (list_any (λ z. z == x) ys ≡ true → list_any p ys ≡ true) → (p y || list_any p ys) ≡ true
    at true same some before = or_first (p y) (list_any p ys) (ap p (number_same y x same) ∙ is)
    at false other some before = or_second (p y) (list_any p ys) (before some)

in_list : (p : ℕ → Bool) (xs : List ℕ) (a : Option ℕ) (x : ℕ) → a ≡ Some x → p x ≡ true → list_any (λ y. y == x) xs ≡ true → passes_in p xs a ≡ true
in_list p xs a x is passes there = ap (passes_in p xs) is ∙ both (p x) (list_any (λ y. y == x) xs) passes there

from_list : (p : ℕ → Bool) (xs : List ℕ) (a : Option ℕ) → passes_in p xs a ≡ true → list_any p xs ≡ true
from_list p xs None is = absurd (false≢true is)
from_list p xs (Some x) is =
    standing p x xs (and_left (p x) (list_any (λ y. y == x) xs) is) (and_right (p x) (list_any (λ y. y == x) xs) is)

either_in : (p : ℕ → Bool) (xs : List ℕ) (a b : Option ℕ) (x : ℕ) → p x ≡ true → list_any (λ y. y == x) xs ≡ true → (a ≡ Some x) ⊎ (b ≡ Some x) → (passes_in p xs a || passes_in p xs b) ≡ true
either_in p xs a b x passes there (inl is) = or_first (passes_in p xs a) (passes_in p xs b) (in_list p xs a x is passes there)
either_in p xs a b x passes there (inr is) = or_second (passes_in p xs a) (passes_in p xs b) (in_list p xs b x is passes there)

from_either : (p : ℕ → Bool) (xs : List ℕ) (a b : Option ℕ) → (passes_in p xs a || passes_in p xs b) ≡ true → list_any p xs ≡ true
from_either p xs a b is = at (passes_in p xs a) refl is
  where
    at : (c : Bool) → passes_in p xs a ≡ c → (c || passes_in p xs b) ≡ true → list_any p xs ≡ true
    at true is_a some = from_list p xs a is_a
    at false is_a some = from_list p xs b some

any_of_two : (p : ℕ → Bool) (a b : Option ℕ) (xs : List ℕ) → ((x : ℕ) → p x ≡ true → (a ≡ Some x) ⊎ (b ≡ Some x)) → list_any p xs ≡ (passes_in p xs a || passes_in p xs b)
any_of_two p a b xs only =
    same_tests (list_any p xs) (passes_in p xs a || passes_in p xs b)
    (λ any. let some = passing p xs any in either_in p xs a b some.0 some.1 some.2 (only some.0 some.1))
    (λ any. from_either p xs a b any)

none_found : (p : ℕ → Bool) (xs : List ℕ) → ((x : ℕ) → p x ≡ false) → find p xs ≡ None
none_found p [] fails = refl
none_found p (x ∷ xs) fails = ap (λ b. cond b (Some x) (find p xs)) (fails x) ∙ none_found p xs fails

-- WHAT AN ENTRY MOVES

no_space : (a : Bool) (s : ℕ) → a ≡ false → (a || not (s == 0) && 0 == s) ≡ false
no_space a s fails = grind (arith, nat_tests)

none_taken : (a : Bool) (s : ℕ) → (a && false || not (s == 0) && 0 == s) ≡ false
none_taken a s = no_space (a && false) s (and_false a)

not_zero : (s : ℕ) → not (s == 0) ≡ true → (s == 0) ≡ false
not_zero s is = at (s == 0) is
  where
    at : (b : Bool) → not b ≡ true → b ≡ false
    at true fails = sym fails
    at false fails = refl

evicts : (gone s : ℕ) → (not (s == 0) && gone == s) ≡ true → cond (gone == 0) None (Some gone) ≡ Some s
evicts gone s is =
    ap (λ (v : ℕ). cond (v == 0) None (Some v)) (number_same gone s (and_right (not (s == 0)) (gone == s) is))
    ∙ ap (λ b. cond b None (Some s)) (not_zero s (and_left (not (s == 0)) (gone == s) is))

evicted_is : (a : Bool) (gone s : ℕ) → (a && false || not (s == 0) && gone == s) ≡ true → cond (gone == 0) None (Some gone) ≡ Some s
evicted_is true gone s is = evicts gone s is
evicted_is false gone s is = evicts gone s is

rejected_is : (space s : ℕ) → ((space == s) && true || not (s == 0) && 0 == s) ≡ true → Some space ≡ Some s
rejected_is space s is = at (space == s) refl is
  where
    at : (b : Bool) → (space == s) ≡ b → (b && true || not (s == 0) && 0 == s) ≡ true → Some space ≡ Some s
    at true same some = ap Some (number_same space s same)
    at false other some = absurd (false≢true (sym (no_space false s refl) ∙ some))

taken_by : (call : Call) (reply : BookReply) (s : ℕ) → (rejects call s && is_removed reply || not (s == 0) && evicted_by reply == s) ≡ true → cond (is_removed reply) (space_rejected call) (cond (evicted_by reply == 0) None (Some (evicted_by reply))) ≡ Some s
taken_by (Reject space ordinal) Removed s is = rejected_is space s is
taken_by call Removed s is = absurd (false≢true (sym (no_space false s refl) ∙ is))
taken_by call (Url gift gone) s is = evicted_is (rejects call s) gone s is
taken_by call (Given gift gone) s is = evicted_is (rejects call s) gone s is
taken_by call reply s is = absurd (false≢true (sym (none_taken (rejects call s) s) ∙ is))

set_by : (used : Option Gift) (ready : Bool) (s : ℕ) → (is_of used s && not ready) ≡ true → cond ready None (option_map (λ (gift : Gift). gift.space) used) ≡ Some s
set_by None ready s is = absurd (false≢true is)
set_by (Some gift) true s is = absurd (false≢true (sym (and_false (gift.space == s)) ∙ is))
set_by (Some gift) false s is = ap Some (number_same gift.space s (and_left (gift.space == s) true is))

-- who is given has its terms set
given_set : (call : Call) (reply : BookReply) (s : ℕ) → is_of (gift_given reply) s ≡ true → (is_of (gift_used call reply) s && not (is_ready reply)) ≡ true
given_set call (Url gift gone) s is = both (gift.space == s) true is refl
given_set call (Given gift gone) s is = both (gift.space == s) true is refl
given_set call reply s is = absurd (false≢true is)

not_given : (entry : Entry) (s : ℕ) → sets_terms entry s ≡ false → gives entry s ≡ false
not_given entry s untouched = at (gives entry s) refl
  where
    at : (b : Bool) → gives entry s ≡ b → b ≡ false
    at true given = sym (given_set entry.call entry.reply s given) ∙ untouched
    at false given = refl

current_kept : (entry : Entry) (past : List Entry) (s : ℕ) → takes_away entry s ≡ false → gives entry s ≡ false → current (entry ∷ past) s ≡ current past s
current_kept entry past s kept given =
    ap (λ b. cond b None (cond (gives entry s) (gift_given entry.reply) (current past s))) kept
    ∙ ap (λ b. cond b (gift_given entry.reply) (current past s)) given

terms_kept : (entry : Entry) (past : List Entry) (s : ℕ) → sets_terms entry s ≡ false → terms (entry ∷ past) s ≡ terms past s
terms_kept entry past s untouched = ap (λ b. cond b (terms_in entry.call) (terms past s)) untouched

module _ (names : Tables) where
  unmoved : (entry : Entry) (past : List Entry) (n s : ℕ) → takes_away entry s ≡ false → sets_terms entry s ≡ false → is_left names past (entry ∷ past) n s ≡ false
  unmoved entry past n s kept untouched =
      ap (λ held. holds_nonce names past n s && not (is_some held && not (terms (entry ∷ past) s == 0) && nonce_of names (terms (entry ∷ past) s) == n)) (current_kept entry past s kept (not_given entry s untouched))
      ∙ ap (λ t. holds_nonce names past n s && not (live past s && not (t == 0) && nonce_of names t == n)) (terms_kept entry past s untouched)
      ∙ and_not (holds_nonce names past n s)

  -- a space that leaves a nonce is one of the two
  one_of_two : (entry : Entry) (past : List Entry) (n s : ℕ) → is_left names past (entry ∷ past) n s ≡ true → (space_set entry ≡ Some s) ⊎ (space_taken entry ≡ Some s)
  one_of_two entry past n s left = at (takes_away entry s) refl (sets_terms entry s) refl
    where
      at : (t : Bool) → takes_away entry s ≡ t → (u : Bool) → sets_terms entry s ≡ u → (space_set entry ≡ Some s) ⊎ (space_taken entry ≡ Some s)
      at true taken u set = inr (taken_by entry.call entry.reply s taken)
      at false taken true set = inl (set_by (gift_used entry.call entry.reply) (is_ready entry.reply) s set)
      at false taken false set = absurd (false≢true (sym (unmoved entry past n s taken set) ∙ left))

  pub takes_out_of_two : (entry : Entry) (past : List Entry) (n : ℕ) → takes_out names entry past n ≡ (passes_in (is_left names past (entry ∷ past) n) (spaces_given past) (space_set entry) || passes_in (is_left names past (entry ∷ past) n) (spaces_given past) (space_taken entry))
  takes_out_of_two entry past n =
      any_of_two (is_left names past (entry ∷ past) n) (space_set entry) (space_taken entry) (spaces_given past) (λ s left. one_of_two entry past n s left)

  stays : (entry : Entry) (past : List Entry) → space_set entry ≡ None → space_taken entry ≡ None → (n s : ℕ) → is_left names past (entry ∷ past) n s ≡ false
  stays entry past none_set none_taken n s = at (is_left names past (entry ∷ past) n s) refl
    where
      neither : (space_set entry ≡ Some s) ⊎ (space_taken entry ≡ Some s) → ◌≡◌ {A = Bool} true false
      neither (inl is) = absurd (none-some s (sym none_set ∙ is))
      neither (inr is) = absurd (none-some s (sym none_taken ∙ is))

      at : (b : Bool) → is_left names past (entry ∷ past) n s ≡ b → b ≡ false
      at true left = neither (one_of_two entry past n s left)
      at false left = refl

  -- an entry that moves no space retires no nonce
  pub none_is_retired : (entry : Entry) (past : List Entry) → space_set entry ≡ None → space_taken entry ≡ None → retired names entry past ≡ 0
  none_is_retired entry past none_set none_taken =
      ap (λ found. unwrap_or (option_map (λ s. nonce_of names (terms past s)) found) 0)
      (none_found (λ s. is_left names past (entry ∷ past) (nonce_of names (terms past s)) s) (spaces_given past) (λ s. stays entry past none_set none_taken (nonce_of names (terms past s)) s))
