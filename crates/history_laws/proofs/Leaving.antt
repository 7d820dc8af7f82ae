-- An entry takes out at most one nonce: at most one live space leaves its nonce by it.
use Rattle.std.proofs.Common.{◌≡◌, ℕ, Bool, true, false, not, ◌&&◌, ◌||◌, cond, List, [], ◌∷◌, refl, ap, sym, subst, ◌∙◌, ◌⊎◌, inl, inr, arith, Some, None}
use Rattle.std.specs.Prelude.{IsTrue, is_some, find, option_map, unwrap_or, ◌==◌}
use Rattle.std.specs.List.{list_any}
use Rattle.std.proofs.lemmas.Bool.Decides.{nat_tests}
use Rattle.std.proofs.lemmas.Bool.{false≢true}
use Rattle.std.proofs.lemmas.Option.{none-some}
use Rattle.spaces.specs.declared.roster.Roster.{Roster}
use Rattle.auth_events.specs.declared.journal.Gift.{Gift}
use Rattle.auth_events.specs.declared.journal.Call.{Call}
use Rattle.auth_events.specs.declared.journal.Call.TheVariants.{Select, Reject, Renew, Answer}
use Rattle.auth_events.specs.declared.journal.BookReply.{BookReply}
use Rattle.auth_events.specs.declared.journal.BookReply.TheVariants.{Ready, Url, Cached, Removed, Renewed, Given, Cancelled}
use Rattle.auth_events.specs.declared.journal.Entry.{Entry}
use Rattle.auth_events.specs.Tables.{Tables}
use Rattle.auth_events.specs.Pages.{fits}
use Rattle.auth_events.specs.Past.{live, gives, takes_away, gift_given, evicted_by, gift_renewed, touches, is_ready, terms, terms_in, evicted, rejects, spaces_given}
use Rattle.auth_events.specs.Book.{Choice, IsStep, answer, choice, select_answer, next_gift, space_of_prompt, holds_nonce, is_left, takes_out, retired, nonce_of, is_rival}
use Rattle.auth_events.specs.Book.Choice.{ByUrl, ByCache, ByDefault, ByFollowing, ByLeading}
use Rattle.auth_events.proofs.Numbers.{and_left, and_right}
use Rattle.auth_events.proofs.Same.{number_same}
use Rattle.history_laws.proofs.Holding.{current_kept}

-- WHAT AN ENTRY GIVES

-- the space that a call may be given credentials of
abbrev pub space_asked : List Entry → Call → ℕ
space_asked past (Select space t) = space
space_asked past (Answer p text t) = space_of_prompt past p
space_asked past call = 0

-- the calls that are given credentials
abbrev pub may_give : Call → Bool
may_give (Select space t) = true
may_give (Answer p text t) = true
may_give call = false

-- the next gift of the space that is asked for, with what is evicted for it
pub record GivesNext (names : Tables) (past : List Entry) (call : Call) (reply : BookReply) : Type 0 where
  pub space : ℕ
  pub asks : IsTrue (may_give call)
  pub asked : space ≡ space_asked past call
  pub gift : gift_given reply ≡ Some (next_gift past space)
  pub evicts : evicted_by reply ≡ evicted (is_rival names space) past space

abbrev pub GivesNone : BookReply → Type 0
GivesNone reply = (gift_given reply ≡ None) × (evicted_by reply ≡ 0)

module _ (roster : Roster) (names : Tables) where
  select_gives : (past : List Entry) (s t : ℕ) (reply : BookReply) (how : Choice) → reply ≡ select_answer (is_rival names s) past s how → GivesNone reply ⊎ GivesNext names past (Select s t) reply
  select_gives past s t reply ByUrl is = inr (record { space = s; asks = refl; asked = refl; gift = ap gift_given is; evicts = ap evicted_by is })
  select_gives past s t reply (ByCache gift) is = inl (ap gift_given is, ap evicted_by is)
  select_gives past s t reply ByDefault is = inl (ap gift_given is, ap evicted_by is)
  select_gives past s t reply (ByFollowing p) is = inl (ap gift_given is, ap evicted_by is)
  select_gives past s t reply ByLeading is = inl (ap gift_given is, ap evicted_by is)

  answer_gives : (past : List Entry) (p text t : ℕ) (reply : BookReply) (cancelled : Bool) → reply ≡ cond cancelled Cancelled (Given (next_gift past (space_of_prompt past p)) (evicted (is_rival names (space_of_prompt past p)) past (space_of_prompt past p))) → GivesNone reply ⊎ GivesNext names past (Answer p text t) reply
  answer_gives past p text t reply true is = inl (ap gift_given is, ap evicted_by is)
  answer_gives past p text t reply false is = inr (record { space = space_of_prompt past p; asks = refl; asked = refl; gift = ap gift_given is; evicts = ap evicted_by is })

  step_gives : (past : List Entry) (r : ℕ) (call : Call) (reply : BookReply) → reply ≡ answer roster names past r call → IsTrue (fits call reply) → GivesNone reply ⊎ GivesNext names past call reply
  step_gives past r (Select s t) (Url gift gone) is fit = select_gives past s t (Url gift gone) (choice roster names past r s) is
  step_gives past r (Answer p text t) (Given gift gone) is fit = answer_gives past p text t (Given gift gone) (text == 0) is
  step_gives past r call (Url gift gone) is fit = absurd (false≢true fit)
  step_gives past r call (Given gift gone) is fit = absurd (false≢true fit)
  step_gives past r call reply is fit = inl (refl, refl)

  -- the entry gives nothing, or the next gift of a space
  pub gives_next : (past : List Entry) (entry : Entry) → IsStep roster names past entry → GivesNone entry.reply ⊎ GivesNext names past entry.call entry.reply
  gives_next past entry step = step_gives past entry.request entry.call entry.reply step.1 step.2

-- nobody is evicted for a space that is live
none_for_live : (b more : Bool) (v : ℕ) → IsTrue b → cond (not b && more) v 0 ≡ 0
none_for_live true more v lives = refl
none_for_live false more v lives = absurd (false≢true lives)

-- what is given and who is evicted, once the reply is known
stays_in : (names : Tables) (past : List Entry) (call : Call) (reply : BookReply) (gift : Gift) → gift_given reply ≡ Some gift → GivesNone reply ⊎ GivesNext names past call reply → IsTrue (live past gift.space) → evicted_by reply ≡ 0
stays_in names past call reply gift is (inl none) lives = absurd (none-some gift (sym none.0 ∙ is))
stays_in names past call reply gift is (inr next) lives =
    let space : next.space ≡ gift.space = ap (λ o. unwrap_or (option_map (λ (g : Gift). g.space) o) 0) (sym next.gift ∙ is) in
    next.evicts ∙ none_for_live (live past next.space) _ _ (subst (λ s. IsTrue (live past s)) (sym space) lives)

-- WHICH SPACE AN ENTRY MOVES

or_no : (a b : Bool) → (a && false || b) ≡ b
or_no true b = refl
or_no false b = refl

pub no_space : (a : Bool) (s : ℕ) → a ≡ false → (a || not (s == 0) && 0 == s) ≡ false
no_space a s fails = grind (arith, nat_tests)

pub and_false : (a : Bool) → (a && false) ≡ false
and_false true = refl
and_false false = refl

and_not : (a : Bool) → (a && not a) ≡ false
and_not true = refl
and_not false = refl

not_held : (a b c : Bool) → a ≡ false → (a && b && c) ≡ false
not_held true b c fails = absurd (false≢true (sym fails))
not_held false b c fails = refl

module _ (names : Tables) where
  pub terms_kept : (entry : Entry) (past : List Entry) (s : ℕ) → (touches entry s && not (is_ready entry.reply)) ≡ false → terms (entry ∷ past) s ≡ terms past s
  terms_kept entry past s untouched = ap (λ b. cond b (terms_in entry.call) (terms past s)) untouched

  -- a space that the entry neither takes away nor gives nor touches leaves no nonce
  unmoved : (entry : Entry) (past : List Entry) (n s : ℕ) → takes_away entry s ≡ false → gives entry s ≡ false → (touches entry s && not (is_ready entry.reply)) ≡ false → is_left names past (entry ∷ past) n s ≡ false
  unmoved entry past n s kept given untouched =
      ap (λ held. holds_nonce names past n s && not (is_some held && not (terms (entry ∷ past) s == 0) && nonce_of names (terms (entry ∷ past) s) == n)) (current_kept entry past s kept given)
      ∙ ap (λ t. holds_nonce names past n s && not (live past s && not (t == 0) && nonce_of names t == n)) (terms_kept entry past s untouched)
      ∙ and_not (holds_nonce names past n s)

  -- a space that is not live has no nonce to leave
  dead : (past later : List Entry) (n s : ℕ) → live past s ≡ false → is_left names past later n s ≡ false
  dead past later n s dies =
      ap (λ b. b && not (holds_nonce names later n s)) (not_held (live past s) (not (terms past s == 0)) (nonce_of names (terms past s) == n) dies)

  -- by an entry that gives, it is the space itself, where that was live, and else the one that is evicted
  by_giving : (entry : Entry) (past : List Entry) (n s : ℕ) (gift : Gift) (gone : ℕ) → gives entry s ≡ (gift.space == s) → (touches entry s && not (is_ready entry.reply)) ≡ (gift.space == s && true) → takes_away entry s ≡ (not (s == 0) && gone == s) → (IsTrue (live past gift.space) → gone ≡ 0) → IsTrue (is_left names past (entry ∷ past) n s) → s ≡ cond (live past gift.space) gift.space gone
  by_giving entry past n s gift gone gives_is touches_is takes_is stays left = at (live past gift.space) refl (gift.space == s) refl (not (s == 0) && gone == s) refl
    where
      at : (l : Bool) → live past gift.space ≡ l → (g : Bool) → (gift.space == s) ≡ g → (t : Bool) → (not (s == 0) && gone == s) ≡ t → s ≡ cond l gift.space gone
      at true lives true is t taken = sym (number_same gift.space s is)
      at true lives false other true taken = absurd (false≢true (sym (no_space false s refl) ∙ ap (λ v. not (s == 0) && v == s) (sym (stays lives)) ∙ taken))
      at false dies true is t taken = absurd (false≢true (sym (dead past (entry ∷ past) n s (subst (λ u. live past u ≡ false) (number_same gift.space s is) dies)) ∙ left))
      at false dies false other true taken = sym (number_same gone s (and_right (not (s == 0)) (gone == s) taken))
      at l lives false other false taken =
          absurd (false≢true (sym (unmoved entry past n s (takes_is ∙ taken) (gives_is ∙ other) (touches_is ∙ ap (λ b. b && true) other)) ∙ left))

  -- by an entry that touches, it is the space that is touched
  by_touching : (entry : Entry) (past : List Entry) (n s u : ℕ) → gives entry s ≡ false → touches entry s ≡ (u == s) → takes_away entry s ≡ false → IsTrue (is_left names past (entry ∷ past) n s) → s ≡ u
  by_touching entry past n s u gives_is touches_is takes_is left = at (u == s) refl
    where
      at : (b : Bool) → (u == s) ≡ b → s ≡ u
      at true is = sym (number_same u s is)
      at false other =
          absurd (false≢true (sym (unmoved entry past n s takes_is gives_is (ap (λ b. b && not (is_ready entry.reply)) (touches_is ∙ other))) ∙ left))

  by_rejecting : (entry : Entry) (past : List Entry) (n s u : ℕ) → gives entry s ≡ false → touches entry s ≡ false → takes_away entry s ≡ ((u == s) && true || not (s == 0) && 0 == s) → IsTrue (is_left names past (entry ∷ past) n s) → s ≡ u
  by_rejecting entry past n s u gives_is touches_is takes_is left = at (u == s) refl
    where
      at : (b : Bool) → (u == s) ≡ b → s ≡ u
      at true is = sym (number_same u s is)
      at false other =
          absurd (false≢true (sym (unmoved entry past n s (takes_is ∙ ap (λ b. b && true || not (s == 0) && 0 == s) other ∙ no_space false s refl) gives_is (ap (λ b. b && not (is_ready entry.reply)) touches_is)) ∙ left))

  abbrev pub space_rejected : Call → ℕ
  space_rejected (Reject space ordinal) = space
  space_rejected _ = 0

  abbrev pub space_renewed : Call → ℕ
  space_renewed call = unwrap_or (option_map (λ (gift : Gift). gift.space) (gift_renewed call)) 0

  -- the one space that can leave its nonce by the entry
  abbrev pub moved : List Entry → Call → BookReply → ℕ
  moved past call (Url gift gone) = cond (live past gift.space) gift.space gone
  moved past call (Given gift gone) = cond (live past gift.space) gift.space gone
  moved past call (Cached gift) = gift.space
  moved past call Renewed = space_renewed call
  moved past call Removed = space_rejected call
  moved past call reply = 0

  abbrev Left : List Entry → ℕ → ℕ → Call → BookReply → ℕ → ℕ → Type 0
  Left past c r call reply n s = IsTrue (is_left names past (record { caller = c; request = r; call = call; reply = reply } ∷ past) n s)

  unmoved_left : (past : List Entry) (c r : ℕ) (call : Call) (reply : BookReply) (n s u : ℕ) → takes_away (record { caller = c; request = r; call = call; reply = reply }) s ≡ false → gives (record { caller = c; request = r; call = call; reply = reply }) s ≡ false → (touches (record { caller = c; request = r; call = call; reply = reply }) s && not (is_ready reply)) ≡ false → Left past c r call reply n s → s ≡ u
  unmoved_left past c r call reply n s u kept given untouched left =
      absurd (false≢true (sym (unmoved (record { caller = c; request = r; call = call; reply = reply }) past n s kept given untouched) ∙ left))

  renewed_left : (past : List Entry) (c r n s : ℕ) (call : Call) → Left past c r call Renewed n s → s ≡ space_renewed call
  renewed_left past c r n s (Renew gift t) left =
      by_touching (record { caller = c; request = r; call = Renew gift t; reply = Renewed }) past n s gift.space refl refl (no_space false s refl) left
  renewed_left past c r n s call left =
      unmoved_left past c r call Renewed n s 0 (no_space (rejects call s && false) s (and_false (rejects call s))) refl refl left

  removed_left : (past : List Entry) (c r n s : ℕ) (call : Call) → Left past c r call Removed n s → s ≡ space_rejected call
  removed_left past c r n s (Reject space ordinal) left =
      by_rejecting (record { caller = c; request = r; call = Reject space ordinal; reply = Removed }) past n s space refl refl refl left
  removed_left past c r n s call left = unmoved_left past c r call Removed n s 0 (no_space false s refl) refl refl left

  left_is_moved : (past : List Entry) (c r n s : ℕ) (call : Call) (reply : BookReply) → ((gift : Gift) → gift_given reply ≡ Some gift → IsTrue (live past gift.space) → evicted_by reply ≡ 0) → Left past c r call reply n s → s ≡ moved past call reply
  left_is_moved past c r n s call (Url gift gone) stays left =
      by_giving (record { caller = c; request = r; call = call; reply = Url gift gone }) past n s gift gone refl refl (or_no (rejects call s) _) (stays gift refl) left
  left_is_moved past c r n s call (Given gift gone) stays left =
      by_giving (record { caller = c; request = r; call = call; reply = Given gift gone }) past n s gift gone refl refl (or_no (rejects call s) _) (stays gift refl) left
  left_is_moved past c r n s call (Cached gift) stays left =
      by_touching (record { caller = c; request = r; call = call; reply = Cached gift }) past n s gift.space refl refl (no_space (rejects call s && false) s (and_false (rejects call s))) left
  left_is_moved past c r n s call Renewed stays left = renewed_left past c r n s call left
  left_is_moved past c r n s call Removed stays left = removed_left past c r n s call left
  left_is_moved past c r n s call (Ready gift t epoch) stays left =
      unmoved_left past c r call (Ready gift t epoch) n s 0 (no_space (rejects call s && false) s (and_false (rejects call s))) refl (and_false (gift.space == s)) left
  left_is_moved past c r n s call reply stays left =
      unmoved_left past c r call reply n s 0 (no_space (rejects call s && false) s (and_false (rejects call s))) refl refl left

-- THE NONCE THAT IS TAKEN OUT

found_with : (p q : ℕ → Bool) (xs : List ℕ) → IsTrue (list_any p xs) → ((x : ℕ) → IsTrue (p x) → IsTrue (q x)) → (x : ℕ) × (find q xs ≡ Some x) × IsTrue (q x)
found_with p q [] any weaker = absurd (false≢true any)
found_with p q (x ∷ xs) any weaker = at (p x) refl (q x) refl any (λ rest. found_with p q xs rest weaker)
  where
    at : (a : Bool) → p x ≡ a → (b : Bool) → q x ≡ b → IsTrue (a || list_any p xs) → (IsTrue (list_any p xs) → (y : ℕ) × (find q xs ≡ Some y) × IsTrue (q y)) → (y : ℕ) × (cond b (Some x) (find q xs) ≡ Some y) × IsTrue (q y)
    at a is_p true is_q some before = (x, refl, is_q)
    at true is_p false is_q some before = absurd (false≢true (sym is_q ∙ weaker x is_p))
    at false is_p false is_q some before = before some

passing : (p : ℕ → Bool) (xs : List ℕ) → IsTrue (list_any p xs) → (x : ℕ) × IsTrue (p x)
passing p [] any = absurd (false≢true any)
passing p (x ∷ xs) any = at (p x) refl any (λ rest. passing p xs rest)
  where
    at : (b : Bool) → p x ≡ b → IsTrue (b || list_any p xs) → (IsTrue (list_any p xs) → (y : ℕ) × IsTrue (p y)) → (y : ℕ) × IsTrue (p y)
    at true is some before = (x, is)
    at false is some before = before some

module _ (roster : Roster) (names : Tables) where
  pub one_left : (past : List Entry) (entry : Entry) → IsStep roster names past entry → (n s : ℕ) → IsTrue (is_left names past (entry ∷ past) n s) → s ≡ moved names past entry.call entry.reply
  one_left past entry step n s left =
      left_is_moved names past entry.caller entry.request n s entry.call entry.reply
      (λ gift is lives. stays_in names past entry.call entry.reply gift is (gives_next roster names past entry step) lives) left

  -- a space that leaves a nonce had it
  nonce_of_left : (past later : List Entry) (n s : ℕ) → IsTrue (is_left names past later n s) → nonce_of names (terms past s) ≡ n
  nonce_of_left past later n s left =
      number_same (nonce_of names (terms past s)) n (and_right (live past s && not (terms past s == 0)) (nonce_of names (terms past s) == n) (and_left (holds_nonce names past n s) (not (holds_nonce names later n s)) left))

  -- a nonce that the entry takes out is the one that it retires
  pub takes_out_retired : (past : List Entry) (entry : Entry) → IsStep roster names past entry → (n : ℕ) → IsTrue (takes_out names entry past n) → retired names entry past ≡ n
  takes_out_retired past entry step n out =
      let own = λ (s : ℕ). is_left names past (entry ∷ past) (nonce_of names (terms past s)) s in
      let some = passing (λ s. is_left names past (entry ∷ past) n s) (spaces_given past) out in
      let weaker = λ (s : ℕ) (left : IsTrue (is_left names past (entry ∷ past) n s)). subst (λ m. IsTrue (is_left names past (entry ∷ past) m s)) (sym (nonce_of_left past (entry ∷ past) n s left)) left in
      let found = found_with (λ s. is_left names past (entry ∷ past) n s) own (spaces_given past) out weaker in
      let same : found.0 ≡ some.0 = one_left past entry step (nonce_of names (terms past found.0)) found.0 found.2 ∙ sym (one_left past entry step n some.0 some.1) in
      ap (λ o. unwrap_or (option_map (λ s. nonce_of names (terms past s)) o) 0) found.1
      ∙ ap (λ s. nonce_of names (terms past s)) same
      ∙ nonce_of_left past (entry ∷ past) n some.0 some.1
