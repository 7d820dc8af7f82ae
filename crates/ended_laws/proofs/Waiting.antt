-- Who has ended waits for nothing: its prompts are settled, and the ends of those that it followed are taken.
use Rattle.std.proofs.Common.{◌≡◌, ℕ, ◌≤◌, Bool, true, false, not, ◌&&◌, ◌||◌, cond, List, [], ◌∷◌, ◌++◌, refl, ap, sym, subst, ◌∙◌, arith}
use Rattle.std.specs.Prelude.{IsTrue, count_by, ◌==◌, length}
use Rattle.std.specs.List.{list_any}
use Rattle.std.proofs.lemmas.Bool.{false≢true}
use Rattle.std.proofs.lemmas.List.Sums.{sum_by-cons}
use Rattle.spaces.specs.declared.roster.Roster.{Roster}
use Rattle.auth_events.specs.declared.journal.Call.{Call}
use Rattle.auth_events.specs.declared.journal.Call.TheVariants.{End}
use Rattle.auth_events.specs.declared.journal.BookReply.TheVariants.{Ended}
use Rattle.auth_events.specs.declared.journal.Entry.{Entry}
use Rattle.auth_events.specs.Tables.{Tables}
use Rattle.auth_events.specs.Past.{is_lead, prompt_led, settled, settles}
use Rattle.auth_events.specs.Book.{IsLegalPast, IsStep, allowed_call, answer, begins, ends, is_open, no_entry, own, waits}
use Rattle.auth_events.proofs.Numbers.{and_left, and_right, both, or_left, or_right, is_not}
use Rattle.auth_events.proofs.Same.{number_same, number_refl}
use Rattle.history_laws.proofs.Prompting.{settled_once}
use Rattle.ended_laws.specs.Ended.{has_begun, has_ended, HaveAllEnded, AreAllSettled}

-- LISTS

pub neither : (a b : Bool) → (a || b) ≡ false → (a ≡ false) × (b ≡ false)
neither true b none = absurd (false≢true (sym none))
neither false b none = (refl, none)

-- where none that passes the test lacks what its number wants, the number of one that passes has it
pub has_all : (test : Entry → Bool) (number : Entry → ℕ) (has : ℕ → Bool) (p : ℕ) (entries : List Entry)
    → list_any (λ e. test e && not (has (number e))) entries ≡ false → IsTrue (list_any (λ e. test e && number e == p) entries) → IsTrue (has p)
has_all test number has p [] none some = absurd (false≢true some)
has_all test number has p (entry ∷ entries) none some =
    let parts = neither (test entry && not (has (number entry))) (list_any (λ e. test e && not (has (number e))) entries) none in
    at (test entry) (number entry == p) refl parts.0 some (λ rest. has_all test number has p entries parts.1 rest)
  where
    held : (b : Bool) → not b ≡ false → IsTrue b
    held true is = refl
    held false is = absurd (false≢true (sym is))

    at : (a b : Bool) → (number entry == p) ≡ b → (a && not (has (number entry))) ≡ false → IsTrue (a && b || list_any (λ e. test e && number e == p) entries)
        → (IsTrue (list_any (λ e. test e && number e == p) entries) → IsTrue (has p)) → IsTrue (has p)
    at true true same here found rest = subst (λ n. IsTrue (has n)) (number_same (number entry) p same) (held (has (number entry)) here)
    at true false other here found rest = rest found
    at false b is here found rest = rest found

-- what an entry of the request passes, one of its entries passes
pub in_own : (test : Entry → Bool) (later : List Entry) (entry : Entry) (before : List Entry) → IsTrue (test entry)
    → IsTrue (list_any test (own (later ++ entry ∷ before) entry.request))
in_own test [] entry before passes = at (entry.request == entry.request) (number_refl entry.request)
  where
    at : (b : Bool) → IsTrue b → IsTrue (list_any test (cond b (entry ∷ own before entry.request) (own before entry.request)))
    at true is = or_left (test entry) (list_any test (own before entry.request)) passes
    at false is = absurd (false≢true is)
in_own test (first ∷ later) entry before passes = at (first.request == entry.request) (in_own test later entry before passes)
  where
    at : (b : Bool) → IsTrue (list_any test (own (later ++ entry ∷ before) entry.request))
        → IsTrue (list_any test (cond b (first ∷ own (later ++ entry ∷ before) entry.request) (own (later ++ entry ∷ before) entry.request)))
    at true rest = or_right (test first) _ rest
    at false rest = rest

none_there : (test : Entry → Bool) (entries : List Entry) → IsTrue (length entries == 0) → IsTrue (list_any test entries) → ⊥
none_there test [] empty some = false≢true some
none_there test (entry ∷ entries) empty some = omega (arith, number_same (length (entry ∷ entries)) 0 empty)

-- the caller's beginning is one
caller_began : (caller : ℕ) (entries : List Entry) → IsTrue (list_any (λ e. begins e.call && e.caller == caller) entries) → IsTrue (list_any (λ e. begins e.call) entries)
caller_began caller [] found = absurd (false≢true found)
caller_began caller (entry ∷ entries) found = by (begins entry.call) found (caller_began caller entries)
  where
    by : (b : Bool) → IsTrue (b && entry.caller == caller || list_any (λ e. begins e.call && e.caller == caller) entries)
        → (IsTrue (list_any (λ e. begins e.call && e.caller == caller) entries) → IsTrue (list_any (λ e. begins e.call) entries)) → IsTrue (b || list_any (λ e. begins e.call) entries)
    by true is rest = refl
    by false is rest = rest is

-- ENDS

pub end_is : (call : Call) → IsTrue (ends call) → call ≡ End
end_is End is = refl
end_is call is = absurd (false≢true is)

module _ (roster : Roster) (names : Tables) where
  -- after its end a request has no entry
  pub not_after : (past : List Entry) (entry : Entry) → IsStep roster names past entry → IsTrue (has_ended past entry.request) → ⊥
  not_after past entry step ended = at (begins entry.call) (and_left _ _ step.0)
    where
      at : (b : Bool) → IsTrue (cond b (no_entry past entry.request) (is_open past entry.caller entry.request)) → ⊥
      at true empty = none_there (λ e. ends e.call) (own past entry.request) empty ended
      at false is = false≢true (sym (is_not (has_ended past entry.request) (and_right _ _ (and_left _ _ is))) ∙ ended)

  -- of a request that has an entry the beginning stands there
  pub begun : (past : List Entry) → IsLegalPast roster names past → (r : ℕ) (test : Entry → Bool) → IsTrue (list_any test (own past r)) → IsTrue (has_begun past r)
  begun [] legal r test some = absurd (false≢true some)
  begun (entry ∷ past) legal r test some = at (entry.request == r) refl some (begun past legal.0 r test)
    where
      opened : (b : Bool) → IsTrue (cond b (no_entry past entry.request) (is_open past entry.caller entry.request)) → IsTrue (b || has_begun past entry.request)
      opened true is = refl
      opened false is = caller_began entry.caller (own past entry.request) (and_left _ _ (and_left _ _ is))

      at : (b : Bool) → (entry.request == r) ≡ b → IsTrue (list_any test (cond b (entry ∷ own past r) (own past r))) → (IsTrue (list_any test (own past r)) → IsTrue (has_begun past r))
          → IsTrue (list_any (λ e. begins e.call) (cond b (entry ∷ own past r) (own past r)))
      at true same found before = subst (λ n. IsTrue (begins entry.call || has_begun past n)) (number_same entry.request r same) (opened (begins entry.call) (and_left _ _ legal.1.0))
      at false other found before = before found

  -- who ends doesn't wait
  pub ends_idle : (past : List Entry) (entry : Entry) → IsStep roster names past entry → IsTrue (ends entry.call) → waits past entry.request ≡ false
  ends_idle past entry step is =
      is_not (waits past entry.request) (subst (λ call. IsTrue (allowed_call roster names past entry.request call)) (end_is entry.call is) (and_right _ _ step.0))

  -- the reply to an end leads nothing and follows nothing
  pub end_replies : (past : List Entry) (entry : Entry) → IsStep roster names past entry → IsTrue (ends entry.call) → entry.reply ≡ Ended
  end_replies past entry step is = step.1 ∙ ap (answer roster names past entry.request) (end_is entry.call is)

  -- the prompts of a request that has ended are settled
  pub settled_at_end : (past : List Entry) → IsLegalPast roster names past → (r p : ℕ) → IsTrue (has_ended past r)
      → IsTrue (list_any (λ e. is_lead e.reply && prompt_led e.reply == p) (own past r)) → IsTrue (settled past p)
  settled_at_end [] legal r p ended led = absurd (false≢true led)
  settled_at_end (entry ∷ past) legal r p ended led = or_right (settles entry.call p) (settled past p) (at (entry.request == r) refl ended led (settled_at_end past legal.0 r p))
    where
      there : (b : Bool) → ends entry.call ≡ b → IsTrue (b || has_ended past entry.request)
          → IsTrue (is_lead entry.reply && prompt_led entry.reply == p || list_any (λ e. is_lead e.reply && prompt_led e.reply == p) (own past entry.request)) → IsTrue (settled past p)
      there true is found led' =
          has_all (λ e. is_lead e.reply) (λ e. prompt_led e.reply) (settled past) p (own past entry.request)
          (neither _ _ (ends_idle past entry legal.1 is)).0
          (subst (λ reply. IsTrue (is_lead reply && prompt_led reply == p || list_any (λ e. is_lead e.reply && prompt_led e.reply == p) (own past entry.request))) (end_replies past entry legal.1 is) led')
      there false is found led' = absurd (not_after past entry legal.1 found)

      at : (b : Bool) → (entry.request == r) ≡ b → IsTrue (list_any (λ e. ends e.call) (cond b (entry ∷ own past r) (own past r)))
          → IsTrue (list_any (λ e. is_lead e.reply && prompt_led e.reply == p) (cond b (entry ∷ own past r) (own past r)))
          → (IsTrue (has_ended past r) → IsTrue (list_any (λ e. is_lead e.reply && prompt_led e.reply == p) (own past r)) → IsTrue (settled past p)) → IsTrue (settled past p)
      at true same ended' led' before =
          let is = sym (number_same entry.request r same) in
          there (ends entry.call) refl (subst (λ n. IsTrue (ends entry.call || has_ended past n)) is ended')
          (subst (λ n. IsTrue (is_lead entry.reply && prompt_led entry.reply == p || list_any (λ e. is_lead e.reply && prompt_led e.reply == p) (own past n))) is led')
      at false other ended' led' before = before ended' led'

  counts_one : (test : Entry → Bool) (past : List Entry) → count_by test past ≤ 1 → IsTrue (list_any test past) → count_by test past ≡ 1
  counts_one test [] few some = absurd (false≢true some)
  counts_one test (entry ∷ past) few some = at (test entry) refl some (λ rest more. counts_one test past rest more)
    where
      at : (b : Bool) → test entry ≡ b → IsTrue (b || list_any test past) → (count_by test past ≤ 1 → IsTrue (list_any test past) → count_by test past ≡ 1) → count_by test (entry ∷ past) ≡ 1
      at true is found rest =
          omega (arith, sum_by-cons (λ e. cond (test e) 1 0) entry past, ap (λ b. cond {A = ℕ} b 1 0) is, few)
      at false is found rest =
          let counted = sum_by-cons (λ e. cond (test e) 1 0) entry past in
          let none = ap (λ b. cond {A = ℕ} b 1 0) is in
          omega (arith, counted, none, rest (omega (arith, counted, none, few)) found)

  pub all_settled : (past : List Entry) → IsLegalPast roster names past → HaveAllEnded past → AreAllSettled past
  all_settled past legal ended later lead before split led =
      let p = prompt_led lead.reply in
      let there : IsTrue (list_any (λ e. is_lead e.reply && prompt_led e.reply == p) (own past lead.request)) =
      subst (λ entries. IsTrue (list_any (λ e. is_lead e.reply && prompt_led e.reply == p) (own entries lead.request))) (sym split)
      (in_own (λ e. is_lead e.reply && prompt_led e.reply == p) later lead before (both (is_lead lead.reply) (p == p) led (number_refl p))) in
      let done = ended lead.request (begun past legal lead.request (λ e. is_lead e.reply && prompt_led e.reply == p) there) in
      counts_one (λ e. settles e.call p) past (settled_once roster names past legal p) (settled_at_end past legal lead.request p done there)
