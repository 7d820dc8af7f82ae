-- The prompts of a legal past: which are open, what their numbers are, and when they end.
use Rattle.std.proofs.Common.{◌≡◌, ℕ, ◌+◌, ◌<◌, ◌≤◌, Bool, true, false, not, ◌&&◌, ◌||◌, ◌==◌, cond, List, [], ◌∷◌, length, refl, ap, sym, subst, ◌∙◌, arith, Option, Some, None, zero-add}
use Rattle.std.specs.Prelude.{IsTrue, is_some, find, filter, map, option_map, unwrap_or, nat_le}
use Rattle.std.proofs.lemmas.Bool.{false≢true, eqb-true}
use Rattle.std.proofs.lemmas.List.{length-map}
use Rattle.std.proofs.lemmas.List.Sums.{sum_by-cons, length-filter}
use Rattle.spaces.specs.declared.roster.Roster.{Roster}
use Rattle.auth_events.specs.declared.journal.Gift.{Gift}
use Rattle.auth_events.specs.declared.journal.Loss.{Loss}
use Rattle.auth_events.specs.declared.journal.Entry.{Entry}
use Rattle.auth_events.specs.declared.journal.Call.{Call}
use Rattle.auth_events.specs.declared.journal.Call.TheVariants.{Answer, Lose}
use Rattle.auth_events.specs.declared.journal.BookReply.{BookReply}
use Rattle.auth_events.specs.declared.journal.BookReply.TheVariants.{Lead, Given, Cancelled, Lost, Pending}
use Rattle.auth_events.specs.Tables.{Tables}
use Rattle.auth_events.specs.Past.{is_lead, prompt_led, selects, settles, settled, lead, open_lead, leads, leads_of, taken_from, end}
use Rattle.auth_events.specs.Book.{Choice, IsStep, IsLegalPast, allowed_call, answer, begins, no_entry, is_open, is_led_by, is_rival, first_choice, select_answer, terms_selected, choice}
use Rattle.auth_events.specs.Book.Choice.{ByUrl, ByCache, ByDefault, ByFollowing, ByLeading}
use Rattle.auth_events.proofs.Numbers.{and_left, and_right, some_of_test}
use Rattle.prompt_queue.specs.Prompts.{is_pending, is_open_in, open_prompt, led_in, prompt_of, joined, joined_to}
use Rattle.prompt_queue.specs.Histories.{reply_joined, taken_by, prompt_in, prompts_of}
use Rattle.prompt_queue.proofs.CallLemmas.{only_select, only_settles, selects_led}

abbrev pub leading : Entry → Bool
leading entry = is_lead entry.reply

-- ENDS

pub end_open : (past : List Entry) (p : ℕ) → settled past p ≡ false → end past p ≡ Pending
end_open [] p still = refl
end_open (entry ∷ past) p still = here (settles entry.call p) still (end_open past p)
  where
    here : (b : Bool) → (b || settled past p) ≡ false → (settled past p ≡ false → end past p ≡ Pending) → unwrap_or (option_map (λ e. taken_from e.reply) (cond b (Some entry) (find (λ e. settles e.call p) past))) Pending ≡ Pending
    here true still next = absurd (false≢true (sym still))
    here false still next = next still

open_tells : (roster : Roster) (names : Tables) (past : List Entry) (p : ℕ) → IsLegalPast roster names past → is_pending (taken_by (end past p)) ≡ not (settled past p)
open_tells roster names [] p legal = refl
open_tells roster names (entry ∷ past) p legal = here (settles entry.call p) refl (open_tells roster names past p legal.0)
  where
    here : (b : Bool) → settles entry.call p ≡ b → is_pending (taken_by (end past p)) ≡ not (settled past p) → is_pending (taken_by (unwrap_or (option_map (λ e. taken_from e.reply) (cond b (Some entry) (find (λ e. settles e.call p) past))) Pending)) ≡ not (b || settled past p)
    here true is next =
        only_settles (λ _ reply. is_pending (taken_by (taken_from reply)) ≡ false) (λ _ _ _ _ _. refl) (λ _ _ _. refl) (λ _ _ _. refl) entry.call entry.reply p legal.1.2 is
    here false is next = next

-- WHAT IS LED

moves : {A B : Type 0} (f : A → B) (b : Bool) (x : A) (o : Option A) → cond b (Some (f x)) (option_map f o) ≡ option_map f (cond b (Some x) o)
moves f true x o = refl
moves f false x o = refl

open_found : (past : List Entry) → ((p : ℕ) → is_pending (taken_by (end past p)) ≡ not (settled past p)) → (roster : Roster) (names : Tables) (entries : List Entry) (s : ℕ) → IsLegalPast roster names entries → open_prompt (map (prompt_in past) (filter leading entries)) s ≡ option_map (prompt_in past) (find (λ entry. is_lead entry.reply && selects entry.call s && not (settled past (prompt_led entry.reply))) entries)
open_found past tells roster names [] s legal = refl
open_found past tells roster names (entry ∷ entries) s legal = here (is_lead entry.reply) refl (open_found past tells roster names entries s legal.0)
  where
    here : (b : Bool) → is_lead entry.reply ≡ b → open_prompt (map (prompt_in past) (filter leading entries)) s ≡ option_map (prompt_in past) (find (λ e. is_lead e.reply && selects e.call s && not (settled past (prompt_led e.reply))) entries) → open_prompt (map (prompt_in past) (cond b (entry ∷ filter leading entries) (filter leading entries))) s ≡ option_map (prompt_in past) (cond (b && selects entry.call s && not (settled past (prompt_led entry.reply))) (Some entry) (find (λ e. is_lead e.reply && selects e.call s && not (settled past (prompt_led e.reply))) entries))
    here true led next =
        let mine = prompt_in past entry in
        let same : is_open_in s mine ≡ (selects entry.call s && not (settled past (prompt_led entry.reply))) =
        ap (λ t. t && is_pending (taken_by (end past (prompt_led entry.reply)))) (sym (selects_led entry.call entry.reply s legal.1.2 led)) ∙ ap (λ t. selects entry.call s && t) (tells (prompt_led entry.reply)) in
        ap (λ t. cond t (Some mine) (open_prompt (map (prompt_in past) (filter leading entries)) s)) same
        ∙ (ap (λ o. cond (selects entry.call s && not (settled past (prompt_led entry.reply))) (Some mine) o) next
        ∙ moves (prompt_in past) (selects entry.call s && not (settled past (prompt_led entry.reply))) entry _)
    here false led next = next

led_counts : (past : List Entry) (roster : Roster) (names : Tables) (entries : List Entry) (s : ℕ) → IsLegalPast roster names entries → led_in (map (prompt_in past) (filter leading entries)) s ≡ leads_of entries s
led_counts past roster names [] s legal = refl
led_counts past roster names (entry ∷ entries) s legal =
    here (is_lead entry.reply) refl (led_counts past roster names entries s legal.0) ∙ sym (sum_by-cons (λ e. cond (is_lead e.reply && selects e.call s) 1 0) entry entries)
  where
    here : (b : Bool) → is_lead entry.reply ≡ b → led_in (map (prompt_in past) (filter leading entries)) s ≡ leads_of entries s → led_in (map (prompt_in past) (cond b (entry ∷ filter leading entries) (filter leading entries))) s ≡ cond (b && selects entry.call s) 1 0 + leads_of entries s
    here true led next =
        sum_by-cons (λ prompt. cond (prompt.space == s) 1 0) (prompt_in past entry) (map (prompt_in past) (filter leading entries))
        ∙ (ap (λ t. cond t 1 0 + led_in (map (prompt_in past) (filter leading entries)) s) (sym (selects_led entry.call entry.reply s legal.1.2 led))
        ∙ ap (λ n. cond (selects entry.call s) 1 0 + n) next)
    here false led next = next ∙ sym (zero-add (leads_of entries s))

pub prompt_found : (past entries : List Entry) (p : ℕ) → prompt_of (map (prompt_in past) (filter leading entries)) p ≡ option_map (prompt_in past) (lead entries p)
prompt_found past [] p = refl
prompt_found past (entry ∷ entries) p = here (is_lead entry.reply) (prompt_found past entries p)
  where
    here : (b : Bool) → prompt_of (map (prompt_in past) (filter leading entries)) p ≡ option_map (prompt_in past) (lead entries p) → prompt_of (map (prompt_in past) (cond b (entry ∷ filter leading entries) (filter leading entries))) p ≡ option_map (prompt_in past) (cond (b && prompt_led entry.reply == p) (Some entry) (lead entries p))
    here true next =
        ap (λ o. cond (prompt_led entry.reply == p) (Some (prompt_in past entry)) o) next ∙ moves (prompt_in past) (prompt_led entry.reply == p) entry (lead entries p)
    here false next = next

joined_again : (is_rival : ℕ → Bool) (past : List Entry) (s : ℕ) (led : Option Entry) → reply_joined (joined_to (option_map (prompt_in past) led) (leads past) (leads_of past s)) ≡ select_answer is_rival past s (first_choice false None false led)
joined_again is_rival past s None = refl
joined_again is_rival past s (Some entry) = refl

pub joins : (roster : Roster) (names : Tables) (past : List Entry) → IsLegalPast roster names past → (is_rival : ℕ → Bool) (s : ℕ) → reply_joined (joined (prompts_of past) s) ≡ select_answer is_rival past s (first_choice false None false (open_lead past s))
joins roster names past legal is_rival s =
    let found = open_found past (λ p. open_tells roster names past p legal) roster names past s legal in
    let counted : length (prompts_of past) ≡ leads past = length-map (filter leading past) (prompt_in past) ∙ length-filter leading past in
    ap (λ o. reply_joined (joined_to o (length (prompts_of past)) (led_in (prompts_of past) s))) found
    ∙ (ap (λ n. reply_joined (joined_to (option_map (prompt_in past) (open_lead past s)) n (led_in (prompts_of past) s))) counted
    ∙ (ap (λ n. reply_joined (joined_to (option_map (prompt_in past) (open_lead past s)) (leads past) n)) (led_counts past roster names past s legal)
    ∙ joined_again is_rival past s (open_lead past s)))

-- NUMBERS OF PROMPTS

led_next : (is_rival : ℕ → Bool) (past : List Entry) (s : ℕ) (how : Choice) (reply : BookReply) → reply ≡ select_answer is_rival past s how → is_lead reply ≡ true → prompt_led reply ≡ leads past + 1
led_next is_rival past s ByUrl reply is led = absurd (false≢true (ap is_lead (sym is) ∙ led))
led_next is_rival past s (ByCache gift) reply is led = absurd (false≢true (ap is_lead (sym is) ∙ led))
led_next is_rival past s ByDefault reply is led = absurd (false≢true (ap is_lead (sym is) ∙ led))
led_next is_rival past s (ByFollowing p) reply is led = absurd (false≢true (ap is_lead (sym is) ∙ led))
led_next is_rival past s ByLeading reply is led = ap prompt_led is

pub lead_number : (roster : Roster) (names : Tables) (past : List Entry) (entry : Entry) → IsStep roster names past entry → is_lead entry.reply ≡ true → prompt_led entry.reply ≡ leads past + 1
lead_number roster names past entry step led =
    only_select (λ call reply. reply ≡ answer roster names past entry.request call → prompt_led reply ≡ leads past + 1) (λ s t p o is. led_next (is_rival names s) past s (choice roster names past entry.request s) (Lead p o) is refl) entry.call entry.reply step.2 led step.1

pub leads-cons : (entry : Entry) (past : List Entry) → leads (entry ∷ past) ≡ cond (is_lead entry.reply) 1 0 + leads past
leads-cons entry past = sum_by-cons (λ e. cond (is_lead e.reply) 1 0) entry past

-- the prompts that were led have the numbers up to that of the latest
pub led_within : (roster : Roster) (names : Tables) (past : List Entry) (p : ℕ) → IsLegalPast roster names past → IsTrue (is_some (lead past p)) → p ≤ leads past
led_within roster names [] p legal led = absurd (false≢true led)
led_within roster names (entry ∷ past) p legal led =
    subst (λ n. p ≤ n) (sym (leads-cons entry past)) (here (is_lead entry.reply) refl led (λ more. led_within roster names past p legal.0 more))
  where
    at : (c : Bool) → is_lead entry.reply ≡ true → (prompt_led entry.reply == p) ≡ c → IsTrue (is_some (cond c (Some entry) (lead past p))) → (IsTrue (is_some (lead past p)) → p ≤ leads past) → p ≤ 1 + leads past
    at true is same led next =
        omega (arith, eqb-true (prompt_led entry.reply) p same, lead_number roster names past entry legal.1 is)
    at false is same led next = omega (arith, next led)

    here : (b : Bool) → is_lead entry.reply ≡ b → IsTrue (is_some (cond (b && prompt_led entry.reply == p) (Some entry) (lead past p))) → (IsTrue (is_some (lead past p)) → p ≤ leads past) → p ≤ cond b 1 0 + leads past
    here true is led next = at (prompt_led entry.reply == p) is refl led next
    here false is led next = omega (arith, next led)

-- WHAT IS SETTLED

-- who settles a prompt leads it, and it wasn't settled before
pub record MaySettle (past : List Entry) (r p : ℕ) : Type 0 where
  pub by : IsTrue (is_led_by past r p)
  pub led : IsTrue (is_some (lead past p))
  pub still : settled past p ≡ false

pub not_true : (b : Bool) → IsTrue (not b) → b ≡ false
not_true true is = absurd (false≢true is)
not_true false is = refl

pub settles_led : (past : List Entry) (r p : ℕ) → IsTrue (is_led_by past r p && not (settled past p)) → MaySettle past r p
settles_led past r p may = record {
  by = and_left (is_led_by past r p) (not (settled past p)) may;
  led = some_of_test (λ entry. entry.request == r) (lead past p) (and_left (is_led_by past r p) (not (settled past p)) may);
  still = not_true (settled past p) (and_right (is_led_by past r p) (not (settled past p)) may);
}

pub may_settle : (roster : Roster) (names : Tables) (past : List Entry) (entry : Entry) (p : ℕ) → IsStep roster names past entry → settles entry.call p ≡ true → MaySettle past entry.request p
may_settle roster names past entry p step is =
    only_settles P by_answer by_cancel by_loss entry.call entry.reply p step.2 is is
    (and_right (cond (begins entry.call) (no_entry past entry.request) (is_open past entry.caller entry.request)) (allowed_call roster names past entry.request entry.call) step.0)
  where
    P : Call → BookReply → Type 0
    P call reply = settles call p ≡ true → IsTrue (allowed_call roster names past entry.request call) → MaySettle past entry.request p

    settle : (q x t : ℕ) → (q == p) ≡ true → IsTrue (allowed_call roster names past entry.request (Answer q x t)) → MaySettle past entry.request p
    settle q x t same may =
        subst (λ n. MaySettle past entry.request n) (eqb-true q p same) (settles_led past entry.request q (and_left _ (nat_le x (length names.texts)) (and_left _ (unwrap_or (option_map (λ (e : Entry). terms_selected e.call == t) (lead past q)) false) may)))

    by_answer : (q x t : ℕ) (gift : Gift) (evicted : ℕ) → P (Answer q x t) (Given gift evicted)
    by_answer q x t gift evicted same may = settle q x t same may

    by_cancel : (q x t : ℕ) → P (Answer q x t) Cancelled
    by_cancel q x t same may = settle q x t same may

    by_loss : (q : ℕ) (loss told : Loss) → P (Lose q loss) (Lost told)
    by_loss q loss told same may = subst (λ n. MaySettle past entry.request n) (eqb-true q p same) (settles_led past entry.request q may)

-- a prompt that wasn't led isn't settled
pub unled_open : (roster : Roster) (names : Tables) (past : List Entry) (p : ℕ) → IsLegalPast roster names past → leads past < p → settled past p ≡ false
unled_open roster names [] p legal more = refl
unled_open roster names (entry ∷ past) p legal more =
    here (settles entry.call p) refl (unled_open roster names past p legal.0 (omega (arith, leads-cons entry past)))
  where
    here : (b : Bool) → settles entry.call p ≡ b → settled past p ≡ false → (b || settled past p) ≡ false
    here true is next =
        let may : MaySettle past entry.request p = may_settle roster names past entry p legal.1 is in
        absurd (omega (arith, led_within roster names past p legal.0 may.led, leads-cons entry past))
    here false is next = next
