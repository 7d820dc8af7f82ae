-- A queue that is told the entries of a legal past has its prompts, and answers as the book replies.
use Rattle.std.proofs.Common.{◌≡◌, ℕ, ◌≤◌, Bool, true, false, not, ◌&&◌, ◌||◌, ◌==◌, cond, List, [], ◌∷◌, length, refl, ap, sym, subst, ◌∙◌, arith, Option, Some, None}
use Rattle.std.specs.Prelude.{IsTrue, is_some, find, filter, map, option_map, unwrap_or, nat_le}
use Rattle.std.specs.List.{list_any}
use Rattle.std.proofs.lemmas.Bool.{false≢true, eqb-true, ne_eqb, eq-eqb}
use Rattle.std.proofs.lemmas.Bool.Decides.{nat_tests}
use Rattle.spaces.specs.declared.roster.Roster.{Roster}
use Rattle.auth_events.specs.declared.journal.Gift.{Gift}
use Rattle.auth_events.specs.declared.journal.Loss.{Loss}
use Rattle.auth_events.specs.declared.journal.Entry.{Entry}
use Rattle.auth_events.specs.declared.journal.Call.{Call}
use Rattle.auth_events.specs.declared.journal.Call.TheVariants.{Begin, Preempt, Select, Reject, Renew, Answer, Lose, Take, Note, End, Draw}
use Rattle.auth_events.specs.declared.journal.BookReply.{BookReply}
use Rattle.auth_events.specs.declared.journal.BookReply.TheVariants.{Lead, Follow, Given, Cancelled, Lost, Pending, Gave}
use Rattle.auth_events.specs.Tables.{Tables}
use Rattle.auth_events.specs.Pages.{fits}
use Rattle.auth_events.specs.Past.{is_lead, prompt_led, prompt_followed, selects, settles, settled, current, lead, open_lead, taken_from, end}
use Rattle.auth_events.specs.Book.{IsLegalPast, allowed_call, answer, own, is_rival, first_choice, select_answer, next_gift, space_selected, space_of_prompt, terms_selected, takes}
use Rattle.auth_events.proofs.Numbers.{and_left, and_right}
use Rattle.prompt_queue.specs.declared.queue.Prompt.{Prompt}
use Rattle.prompt_queue.specs.declared.queue.PromptTake.{PromptTake}
use Rattle.prompt_queue.specs.declared.queue.PromptTake.TheVariants.{Pending as IsPending, Gave as HasGiven, Cancelled as IsCancelled, Lost as IsLost}
use Rattle.prompt_queue.specs.Prompts.{prompt_of, ending_of, answered, ended, with_ending}
use Rattle.prompt_queue.specs.Histories.{reply_taken, taken_by, prompt_in, prompts_of, prompts_after, MayBeTold}
use Rattle.prompt_queue.proofs.CallLemmas.{only_settles, follow_select}
use Rattle.prompt_queue.proofs.Prompting.{leading, end_open, prompt_found, lead_number, MaySettle, settles_led, unled_open, not_true}

-- WHAT IS TAKEN

space_still : (past : List Entry) (entry : Entry) (p : ℕ) → is_lead entry.reply ≡ false → space_of_prompt (entry ∷ past) p ≡ space_of_prompt past p
space_still past entry p other =
    ap (λ b. unwrap_or (option_map (λ e. space_selected e.call) (cond (b && prompt_led entry.reply == p) (Some entry) (lead past p))) 0) other

same_reply_gift : (gift other : Gift) → Gave gift ≡ Gave other → gift ≡ other
same_reply_gift gift other same = cc

given_space : (b : Bool) (past : List Entry) (s evicted gone : ℕ) (gift : Gift) → Given gift gone ≡ cond b Cancelled (Given (next_gift past s) evicted) → gift ≡ next_gift past s
given_space true past s evicted gone gift is = absurd cc
given_space false past s evicted gone gift is = cc

-- a prompt's gift is one of its space
gives_in_space : (roster : Roster) (names : Tables) (past : List Entry) (p : ℕ) (gift : Gift) → IsLegalPast roster names past → end past p ≡ Gave gift → gift.space ≡ space_of_prompt past p
gives_in_space roster names [] p gift legal given = absurd cc
gives_in_space roster names (entry ∷ past) p gift legal given =
    here (settles entry.call p) refl given (λ more. gives_in_space roster names past p gift legal.0 more)
  where
    P : Call → BookReply → Type 0
    P call reply = settles call p ≡ true → taken_from reply ≡ Gave gift → reply ≡ answer roster names past entry.request call → (gift.space ≡ space_of_prompt past p) × (is_lead reply ≡ false)

    by_answer : (q x t : ℕ) (told : Gift) (evicted : ℕ) → P (Answer q x t) (Given told evicted)
    by_answer q x t told evicted same given is =
        let mine : told ≡ gift = same_reply_gift told gift given in
        let next : told ≡ next_gift past (space_of_prompt past q) = given_space (x == 0) past (space_of_prompt past q) _ evicted told is in
        (ap (λ (g : Gift). g.space) (sym mine ∙ next) ∙ ap (λ n. space_of_prompt past n) (eqb-true q p same), refl)

    by_cancel : (q x t : ℕ) → P (Answer q x t) Cancelled
    by_cancel q x t same given is = absurd cc

    by_loss : (q : ℕ) (loss told : Loss) → P (Lose q loss) (Lost told)
    by_loss q loss told same given is = absurd cc

    unled : is_lead entry.reply ≡ true → (prompt_led entry.reply == p) ≡ true → end past p ≡ Pending
    unled led same =
        end_open past p (unled_open roster names past p legal.0 (omega (arith, eqb-true (prompt_led entry.reply) p same, lead_number roster names past entry legal.1 led)))

    other_space : (b c : Bool) → is_lead entry.reply ≡ b → (prompt_led entry.reply == p) ≡ c → end past p ≡ Gave gift → space_of_prompt past p ≡ unwrap_or (option_map (λ e. space_selected e.call) (cond (b && c) (Some entry) (lead past p))) 0
    other_space true true led same given = let none = unled led same in absurd cc
    other_space true false led same given = refl
    other_space false c led same given = refl

    here : (b : Bool) → settles entry.call p ≡ b → unwrap_or (option_map (λ e. taken_from e.reply) (cond b (Some entry) (find (λ e. settles e.call p) past))) Pending ≡ Gave gift → (end past p ≡ Gave gift → gift.space ≡ space_of_prompt past p) → gift.space ≡ space_of_prompt (entry ∷ past) p
    here true is given next =
        let settled_by = only_settles P by_answer by_cancel by_loss entry.call entry.reply p legal.1.2 is is given legal.1.1 in
        settled_by.0 ∙ sym (space_still past entry p settled_by.1)
    here false is given next = next given ∙ other_space (is_lead entry.reply) (prompt_led entry.reply == p) refl refl given

told_back : (roster : Roster) (names : Tables) (past : List Entry) (p s : ℕ) → IsLegalPast roster names past → ((gift : Gift) → end past p ≡ Gave gift → gift.space ≡ s) → reply_taken s (taken_by (end past p)) ≡ end past p
told_back roster names [] p s legal in_space = refl
told_back roster names (entry ∷ past) p s legal in_space =
    here (settles entry.call p) refl in_space (λ more. told_back roster names past p s legal.0 more)
  where
    P : Call → BookReply → Type 0
    P _ reply = ((gift : Gift) → taken_from reply ≡ Gave gift → gift.space ≡ s) → reply_taken s (taken_by (taken_from reply)) ≡ taken_from reply

    here : (b : Bool) → settles entry.call p ≡ b → ((gift : Gift) → unwrap_or (option_map (λ e. taken_from e.reply) (cond b (Some entry) (find (λ e. settles e.call p) past))) Pending ≡ Gave gift → gift.space ≡ s) → (((gift : Gift) → end past p ≡ Gave gift → gift.space ≡ s) → reply_taken s (taken_by (end past p)) ≡ end past p) → reply_taken s (taken_by (unwrap_or (option_map (λ e. taken_from e.reply) (cond b (Some entry) (find (λ e. settles e.call p) past))) Pending)) ≡ unwrap_or (option_map (λ e. taken_from e.reply) (cond b (Some entry) (find (λ e. settles e.call p) past))) Pending
    here true is in_space next =
        only_settles P (λ q x t gift evicted given. ap (λ n. Gave (record { space = n; ordinal = gift.ordinal })) (sym (given gift refl))) (λ q x t given. refl) (λ q loss told given. refl) entry.call entry.reply p legal.1.2 is in_space
    here false is in_space next = next in_space

led_by_number : (past : List Entry) (p : ℕ) (entry : Entry) → lead past p ≡ Some entry → prompt_led entry.reply ≡ p
led_by_number [] p entry found = absurd cc
led_by_number (first ∷ past) p entry found =
    here (is_lead first.reply) (prompt_led first.reply == p) refl found (λ more. led_by_number past p entry more)
  where
    here : (b c : Bool) → (prompt_led first.reply == p) ≡ c → cond (b && c) (Some first) (lead past p) ≡ Some entry → (lead past p ≡ Some entry → prompt_led entry.reply ≡ p) → prompt_led entry.reply ≡ p
    here true true same found next =
        let mine : first ≡ entry = cc in
        ap (λ (e : Entry). prompt_led e.reply) (sym mine) ∙ eqb-true (prompt_led first.reply) p same
    here true false same found next = next found
    here false c same found next = next found

-- the ending that the queue keeps of a prompt that was led
pub ending_led : (past : List Entry) (p : ℕ) → IsTrue (is_some (lead past p)) → ending_of (prompts_of past) p ≡ Some (taken_by (end past p))
ending_led past p led = ap (λ o. option_map (λ prompt. prompt.ending) o) (prompt_found past past p) ∙ here (lead past p) refl led
  where
    here : (o : Option Entry) → lead past p ≡ o → IsTrue (is_some o) → option_map (λ prompt. prompt.ending) (option_map (prompt_in past) o) ≡ Some (taken_by (end past p))
    here None found led = absurd (false≢true led)
    here (Some entry) found led = ap (λ n. Some (taken_by (end past n))) (led_by_number past p entry found)

pub takes_end : (roster : Roster) (names : Tables) (past : List Entry) → IsLegalPast roster names past → (p : ℕ) → IsTrue (is_some (lead past p)) → option_map (reply_taken (space_of_prompt past p)) (ending_of (prompts_of past) p) ≡ Some (end past p)
takes_end roster names past legal p led =
    ap (λ o. option_map (reply_taken (space_of_prompt past p)) o) (ending_led past p led)
    ∙ ap (λ reply. Some reply) (told_back roster names past p (space_of_prompt past p) legal (λ gift given. gives_in_space roster names past p gift legal given))

-- WHAT IS KEPT

same_loss : (told loss : Loss) → Lost told ≡ Lost loss → told ≡ loss
same_loss told loss same = cc

pub same_test : (a b : ℕ) → (a == b) ≡ (b == a)
same_test a b = grind (arith, nat_tests)

-- an entry that settles a prompt
written : (past : List Entry) (entry : Entry) (p : ℕ) (outcome : PromptTake) → ((n : ℕ) → settles entry.call n ≡ (p == n)) → taken_by (taken_from entry.reply) ≡ outcome → (entries : List Entry) → map (prompt_in (entry ∷ past)) entries ≡ with_ending (map (prompt_in past) entries) p outcome
written past entry p outcome by_number is [] = refl
written past entry p outcome by_number is (first ∷ entries) =
    ap (λ xs. prompt_in (entry ∷ past) first ∷ xs) (written past entry p outcome by_number is entries)
    ∙ ap (λ prompt. prompt ∷ with_ending (map (prompt_in past) entries) p outcome) (one (by_number (prompt_led first.reply) ∙ same_test p (prompt_led first.reply)))
  where
    here : (b : Bool) → ◌≡◌ {A = Prompt} (record { number = prompt_led first.reply; space = space_selected first.call; request = first.request; ending = taken_by (unwrap_or (option_map (λ e. taken_from e.reply) (cond b (Some entry) (find (λ e. settles e.call (prompt_led first.reply)) past))) Pending) }) (cond b (record (prompt_in past first) { ending = outcome }) (prompt_in past first))
    here true = ap (λ taken. record (prompt_in past first) { ending = taken }) is
    here false = refl

    one : settles entry.call (prompt_led first.reply) ≡ (prompt_led first.reply == p) → prompt_in (entry ∷ past) first ≡ ended p outcome (prompt_in past first)
    one same = here (settles entry.call (prompt_led first.reply)) ∙ ap (λ b. cond b (record (prompt_in past first) { ending = outcome }) (prompt_in past first)) same

ordinal_given : (past : List Entry) (s : ℕ) (gift : Gift) → gift ≡ next_gift past s → HasGiven gift.ordinal ≡ answered gift.ordinal
ordinal_given past s gift is =
    let positive : 1 ≤ gift.ordinal = subst (λ (g : Gift). 1 ≤ g.ordinal) (sym is) (omega arith) in
    ap (λ b. cond b IsCancelled (HasGiven gift.ordinal)) (sym (ne_eqb gift.ordinal 0 (λ zero_it. omega arith)))

abbrev entry_of : ℕ → ℕ → Call → BookReply → Entry
entry_of caller r call reply = record { caller = caller; request = r; call = call; reply = reply }

keeps_led : (roster : Roster) (names : Tables) (past : List Entry) (caller r s t p o : ℕ) → IsLegalPast roster names (entry_of caller r (Select s t) (Lead p o) ∷ past) → prompts_of (entry_of caller r (Select s t) (Lead p o) ∷ past) ≡ prompts_after r (Select s t) (Lead p o) (prompts_of past)
keeps_led roster names past caller r s t p o legal =
    let number = lead_number roster names past (entry_of caller r (Select s t) (Lead p o)) legal.1 refl in
    let none : end past p ≡ Pending = end_open past p (unled_open roster names past p legal.0 (omega (arith, number))) in
    ap (λ reply. record { number = p; space = s; request = r; ending = taken_by reply } ∷ prompts_of past) none

keeps_call : (roster : Roster) (names : Tables) (past : List Entry) (caller r : ℕ) (call : Call) (reply : BookReply) → IsLegalPast roster names (entry_of caller r call reply ∷ past) → IsTrue (fits call reply) → prompts_of (entry_of caller r call reply ∷ past) ≡ prompts_after r call reply (prompts_of past)
keeps_call roster names past caller r (Select s t) (Lead p o) legal fit = keeps_led roster names past caller r s t p o legal
keeps_call roster names past caller r (Select s t) reply legal fit = refl
keeps_call roster names past caller r (Answer p x t) (Given gift evicted) legal fit =
    let next : gift ≡ next_gift past (space_of_prompt past p) = given_space (x == 0) past (space_of_prompt past p) _ evicted gift legal.1.1 in
    written past (entry_of caller r (Answer p x t) (Given gift evicted)) p (answered gift.ordinal) (λ n. refl) (ordinal_given past (space_of_prompt past p) gift next) (filter leading past)
keeps_call roster names past caller r (Answer p x t) Cancelled legal fit =
    written past (entry_of caller r (Answer p x t) Cancelled) p (answered 0) (λ n. refl) refl (filter leading past)
keeps_call roster names past caller r (Answer p x t) reply legal fit = absurd (false≢true fit)
keeps_call roster names past caller r (Lose p loss) (Lost told) legal fit =
    let same : told ≡ loss = same_loss told loss legal.1.1 in
    written past (entry_of caller r (Lose p loss) (Lost told)) p (IsLost loss) (λ n. refl) (ap (λ l. IsLost l) same) (filter leading past)
keeps_call roster names past caller r (Lose p loss) reply legal fit = absurd (false≢true fit)
keeps_call roster names past caller r Begin (Lead p o) legal fit = absurd (false≢true fit)
keeps_call roster names past caller r Begin reply legal fit = refl
keeps_call roster names past caller r (Preempt target) (Lead p o) legal fit = absurd (false≢true fit)
keeps_call roster names past caller r (Preempt target) reply legal fit = refl
keeps_call roster names past caller r (Reject s n) (Lead p o) legal fit = absurd (false≢true fit)
keeps_call roster names past caller r (Reject s n) reply legal fit = refl
keeps_call roster names past caller r (Renew gift t) (Lead p o) legal fit = absurd (false≢true fit)
keeps_call roster names past caller r (Renew gift t) reply legal fit = refl
keeps_call roster names past caller r (Take q) (Lead p o) legal fit = absurd (false≢true fit)
keeps_call roster names past caller r (Take q) reply legal fit = refl
keeps_call roster names past caller r (Note gift) (Lead p o) legal fit = absurd (false≢true fit)
keeps_call roster names past caller r (Note gift) reply legal fit = refl
keeps_call roster names past caller r End (Lead p o) legal fit = absurd (false≢true fit)
keeps_call roster names past caller r End reply legal fit = refl
keeps_call roster names past caller r (Draw nonce) reply legal fit = absurd (false≢true fit)

pub keeps : (roster : Roster) (names : Tables) (past : List Entry) (entry : Entry) → IsLegalPast roster names (entry ∷ past) → prompts_of (entry ∷ past) ≡ prompts_after entry.request entry.call entry.reply (prompts_of past)
keeps roster names past entry legal = keeps_call roster names past entry.caller entry.request entry.call entry.reply legal legal.1.2

-- WHAT MAY BE TOLD

still_led : (past : List Entry) (entry : Entry) (p : ℕ) → IsTrue (is_some (lead past p)) → IsTrue (is_some (lead (entry ∷ past) p))
still_led past entry p led = here (is_lead entry.reply && prompt_led entry.reply == p)
  where
    here : (b : Bool) → IsTrue (is_some (cond b (Some entry) (lead past p)))
    here true = refl
    here false = led

and_assoc : (a b c : Bool) → (a && (b && c)) ≡ (a && b && c)
and_assoc true b c = refl
and_assoc false b c = refl

-- an open prompt was led
open_is_led : (past : List Entry) (s : ℕ) (entries : List Entry) (entry : Entry) → find (λ e. is_lead e.reply && selects e.call s && not (settled past (prompt_led e.reply))) entries ≡ Some entry → IsTrue (is_some (lead entries (prompt_led entry.reply)))
open_is_led past s [] entry found = absurd cc
open_is_led past s (first ∷ entries) entry found =
    here (is_lead first.reply) (selects first.call s && not (settled past (prompt_led first.reply))) (ap (λ b. cond b (Some first) (find (λ e. is_lead e.reply && selects e.call s && not (settled past (prompt_led e.reply))) entries)) (and_assoc (is_lead first.reply) (selects first.call s) (not (settled past (prompt_led first.reply)))) ∙ found) (λ more. open_is_led past s entries entry more)
  where
    mine : first ≡ entry → IsTrue (is_some (cond (prompt_led first.reply == prompt_led entry.reply) (Some first) (lead entries (prompt_led entry.reply))))
    mine same =
        ap (λ b. is_some (cond b (Some first) (lead entries (prompt_led entry.reply)))) (eq-eqb (prompt_led first.reply) (prompt_led entry.reply) (ap (λ (e : Entry). prompt_led e.reply) same))

    or_more : (b : Bool) → IsTrue (is_some (lead entries (prompt_led entry.reply))) → IsTrue (is_some (cond b (Some first) (lead entries (prompt_led entry.reply))))
    or_more true led = refl
    or_more false led = led

    here : (b c : Bool) → cond (b && c) (Some first) (find (λ e. is_lead e.reply && selects e.call s && not (settled past (prompt_led e.reply))) entries) ≡ Some entry → (find (λ e. is_lead e.reply && selects e.call s && not (settled past (prompt_led e.reply))) entries ≡ Some entry → IsTrue (is_some (lead entries (prompt_led entry.reply)))) → IsTrue (is_some (cond (b && prompt_led first.reply == prompt_led entry.reply) (Some first) (lead entries (prompt_led entry.reply))))
    here true true found next = let same : first ≡ entry = cc in mine same
    here true false found next = or_more (prompt_led first.reply == prompt_led entry.reply) (next found)
    here false c found next = next found

followed_by : (past : List Entry) (s q : ℕ) (by_url ambient : Bool) (held : Option Gift) (led : Option Entry) (is_rival : ℕ → Bool) → open_lead past s ≡ led → Follow q ≡ select_answer is_rival past s (first_choice by_url held ambient led) → IsTrue (is_some (lead past q))
followed_by past s q true ambient held led is_rival found is = absurd cc
followed_by past s q false ambient (Some gift) led is_rival found is = absurd cc
followed_by past s q false true None led is_rival found is = absurd cc
followed_by past s q false false None None is_rival found is = absurd cc
followed_by past s q false false None (Some entry) is_rival found is =
    let same : q ≡ prompt_led entry.reply = cc in
    subst (λ n. IsTrue (is_some (lead past n))) (sym same) (open_is_led past s past entry found)

follows_led : (roster : Roster) (names : Tables) (past : List Entry) (r p : ℕ) (call : Call) (reply : BookReply) → IsTrue (fits call reply) → reply ≡ answer roster names past r call → (prompt_followed reply == p) ≡ true → IsTrue (not (p == 0)) → IsTrue (is_some (lead past p))
follows_led roster names past r p call (Follow q) fit is same positive =
    subst (λ n. IsTrue (is_some (lead past n))) (eqb-true q p same) (follow_select (λ c. Follow q ≡ answer roster names past r c → IsTrue (is_some (lead past q))) (λ s t answered_so. followed_by past s q _ _ (current past s) (open_lead past s) (is_rival names s) refl answered_so) call q fit is)
follows_led roster names past r p call reply fit is same positive = absurd (false≢true (sym (not_true (p == 0) positive) ∙ (same_test p 0 ∙ same)))

-- who follows a prompt follows one that was led
followed_led : (roster : Roster) (names : Tables) (past : List Entry) (r p : ℕ) → IsLegalPast roster names past → IsTrue (not (p == 0)) → list_any (λ entry. prompt_followed entry.reply == p) (own past r) ≡ true → IsTrue (is_some (lead past p))
followed_led roster names [] r p legal positive is = absurd (false≢true is)
followed_led roster names (entry ∷ past) r p legal positive is =
    still_led past entry p (here (entry.request == r) is (λ more. followed_led roster names past r p legal.0 positive more))
  where
    at : (c : Bool) → (prompt_followed entry.reply == p) ≡ c → (c || list_any (λ e. prompt_followed e.reply == p) (own past r)) ≡ true → (list_any (λ e. prompt_followed e.reply == p) (own past r) ≡ true → IsTrue (is_some (lead past p))) → IsTrue (is_some (lead past p))
    at true same is next = follows_led roster names past entry.request p entry.call entry.reply legal.1.2 legal.1.1 same positive
    at false same is next = next is

    here : (b : Bool) → list_any (λ e. prompt_followed e.reply == p) (cond b (entry ∷ own past r) (own past r)) ≡ true → (list_any (λ e. prompt_followed e.reply == p) (own past r) ≡ true → IsTrue (is_some (lead past p))) → IsTrue (is_some (lead past p))
    here true is next = at (prompt_followed entry.reply == p) refl is next
    here false is next = next is

pending_yet : (past : List Entry) (r p : ℕ) → MaySettle past r p → ending_of (prompts_of past) p ≡ Some IsPending
pending_yet past r p may = ending_led past p may.led ∙ ap (λ reply. Some (taken_by reply)) (end_open past p may.still)

may_take : (roster : Roster) (names : Tables) (past : List Entry) (r p : ℕ) → IsLegalPast roster names past → IsTrue (allowed_call roster names past r (Take p)) → IsTrue (is_some (prompt_of (prompts_of past) p))
may_take roster names past r p legal may =
    let first = and_left _ (not (list_any (λ entry. takes entry.call p) (own past r))) may in
    let led = followed_led roster names past r p legal (and_left (not (p == 0)) (list_any (λ entry. prompt_followed entry.reply == p) (own past r)) first) (and_right (not (p == 0)) (list_any (λ entry. prompt_followed entry.reply == p) (own past r)) first) in
    subst (λ o. IsTrue (is_some o)) (sym (prompt_found past past p)) (here (lead past p) led)
  where
    here : (o : Option Entry) → IsTrue (is_some o) → IsTrue (is_some (option_map (prompt_in past) o))
    here None led = led
    here (Some entry) led = refl

pub may_tell : (roster : Roster) (names : Tables) (past : List Entry) (r : ℕ) (call : Call) → IsLegalPast roster names past → IsTrue (allowed_call roster names past r call) → MayBeTold call (prompts_of past)
may_tell roster names past r (Answer p x t) legal may =
    pending_yet past r p (settles_led past r p (and_left _ (nat_le x (length names.texts)) (and_left _ (unwrap_or (option_map (λ (e : Entry). terms_selected e.call == t) (lead past p)) false) may)))
may_tell roster names past r (Lose p loss) legal may = pending_yet past r p (settles_led past r p may)
may_tell roster names past r (Take p) legal may = may_take roster names past r p legal may
may_tell roster names past r call legal may = tt
