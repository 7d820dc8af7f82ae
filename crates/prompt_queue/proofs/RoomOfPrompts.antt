-- A legal history leads at most half as many prompts as it has entries: of each request, a prompt is
-- settled before the next one is led.
use Rattle.std.proofs.Common.{◌≡◌, ℕ, ◌+◌, ◌-◌, ◌<◌, inl, inr, ◌≤◌, Bool, true, false, not, ◌&&◌, ◌||◌, ◌==◌, cond, List, [], ◌∷◌, length, refl, ap, sym, subst, ◌∙◌, arith, Option, Some, None, zero-add}
use Rattle.std.specs.Prelude.{IsTrue, reverse, All, ◌*◌, suc, zero, nat_lt, filter, count_by, option_map, unwrap_or}
use Rattle.std.specs.List.{list_any}
use Rattle.std.proofs.lemmas.Bool.{false≢true, eqb-true, eqb-false, eq-eqb, ne_eqb, cases_lt}
use Rattle.std.proofs.lemmas.List.{length-map, length-reverse}
use Rattle.std.proofs.lemmas.List.Sums.{sum_by-cons, length-filter}
use Rattle.spaces.specs.declared.roster.Roster.{Roster}
use Rattle.auth_events.specs.declared.journal.Entry.{Entry}
use Rattle.auth_events.specs.declared.journal.Call.{Call}
use Rattle.auth_events.specs.declared.journal.Call.TheVariants.{Select, Answer, Lose}
use Rattle.auth_events.specs.declared.journal.BookReply.{BookReply}
use Rattle.auth_events.specs.Tables.{Tables}
use Rattle.auth_events.specs.Pages.{fits, IsPage, IsWithinRoom, HasRoomFor, count_of}
use Rattle.auth_events.specs.Past.{is_lead, prompt_led, settles, settled, lead}
use Rattle.auth_events.specs.Book.{ends, waits, is_site_of, space_named, fits_space, IsStep, IsLegalPast, allowed_call, own, begins, no_entry, is_open, is_led_by}
use Rattle.auth_events.proofs.Legal.{All-reverse}
use Rattle.auth_events.proofs.RoomLemmas.{free_place}
use Rattle.auth_events.proofs.Numbers.{and_left, and_right, some_of_test}
use Rattle.std.proofs.lemmas.List.Elements.{All-head, All-tail, All-filter}
use Rattle.prompt_queue.proofs.CallLemmas.{only_select}
use Rattle.prompt_queue.proofs.Prompting.{leading, lead_number, led_within, MaySettle, may_settle, unled_open, not_true}
use Rattle.prompt_queue.specs.Histories.{prompt_in, prompts_of}

abbrev is_settling : Call → Bool
is_settling (Answer p x t) = true
is_settling (Lose p loss) = true
is_settling call = false

-- the prompts that the request led, and those that it settled
abbrev led_by : ℕ → List Entry → ℕ
led_by r past = count_by (λ e. e.request == r && is_lead e.reply) past

abbrev settled_by : ℕ → List Entry → ℕ
settled_by r past = count_by (λ e. e.request == r && is_settling e.call) past

-- the request leads a prompt that is open
abbrev leads_on : ℕ → List Entry → List Entry → Bool
leads_on r past entries = list_any (λ e. e.request == r && (is_lead e.reply && not (settled past (prompt_led e.reply)))) entries

-- a request settles each prompt that it led but the last
record Spends (r : ℕ) (past : List Entry) : Type 0 where
  one_open : led_by r past ≤ settled_by r past + 1
  idle : leads_on r past past ≡ false → led_by r past ≤ settled_by r past
  apart : led_by r past + settled_by r past ≤ count_of r past - 1

or_right : (t u : Bool) → (t || u) ≡ false → u ≡ false
or_right true u none = absurd (false≢true (sym none))
or_right false u none = none

or_left : (t u : Bool) → (t || u) ≡ false → t ≡ false
or_left true u none = none
or_left false u none = refl

or_false : (t u v : Bool) → (t || u) ≡ false → (u ≡ false → v ≡ false) → (t || v) ≡ false
or_false true u v none next = none
or_false false u v none next = next none

-- WHO LEADS

-- each of the entries that leads a prompt is the one by which the prompt is found
abbrev AreLed : List Entry → List Entry → Type 0
AreLed past [] = Unit {0}
AreLed past (e ∷ entries) = (is_lead e.reply ≡ true → IsTrue (is_led_by past e.request (prompt_led e.reply))) × AreLed past entries

are_led_more : (roster : Roster) (names : Tables) (past : List Entry) (entry : Entry) → IsLegalPast roster names (entry ∷ past) → (entries : List Entry) → AreLed past entries → AreLed (entry ∷ past) entries
are_led_more roster names past entry legal [] led = led
are_led_more roster names past entry legal (x ∷ entries) led =
    (λ leads_it. here (is_lead entry.reply) (prompt_led entry.reply == prompt_led x.reply) refl refl (led.0 leads_it), are_led_more roster names past entry legal entries led.1)
  where
    here : (b c : Bool) → is_lead entry.reply ≡ b → (prompt_led entry.reply == prompt_led x.reply) ≡ c → IsTrue (is_led_by past x.request (prompt_led x.reply)) → IsTrue (unwrap_or (option_map (λ (e : Entry). e.request == x.request) (cond (b && c) (Some entry) (lead past (prompt_led x.reply)))) false)
    here true true leads_it same mine =
        let within = led_within roster names past (prompt_led x.reply) legal.0 (some_of_test (λ (e : Entry). e.request == x.request) (lead past (prompt_led x.reply)) mine) in
        absurd (omega (arith, within, eqb-true (prompt_led entry.reply) (prompt_led x.reply) same, lead_number roster names past entry legal.1 leads_it))
    here true false leads_it same mine = mine
    here false c leads_it same mine = mine

are_led : (roster : Roster) (names : Tables) (past : List Entry) → IsLegalPast roster names past → AreLed past past
are_led roster names [] legal = tt
are_led roster names (entry ∷ past) legal =
    (λ leads_it. mine leads_it, are_led_more roster names past entry legal past (are_led roster names past legal.0))
  where
    mine : is_lead entry.reply ≡ true → IsTrue (is_led_by (entry ∷ past) entry.request (prompt_led entry.reply))
    mine leads_it =
        let found : (is_lead entry.reply && prompt_led entry.reply == prompt_led entry.reply) ≡ true =
        ap (λ b. b && prompt_led entry.reply == prompt_led entry.reply) leads_it ∙ eq-eqb (prompt_led entry.reply) (prompt_led entry.reply) refl in
        ap (λ b. unwrap_or (option_map (λ (e : Entry). e.request == entry.request) (cond b (Some entry) (lead past (prompt_led entry.reply)))) false) found
        ∙ eq-eqb entry.request entry.request refl

same_leader : (led : Option Entry) (a b : ℕ) → IsTrue (unwrap_or (option_map (λ (e : Entry). e.request == a) led) false) → IsTrue (unwrap_or (option_map (λ (e : Entry). e.request == b) led) false) → a ≡ b
same_leader None a b by_a by_b = absurd (false≢true by_a)
same_leader (Some e) a b by_a by_b = sym (eqb-true e.request a by_a) ∙ eqb-true e.request b by_b

-- an entry that settles no prompt of the request
still_leads : (past : List Entry) (entry : Entry) (r : ℕ) (entries : List Entry) → ((x : Entry) → (x.request == r) ≡ true → IsTrue (is_led_by past x.request (prompt_led x.reply)) → settles entry.call (prompt_led x.reply) ≡ true → ⊥) → AreLed past entries → leads_on r (entry ∷ past) entries ≡ false → leads_on r past entries ≡ false
still_leads past entry r [] never led none = refl
still_leads past entry r (x ∷ entries) never led none =
    here (x.request == r) (is_lead x.reply) (settles entry.call (prompt_led x.reply)) refl refl refl none (λ more. still_leads past entry r entries never led.1 more)
  where
    here : (a b c : Bool) → (x.request == r) ≡ a → is_lead x.reply ≡ b → settles entry.call (prompt_led x.reply) ≡ c → ((a && (b && not (c || settled past (prompt_led x.reply)))) || leads_on r (entry ∷ past) entries) ≡ false → (leads_on r (entry ∷ past) entries ≡ false → leads_on r past entries ≡ false) → ((a && (b && not (settled past (prompt_led x.reply)))) || leads_on r past entries) ≡ false
    here false b c mine leads_it ends_it none next = next none
    here true false c mine leads_it ends_it none next = next none
    here true true false mine leads_it ends_it none next = or_false (not (settled past (prompt_led x.reply))) _ _ none next
    here true true true mine leads_it ends_it none next = absurd (never x mine (led.0 leads_it) ends_it)

-- WHAT A REQUEST SPENDS

settles_none : (call : Call) (p : ℕ) → is_settling call ≡ false → settles call p ≡ false
settles_none (Answer q x t) p other = absurd (false≢true (sym other))
settles_none (Lose q loss) p other = absurd (false≢true (sym other))
settles_none call p other = refl

settling_begins : (call : Call) → is_settling call ≡ true → begins call ≡ false
settling_begins (Answer q x t) is = refl
settling_begins (Lose q loss) is = refl
settling_begins call is = absurd (false≢true is)

leading_settles : (call : Call) (reply : BookReply) → IsTrue (fits call reply) → is_lead reply ≡ true → is_settling call ≡ false
leading_settles call reply fit led = only_select (λ c _. is_settling c ≡ false) (λ _ _ _ _. refl) call reply fit led

list_any-filter : (p q : Entry → Bool) (xs : List Entry) → list_any p (filter q xs) ≡ list_any (λ x. q x && p x) xs
list_any-filter p q [] = refl
list_any-filter p q (x ∷ xs) = here (q x) (list_any-filter p q xs)
  where
    here : (b : Bool) → list_any p (filter q xs) ≡ list_any (λ y. q y && p y) xs → list_any p (cond b (x ∷ filter q xs) (filter q xs)) ≡ ((b && p x) || list_any (λ y. q y && p y) xs)
    here true next = ap (λ t. p x || t) next
    here false next = next

some_of : (p : Entry → Bool) (xs : List Entry) → IsTrue (list_any p xs) → 1 ≤ length xs
some_of p [] any = absurd (false≢true any)
some_of p (x ∷ xs) any = omega arith

has_own : (past : List Entry) (caller r : ℕ) → IsTrue (is_open past caller r) → 1 ≤ count_of r past
has_own past caller r opened =
    let begins_it = λ (entry : Entry). begins entry.call && entry.caller == caller in
    let begun = and_left (list_any begins_it (own past r)) (not (list_any (λ entry. ends entry.call) (own past r))) (and_left _ (nat_lt (length (own past r)) 64) opened) in
    omega (arith, some_of begins_it (own past r) begun, length-filter (λ (entry : Entry). entry.request == r) past)

may_open : (roster : Roster) (names : Tables) (past : List Entry) (entry : Entry) → IsStep roster names past entry → begins entry.call ≡ false → 1 ≤ count_of entry.request past
may_open roster names past entry step other =
    has_own past entry.caller entry.request (subst (λ b. IsTrue (cond b (no_entry past entry.request) (is_open past entry.caller entry.request))) other (and_left (cond (begins entry.call) (no_entry past entry.request) (is_open past entry.caller entry.request)) (allowed_call roster names past entry.request entry.call) step.0))

leads_none : (roster : Roster) (names : Tables) (past : List Entry) (entry : Entry) → IsStep roster names past entry → is_lead entry.reply ≡ true → leads_on entry.request past past ≡ false
leads_none roster names past entry step led =
    only_select (λ call _. IsTrue (allowed_call roster names past entry.request call) → leads_on entry.request past past ≡ false) by_select entry.call entry.reply step.2 led
    (and_right (cond (begins entry.call) (no_entry past entry.request) (is_open past entry.caller entry.request)) (allowed_call roster names past entry.request entry.call) step.0)
  where
    by_select : (s t p o : ℕ) → IsTrue (allowed_call roster names past entry.request (Select s t)) → leads_on entry.request past past ≡ false
    by_select s t p o may =
        let idle = not_true (waits past entry.request) (and_right (unwrap_or (option_map (is_site_of roster entry.request) (space_named names s)) false && fits_space names s t) (not (waits past entry.request)) may) in
        sym (list_any-filter (λ e. is_lead e.reply && not (settled past (prompt_led e.reply))) (λ e. e.request == entry.request) past) ∙ or_left _ _ idle

spends_other : (roster : Roster) (names : Tables) (past : List Entry) (entry : Entry) (r : ℕ) → IsLegalPast roster names (entry ∷ past) → (entry.request == r) ≡ false → Spends r past → Spends r (entry ∷ past)
spends_other roster names past entry r legal other before =
    let led : led_by r (entry ∷ past) ≡ led_by r past =
    sum_by-cons (λ e. cond (e.request == r && is_lead e.reply) 1 0) entry past ∙ (ap (λ a. cond (a && is_lead entry.reply) 1 0 + led_by r past) other ∙ zero-add (led_by r past)) in
    let ended_by : settled_by r (entry ∷ past) ≡ settled_by r past =
    sum_by-cons (λ e. cond (e.request == r && is_settling e.call) 1 0) entry past ∙ (ap (λ a. cond (a && is_settling entry.call) 1 0 + settled_by r past) other ∙ zero-add (settled_by r past)) in
    let all : count_of r (entry ∷ past) ≡ count_of r past =
    sum_by-cons (λ (e : Entry). cond (e.request == r) 1 0) entry past ∙ (ap (λ a. cond a 1 0 + count_of r past) other ∙ zero-add (count_of r past)) in
    record {
      one_open = omega (arith, led, ended_by, before.one_open);
      idle = λ none. omega (arith, led, ended_by, before.idle (still_leads past entry r past never (are_led roster names past legal.0) (or_right _ _ none)));
      apart = omega (arith, led, ended_by, all, before.apart);
    }
  where
    never : (x : Entry) → (x.request == r) ≡ true → IsTrue (is_led_by past x.request (prompt_led x.reply)) → settles entry.call (prompt_led x.reply) ≡ true → ⊥
    never x mine leads_it ends_it =
        let may : MaySettle past entry.request (prompt_led x.reply) = may_settle roster names past entry (prompt_led x.reply) legal.1 ends_it in
        eqb-false entry.request r other (same_leader (lead past (prompt_led x.reply)) entry.request x.request may.by leads_it ∙ eqb-true x.request r mine)

-- the request's own entry
own_counts : (entry : Entry) (past : List Entry) → (led_by entry.request (entry ∷ past) ≡ cond (is_lead entry.reply) 1 0 + led_by entry.request past) × (settled_by entry.request (entry ∷ past) ≡ cond (is_settling entry.call) 1 0 + settled_by entry.request past) × (count_of entry.request (entry ∷ past) ≡ 1 + count_of entry.request past)
own_counts entry past =
    let mine = eq-eqb entry.request entry.request refl in (
      sum_by-cons (λ e. cond (e.request == entry.request && is_lead e.reply) 1 0) entry past ∙ ap (λ a. cond (a && is_lead entry.reply) 1 0 + led_by entry.request past) mine,
      sum_by-cons (λ e. cond (e.request == entry.request && is_settling e.call) 1 0) entry past ∙ ap (λ a. cond (a && is_settling entry.call) 1 0 + settled_by entry.request past) mine,
      sum_by-cons (λ (e : Entry). cond (e.request == entry.request) 1 0) entry past ∙ ap (λ a. cond a 1 0 + count_of entry.request past) mine,
    )

spends_own : (roster : Roster) (names : Tables) (past : List Entry) (entry : Entry) → IsLegalPast roster names (entry ∷ past) → Spends entry.request past → Spends entry.request (entry ∷ past)
spends_own roster names past entry legal before =
    here (is_lead entry.reply) (is_settling entry.call) refl refl (own_counts entry past)
  where
    Counted : Bool → Bool → Type 0
    Counted b c = (led_by entry.request (entry ∷ past) ≡ cond b 1 0 + led_by entry.request past) × (settled_by entry.request (entry ∷ past) ≡ cond c 1 0 + settled_by entry.request past) × (count_of entry.request (entry ∷ past) ≡ 1 + count_of entry.request past)

    now_leads : is_lead entry.reply ≡ true → leads_on entry.request (entry ∷ past) (entry ∷ past) ≡ true
    now_leads led =
        let n = prompt_led entry.reply in
        let rest = leads_on entry.request (entry ∷ past) past in
        let still = settles_none entry.call n (leading_settles entry.call entry.reply legal.1.2 led) in
        let never = unled_open roster names past n legal.0 (omega (arith, lead_number roster names past entry legal.1 led)) in
        ap (λ a. (a && (is_lead entry.reply && not (settles entry.call n || settled past n))) || rest) (eq-eqb entry.request entry.request refl)
        ∙ (ap (λ b. (b && not (settles entry.call n || settled past n)) || rest) led
        ∙ (ap (λ c. not (c || settled past n) || rest) still ∙ ap (λ d. not d || rest) never))

    here : (b c : Bool) → is_lead entry.reply ≡ b → is_settling entry.call ≡ c → Counted b c → Spends entry.request (entry ∷ past)
    here true true led ends_it counted = absurd (false≢true (sym (leading_settles entry.call entry.reply legal.1.2 led) ∙ ends_it))
    here true false led ends_it counted =
        let idle = before.idle (leads_none roster names past entry legal.1 led) in
        let some = may_open roster names past entry legal.1 (only_select (λ c _. begins c ≡ false) (λ _ _ _ _. refl) entry.call entry.reply legal.1.2 led) in
        record {
          one_open = omega (arith, counted.0, counted.1, idle);
          idle = λ none. absurd (false≢true (sym none ∙ now_leads led));
          apart = omega (arith, counted.0, counted.1, counted.2, before.apart, some);
        }
    here false true led ends_it counted =
        let some = may_open roster names past entry legal.1 (settling_begins entry.call ends_it) in
        record {
          one_open = omega (arith, counted.0, counted.1, before.one_open);
          idle = λ none. omega (arith, counted.0, counted.1, before.one_open);
          apart = omega (arith, counted.0, counted.1, counted.2, before.apart, some);
        }
    here false false led ends_it counted = record {
      one_open = omega (arith, counted.0, counted.1, before.one_open);
      idle = λ none. omega (arith, counted.0, counted.1, before.idle (still_leads past entry entry.request past (λ x _ _ settled_it. false≢true (sym (settles_none entry.call (prompt_led x.reply) ends_it) ∙ settled_it)) (are_led roster names past legal.0) (or_right _ _ none)));
      apart = omega (arith, counted.0, counted.1, counted.2, before.apart);
    }

spends : (roster : Roster) (names : Tables) (past : List Entry) (r : ℕ) → IsLegalPast roster names past → Spends r past
spends roster names [] r legal = record { one_open = omega arith; idle = λ _. omega arith; apart = omega arith }
spends roster names (entry ∷ past) r legal = here (entry.request == r) refl (spends roster names past r legal.0)
  where
    here : (b : Bool) → (entry.request == r) ≡ b → Spends r past → Spends r (entry ∷ past)
    here true same before =
        let mine = eqb-true entry.request r same in
        subst (λ n. Spends n (entry ∷ past)) mine (spends_own roster names past entry legal (subst (λ n. Spends n past) (sym mine) before))
    here false other before = spends_other roster names past entry r legal other before

-- OVER ALL REQUESTS

abbrev sum_to : (ℕ → ℕ) → ℕ → ℕ
sum_to f zero = 0
sum_to f (suc n) = f (suc n) + sum_to f n

one_of : (r : ℕ) (entry : Entry) (entries : List Entry) → count_of r (entry ∷ entries) ≡ cond (entry.request == r) 1 0 + count_of r entries
one_of r entry entries = sum_by-cons (λ (e : Entry). cond (e.request == r) 1 0) entry entries

none_above : (n : ℕ) (entry : Entry) (entries : List Entry) → n < entry.request → sum_to (λ r. count_of r (entry ∷ entries)) n ≡ sum_to (λ r. count_of r entries) n
none_above zero entry entries above = refl
none_above (suc n) entry entries above =
    let other : ◌≡◌ {A = ℕ} (cond (entry.request == suc n) 1 0) 0 = ap (λ b. cond b 1 0) (ne_eqb entry.request (suc n) (λ same. omega arith)) in
    omega (arith, none_above n entry entries (omega arith), one_of (suc n) entry entries, other)

one_more : (n : ℕ) (entry : Entry) (entries : List Entry) → 1 ≤ entry.request → entry.request ≤ n → sum_to (λ r. count_of r (entry ∷ entries)) n ≡ 1 + sum_to (λ r. count_of r entries) n
one_more zero entry entries low high = absurd (omega arith)
one_more (suc n) entry entries low high =
    elim (cases_lt entry.request (suc n)) [
      | inl below ↦
          (let other : ◌≡◌ {A = ℕ} (cond (entry.request == suc n) 1 0) 0 = ap (λ b. cond b 1 0) (ne_eqb entry.request (suc n) (λ same. omega arith)) in
          omega (arith, one_more n entry entries low (omega arith), one_of (suc n) entry entries, other))
      | inr top ↦
          (let mine : ◌≡◌ {A = ℕ} (cond (entry.request == suc n) 1 0) 1 = ap (λ b. cond b 1 0) (eq-eqb entry.request (suc n) (omega arith)) in
          omega (arith, none_above n entry entries (omega arith), one_of (suc n) entry entries, mine))
    ]

all_counted : (n : ℕ) (entries : List Entry) → All (IsPage n) entries → length entries ≡ sum_to (λ r. count_of r entries) n
all_counted n [] pages = none n
  where
    none : (n : ℕ) → 0 ≡ sum_to (λ r. count_of r []) n
    none zero = refl
    none (suc n) = omega (arith, none n)
all_counted n (entry ∷ entries) pages =
    let page : IsPage n entry = All-head (IsPage n) entry entries pages in
    omega (arith, all_counted n entries (All-tail (IsPage n) entry entries pages), one_more n entry entries page.from_one page.in_roster)

sum_half : (n : ℕ) (f g : ℕ → ℕ) → ((r : ℕ) → 2 * f r ≤ g r) → 2 * sum_to f n ≤ sum_to g n
sum_half zero f g half = omega arith
sum_half (suc n) f g half = omega (arith, sum_half n f g half, half (suc n))

count_by-filter : (p q : Entry → Bool) (xs : List Entry) → count_by p (filter q xs) ≡ count_by (λ x. p x && q x) xs
count_by-filter p q [] = refl
count_by-filter p q (x ∷ xs) =
    here (q x) (count_by-filter p q xs) ∙ sym (sum_by-cons (λ y. cond (p y && q y) 1 0) x xs)
  where
    and_true : (b : Bool) → (b && true) ≡ b
    and_true true = refl
    and_true false = refl

    and_false : (b : Bool) → (b && false) ≡ false
    and_false true = refl
    and_false false = refl

    here : (b : Bool) → count_by p (filter q xs) ≡ count_by (λ y. p y && q y) xs → count_by p (cond b (x ∷ filter q xs) (filter q xs)) ≡ cond (p x && b) 1 0 + count_by (λ y. p y && q y) xs
    here true next =
        sum_by-cons (λ y. cond (p y) 1 0) x (filter q xs) ∙ (ap (λ n. cond (p x) 1 0 + n) next ∙ ap (λ t. cond t 1 0 + count_by (λ y. p y && q y) xs) (sym (and_true (p x))))
    here false next =
        next ∙ (sym (zero-add (count_by (λ y. p y && q y) xs)) ∙ ap (λ t. cond t 1 0 + count_by (λ y. p y && q y) xs) (sym (and_false (p x))))

room_left : (roster : Roster) (names : Tables) (n : ℕ) (past : List Entry) → All (IsPage n) past → IsLegalPast roster names past → length past < 64 * n → length (prompts_of past) < 32 * n
room_left roster names n past pages legal few =
    let led : length (prompts_of past) ≡ length (filter leading past) = length-map (filter leading past) (prompt_in past) in
    let leads_all = all_counted n (filter leading past) (All-filter leading (IsPage n) past pages) in
    let all = all_counted n past pages in
    let half : (r : ℕ) → 2 * count_of r (filter leading past) ≤ count_of r past = λ r. (
    let spent : Spends r past = spends roster names past r legal in
    omega (arith, count_by-filter (λ (e : Entry). e.request == r) leading past, spent.one_open, spent.apart)) in
    omega (arith, led, leads_all, all, sum_half n (λ r. count_of r (filter leading past)) (λ r. count_of r past) half)

pub room_for_prompt : (roster : Roster) (names : Tables) (n : ℕ) (journal : List Entry) (entry : Entry) → IsWithinRoom n journal → HasRoomFor (record { requests = n; entries = journal }) entry → IsLegalPast roster names (reverse journal) → length (prompts_of (reverse journal)) < 32 * n
room_for_prompt roster names n journal entry within room legal =
    room_left roster names n (reverse journal) (All-reverse (IsPage n) journal within.pages) legal (omega (arith, free_place n journal entry within room, length-reverse journal))
