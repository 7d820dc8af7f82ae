-- Prompts: at most one of a space is open, and each has one answer.
use Rattle.std.proofs.Common.{◌≡◌, ℕ, suc, ◌+◌, ◌≤◌, Bool, true, false, not, ◌&&◌, ◌||◌, cond, List, [], ◌∷◌, refl, ap, sym, subst, arith, Option, Some, None}
use Rattle.std.specs.Prelude.{IsTrue, find, count_by, option_map, unwrap_or, nat_le}
use Rattle.std.specs.List.{list_any}
use Rattle.std.proofs.lemmas.Bool.{false≢true}
use Rattle.std.proofs.lemmas.Option.{none-some}
use Rattle.std.proofs.lemmas.List.Sums.{sum_by-cons, sum_by-le-sum_by}
use Rattle.spaces.specs.declared.roster.Roster.{Roster}
use Rattle.auth_events.specs.declared.journal.Gift.{Gift}
use Rattle.auth_events.specs.declared.journal.Call.{Call}
use Rattle.auth_events.specs.declared.journal.Call.TheVariants.{Select, Answer, Lose, Take}
use Rattle.auth_events.specs.declared.journal.BookReply.{BookReply}
use Rattle.auth_events.specs.declared.journal.BookReply.TheVariants.{Pending}
use Rattle.auth_events.specs.declared.journal.Entry.{Entry}
use Rattle.auth_events.specs.Tables.{Tables}
use Rattle.auth_events.specs.Pages.{fits}
use Rattle.auth_events.specs.Past.{end, is_lead, open_lead, prompt_led, selects, settled, settles, taken_from}
use Rattle.auth_events.specs.Book.{Choice, IsLegalPast, IsStep, allowed_call, answer, choice, first_choice, is_led_by, is_rival, select_answer, takes}
use Rattle.auth_events.specs.Book.Choice.{ByUrl, ByCache, ByDefault, ByFollowing, ByLeading}
use Rattle.history_laws.specs.Laws.{AreTakenFromBefore, HasOneOpenPrompt, IsSettledOnce, IsTakenFrom, leads_open}
use Rattle.auth_events.proofs.Numbers.{and_left, and_right, is_not}
use Rattle.auth_events.proofs.Same.{number_same}

-- COUNTS

-- one where the test holds
abbrev pub one_if : Bool → ℕ
one_if b = cond b 1 0

pub none_found : (p : Entry → Bool) (past : List Entry) → find p past ≡ None → count_by p past ≡ 0
none_found p [] none = refl
none_found p (entry ∷ past) none = at (p entry) refl none (λ rest. none_found p past rest)
  where
    at : (b : Bool) → p entry ≡ b → cond b (Some entry) (find p past) ≡ None → (find p past ≡ None → count_by p past ≡ 0) → count_by p (entry ∷ past) ≡ 0
    at true is found before = absurd (none-some entry (sym found))
    at false is found before =
        omega (arith, sum_by-cons (λ e. cond (p e) 1 0) entry past, ap (λ b. cond {A = ℕ} b 1 0) is, before found)

pub none_passes : (p : Entry → Bool) (past : List Entry) → list_any p past ≡ false → count_by p past ≡ 0
none_passes p [] none = refl
none_passes p (entry ∷ past) none = at (p entry) refl none (λ rest. none_passes p past rest)
  where
    at : (b : Bool) → p entry ≡ b → (b || list_any p past) ≡ false → (list_any p past ≡ false → count_by p past ≡ 0) → count_by p (entry ∷ past) ≡ 0
    at true is found before = absurd (false≢true (sym found))
    at false is found before =
        omega (arith, sum_by-cons (λ e. cond (p e) 1 0) entry past, ap (λ b. cond {A = ℕ} b 1 0) is, before found)

-- OPEN PROMPTS

-- the test without its last part counts no less
still_open : (led sel done more : Bool) → one_if (led && sel && not (more || done)) ≤ one_if (led && sel && not done)
still_open true true true true = omega arith
still_open true true true false = omega arith
still_open true true false true = omega arith
still_open true true false false = omega arith
still_open true false done more = omega arith
still_open false sel done more = omega arith

-- no prompt is opened by the other entry
open_before : (entry : Entry) (past : List Entry) (s : ℕ) → count_by (leads_open (entry ∷ past) s) past ≤ count_by (leads_open past s) past
open_before entry past s =
    sum_by-le-sum_by (λ e. one_if (leads_open (entry ∷ past) s e)) (λ e. one_if (leads_open past s e)) past
    (λ e. still_open (is_lead e.reply) (selects e.call s) (settled past (prompt_led e.reply)) (settles entry.call (prompt_led e.reply)))

abbrev is_leading : Choice → Bool
is_leading ByLeading = true
is_leading _ = false

-- a prompt is led where none is open
led_where_none : (url : Bool) (held : Option Gift) (ambient : Bool) (led : Option Entry) → IsTrue (is_leading (first_choice url held ambient led)) → led ≡ None
led_where_none true held ambient led leading = absurd (false≢true leading)
led_where_none false (Some gift) ambient led leading = absurd (false≢true leading)
led_where_none false None true led leading = absurd (false≢true leading)
led_where_none false None false (Some entry) leading = absurd (false≢true leading)
led_where_none false None false None leading = refl

select_leads : (rival : ℕ → Bool) (past : List Entry) (s : ℕ) (how : Choice) → IsTrue (is_lead (select_answer rival past s how)) → IsTrue (is_leading how)
select_leads rival past s ByUrl led = absurd (false≢true led)
select_leads rival past s (ByCache gift) led = absurd (false≢true led)
select_leads rival past s ByDefault led = absurd (false≢true led)
select_leads rival past s (ByFollowing p) led = absurd (false≢true led)
select_leads rival past s ByLeading led = refl

-- an answer that stands in the past stands there after one entry more
taken_later : (entry : Entry) (past : List Entry) (p : ℕ) (reply : BookReply) → IsTakenFrom past p reply → IsTakenFrom (entry ∷ past) p reply
taken_later entry past p reply taken = (suc taken.0, taken.1, omega (arith, taken.2), taken.3, taken.4)

-- what is taken from a prompt's end stands in the past
ended : (past : List Entry) (prompt p : ℕ) → IsTrue (fits (Take prompt) (end past p)) → IsTakenFrom past p (end past p)
ended [] prompt p fit = absurd (false≢true fit)
ended (entry ∷ past) prompt p fit = at (settles entry.call p) refl fit (λ before. ended past prompt p before)
  where
    found : Bool → BookReply
    found b = unwrap_or (option_map (λ e. taken_from e.reply) (cond b (Some entry) (find (λ e. settles e.call p) past))) Pending

    at : (b : Bool) → settles entry.call p ≡ b → IsTrue (fits (Take prompt) (found b)) → (IsTrue (fits (Take prompt) (end past p)) → IsTakenFrom past p (end past p)) → IsTakenFrom (entry ∷ past) p (found b)
    at true is fit' before = (0, entry, omega arith, refl, (is, refl))
    at false is fit' before = taken_later entry past p (end past p) (before fit')

module _ (roster : Roster) (names : Tables) where
  led_alone : (past : List Entry) (r s : ℕ) (call : Call) (reply : BookReply) → reply ≡ answer roster names past r call → IsTrue (is_lead reply) → IsTrue (selects call s) → open_lead past s ≡ None
  led_alone past r s (Select space t) reply is led sel =
      subst (λ n. open_lead past n ≡ None) (number_same space s sel)
      (led_where_none _ _ _ (open_lead past space)
      (select_leads (is_rival names space) past space (choice roster names past r space) (subst (λ told. IsTrue (is_lead told)) is led)))
  led_alone past r s call reply is led sel = absurd (false≢true sel)

  pub open_once : (past : List Entry) → IsLegalPast roster names past → (s : ℕ) → HasOneOpenPrompt past s
  open_once [] legal s = omega arith
  open_once (entry ∷ past) legal s = at (leads_open (entry ∷ past) s entry) refl (open_once past legal.0 s)
    where
      rest : count_by (leads_open (entry ∷ past) s) past ≤ count_by (leads_open past s) past
      rest = open_before entry past s

      counted : count_by (leads_open (entry ∷ past) s) (entry ∷ past) ≡ one_if (leads_open (entry ∷ past) s entry) + count_by (leads_open (entry ∷ past) s) past
      counted = sum_by-cons (λ e. cond (leads_open (entry ∷ past) s e) 1 0) entry past

      at : (b : Bool) → leads_open (entry ∷ past) s entry ≡ b → HasOneOpenPrompt past s → HasOneOpenPrompt (entry ∷ past) s
      at false is before = omega (arith, counted, ap one_if is, rest, before)
      at true is before =
          let leads = and_left (is_lead entry.reply && selects entry.call s) _ is in
          let alone = led_alone past entry.request s entry.call entry.reply legal.1.1 (and_left (is_lead entry.reply) (selects entry.call s) leads) (and_right (is_lead entry.reply) (selects entry.call s) leads) in
          let none : count_by (leads_open past s) past ≡ 0 = none_found (leads_open past s) past alone in
          omega (arith, counted, ap one_if is, rest, none)

  -- ANSWERS

  -- what settles a prompt was allowed while it was open
  settled_open : (past : List Entry) (r p : ℕ) (call : Call) → IsTrue (allowed_call roster names past r call) → IsTrue (settles call p) → settled past p ≡ false
  settled_open past r p (Answer prompt text t) may settles_it =
      let opened = and_right (is_led_by past r prompt) (not (settled past prompt)) (and_left (is_led_by past r prompt && not (settled past prompt)) _ (and_left (is_led_by past r prompt && not (settled past prompt) && nat_le text _) _ may)) in
      subst (λ n. settled past n ≡ false) (number_same prompt p settles_it) (is_not (settled past prompt) opened)
  settled_open past r p (Lose prompt loss) may settles_it =
      subst (λ n. settled past n ≡ false) (number_same prompt p settles_it) (is_not (settled past prompt) (and_right (is_led_by past r prompt) (not (settled past prompt)) may))
  settled_open past r p call may settles_it = absurd (false≢true settles_it)

  -- nothing before it settled the prompt
  once_open : (past : List Entry) (entry : Entry) (p : ℕ) → IsStep roster names past entry → IsTrue (settles entry.call p) → count_by (λ e. settles e.call p) past ≡ 0
  once_open past entry p step settles_it = none_passes (λ e. settles e.call p) past (settled_open past entry.request p entry.call (and_right _ _ step.0) settles_it)

  pub settled_once : (past : List Entry) → IsLegalPast roster names past → (p : ℕ) → IsSettledOnce past p
  settled_once [] legal p = omega arith
  settled_once (entry ∷ past) legal p = at (settles entry.call p) refl (settled_once past legal.0 p)
    where
      counted : count_by (λ e. settles e.call p) (entry ∷ past) ≡ one_if (settles entry.call p) + count_by (λ e. settles e.call p) past
      counted = sum_by-cons (λ e. cond (settles e.call p) 1 0) entry past

      at : (b : Bool) → settles entry.call p ≡ b → IsSettledOnce past p → IsSettledOnce (entry ∷ past) p
      at false is before = omega (arith, counted, ap one_if is, before)
      at true is before =
          let none = once_open past entry p legal.1 is in
          omega (arith, counted, ap one_if is, none)

  taken_at : (past : List Entry) (r p : ℕ) (call : Call) (reply : BookReply) → reply ≡ answer roster names past r call → IsTrue (fits call reply) → IsTrue (takes call p) → IsTakenFrom past p reply
  taken_at past r p (Take prompt) reply is fit taken =
      subst (λ n. IsTakenFrom past n reply) (number_same prompt p taken)
      (subst (IsTakenFrom past prompt) (sym is) (ended past prompt prompt (subst (λ told. IsTrue (fits (Take prompt) told)) is fit)))
  taken_at past r p call reply is fit taken = absurd (false≢true taken)

  pub all_taken : (past : List Entry) → IsLegalPast roster names past → AreTakenFromBefore past
  all_taken [] legal = tt
  all_taken (entry ∷ past) legal =
      (all_taken past legal.0, λ p taken. taken_at past entry.request p entry.call entry.reply legal.1.1 legal.1.2 taken)
