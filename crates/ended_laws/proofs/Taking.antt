-- Who follows a prompt takes its end behind that, once.
use Rattle.std.proofs.Common.{◌≡◌, ℕ, ◌+◌, ◌≤◌, Bool, true, false, not, ◌&&◌, ◌||◌, cond, List, [], ◌∷◌, ◌++◌, refl, ap, sym, subst, ◌∙◌, arith, Option, Some, None}
use Rattle.std.specs.Prelude.{IsTrue, count_by, find, option_map, unwrap_or, ◌==◌}
use Rattle.std.specs.List.{list_any}
use Rattle.std.proofs.lemmas.Bool.{false≢true}
use Rattle.std.proofs.lemmas.Option.{none-some}
use Rattle.std.proofs.lemmas.List.Sums.{sum_by-cons}
use Rattle.spaces.specs.declared.roster.Roster.{Roster}
use Rattle.auth_events.specs.declared.journal.Call.{Call}
use Rattle.auth_events.specs.declared.journal.Call.TheVariants.{Select, Take}
use Rattle.auth_events.specs.declared.journal.Gift.{Gift}
use Rattle.auth_events.specs.declared.journal.BookReply.{BookReply}
use Rattle.auth_events.specs.declared.journal.BookReply.TheVariants.{Follow, Pending}
use Rattle.auth_events.specs.declared.journal.Entry.{Entry}
use Rattle.auth_events.specs.Tables.{Tables}
use Rattle.auth_events.specs.Pages.{fits}
use Rattle.auth_events.specs.Past.{end, is_lead, open_lead, prompt_led, prompt_followed, selects, settled, settles, taken_from}
use Rattle.auth_events.specs.Book.{IsLegalPast, allowed_call, answer, begins, ends, first_choice, is_open, is_rival, no_entry, own, select_answer, takes}
use Rattle.auth_events.proofs.Numbers.{and_left, and_right, both, or_right, is_not}
use Rattle.auth_events.proofs.Same.{number_same, number_refl}
use Rattle.history_laws.proofs.Leading.{new_number}
use Rattle.ended_laws.proofs.Waiting.{neither, has_all, in_own, not_after, begun, ends_idle, end_replies}
use Rattle.ended_laws.specs.Ended.{has_ended, is_follow, takes_end, HaveAllEnded, AreAllTaken}

-- the request took the prompt's end
abbrev has_taken : List Entry → ℕ → ℕ → Bool
has_taken past r p = list_any (λ e. takes e.call p) (own past r)

-- an end that is taken is there
settled_end : (past : List Entry) (prompt p : ℕ) → IsTrue (fits (Take prompt) (end past p)) → IsTrue (settled past p)
settled_end [] prompt p fit = absurd (false≢true fit)
settled_end (entry ∷ past) prompt p fit = at (settles entry.call p) fit (settled_end past prompt p)
  where
    at : (b : Bool) → IsTrue (fits (Take prompt) (unwrap_or (option_map (λ (e : Entry). taken_from e.reply) (cond b (Some entry) (find (λ e. settles e.call p) past))) Pending)) → (IsTrue (fits (Take prompt) (end past p)) → IsTrue (settled past p)) → IsTrue (b || settled past p)
    at true is before = refl
    at false is before = before is

found_passes : (test : Entry → Bool) (past : List Entry) (found : Entry) → find test past ≡ Some found → IsTrue (test found)
found_passes test [] found is = absurd (none-some found is)
found_passes test (entry ∷ past) found is = at (test entry) refl is (found_passes test past found)
  where
    at : (b : Bool) → test entry ≡ b → cond b (Some entry) (find test past) ≡ Some found → (find test past ≡ Some found → IsTrue (test found)) → IsTrue (test found)
    at true passes this before = subst (λ o. IsTrue (unwrap_or (option_map test o) true)) this passes
    at false fails later before = before later

-- the prompt that is followed
data IsFollowed (led : Option Entry) (p : ℕ) : Type 0 where
  of_open : (entry : Entry) → led ≡ Some entry → p ≡ prompt_led entry.reply → IsFollowed led p

chosen : (rival : ℕ → Bool) (past : List Entry) (s : ℕ) (url : Bool) (held : Option Gift) (ambient : Bool) (led : Option Entry)
    → IsTrue (is_follow (select_answer rival past s (first_choice url held ambient led))) → IsFollowed led (prompt_followed (select_answer rival past s (first_choice url held ambient led)))
chosen rival past s true held ambient led follows = absurd (false≢true follows)
chosen rival past s false (Some gift) ambient led follows = absurd (false≢true follows)
chosen rival past s false None true led follows = absurd (false≢true follows)
chosen rival past s false None false (Some entry) follows = of_open entry refl refl
chosen rival past s false None false None follows = absurd (false≢true follows)

-- what a follow says of the past before it
record IsOpenAt (past : List Entry) (s p : ℕ) : Type 0 where
  lead : Entry
  found : open_lead past s ≡ Some lead
  number : p ≡ prompt_led lead.reply

module _ (roster : Roster) (names : Tables) where
  follows_open : (past : List Entry) (r : ℕ) (call : Call) (reply : BookReply) → reply ≡ answer roster names past r call → IsTrue (fits call reply) → IsTrue (is_follow reply)
      → (s : ℕ) × IsOpenAt past s (prompt_followed reply)
  follows_open past r (Select s t) reply is fit follows =
      let told = chosen (is_rival names s) past s _ _ _ (open_lead past s) (subst (λ told. IsTrue (is_follow told)) is follows) in
      (s, made told)
    where
      made : IsFollowed (open_lead past s) (prompt_followed (answer roster names past r (Select s t))) → IsOpenAt past s (prompt_followed reply)
      made (of_open entry found number) = record { lead = entry; found = found; number = ap prompt_followed is ∙ number }
  follows_open past r call (Follow p) is fit follows = absurd (false≢true fit)
  follows_open past r call reply is fit follows = absurd (false≢true follows)

  -- the prompt that is followed is open
  open_followed : (past : List Entry) (s p : ℕ) → IsOpenAt past s p → settled past p ≡ false
  open_followed past s p at =
      let passes = found_passes (λ e. is_lead e.reply && selects e.call s && not (settled past (prompt_led e.reply))) past at.lead at.found in
      ap (settled past) at.number ∙ is_not (settled past (prompt_led at.lead.reply)) (and_right _ _ passes)

  -- the end that a request took was there
  taken_settled : (past : List Entry) → IsLegalPast roster names past → (r p : ℕ) → IsTrue (has_taken past r p) → IsTrue (settled past p)
  taken_settled [] legal r p taken = absurd (false≢true taken)
  taken_settled (entry ∷ past) legal r p taken = or_right (settles entry.call p) (settled past p) (at (entry.request == r) taken (taken_settled past legal.0 r p))
    where
      of : (call : Call) (reply : BookReply) → reply ≡ answer roster names past entry.request call → IsTrue (fits call reply) → IsTrue (takes call p) → IsTrue (settled past p)
      of (Take prompt) reply is fit takes_it =
          subst (λ n. IsTrue (settled past n)) (number_same prompt p takes_it) (settled_end past prompt prompt (subst (λ told. IsTrue (fits (Take prompt) told)) is fit))
      of call reply is fit takes_it = absurd (false≢true takes_it)

      here : (b : Bool) → takes entry.call p ≡ b → IsTrue (b || has_taken past r p) → (IsTrue (has_taken past r p) → IsTrue (settled past p)) → IsTrue (settled past p)
      here true is found before = of entry.call entry.reply legal.1.1 legal.1.2 is
      here false is found before = before found

      at : (b : Bool) → IsTrue (list_any (λ e. takes e.call p) (cond b (entry ∷ own past r) (own past r))) → (IsTrue (has_taken past r p) → IsTrue (settled past p)) → IsTrue (settled past p)
      at true found before = here (takes entry.call p) refl found before
      at false found before = before found

  -- a follow is no take
  no_take : (call : Call) (reply : BookReply) (p : ℕ) → IsTrue (fits call reply) → IsTrue (is_follow reply) → takes call p ≡ false
  no_take (Take prompt) (Follow q) p fit follows = absurd (false≢true fit)
  no_take (Take prompt) reply p fit follows = absurd (false≢true follows)
  no_take call reply p fit follows = refl

  -- whether the request took the end behind the follow is how often it did
  taken_behind : (later : List Entry) (follow : Entry) (before : List Entry) → IsLegalPast roster names (later ++ follow ∷ before) → (r p : ℕ)
      → has_taken (follow ∷ before) r p ≡ false
      → count_by (takes_end r p) later ≡ cond (has_taken (later ++ follow ∷ before) r p) 1 0
  taken_behind [] follow before legal r p none = ap (λ b. cond {A = ℕ} b 1 0) (sym none)
  taken_behind (entry ∷ later) follow before legal r p none = at (entry.request == r) refl (takes entry.call p) refl (taken_behind later follow before legal.0 r p none)
    where
      past : List Entry
      past = later ++ follow ∷ before

      counted : count_by (takes_end r p) (entry ∷ later) ≡ cond (takes_end r p entry) 1 0 + count_by (takes_end r p) later
      counted = sum_by-cons (λ e. cond (takes_end r p e) 1 0) entry later

      first : (call : Call) → IsTrue (allowed_call roster names past entry.request call) → IsTrue (takes call p) → has_taken past entry.request p ≡ false
      first (Take prompt) may takes_it =
          subst (λ n. has_taken past entry.request n ≡ false) (number_same prompt p takes_it) (is_not (has_taken past entry.request prompt) (and_right _ _ may))
      first call may takes_it = absurd (false≢true takes_it)

      at : (a : Bool) → (entry.request == r) ≡ a → (b : Bool) → takes entry.call p ≡ b → count_by (takes_end r p) later ≡ cond (has_taken past r p) 1 0
          → count_by (takes_end r p) (entry ∷ later) ≡ cond (list_any (λ e. takes e.call p) (cond a (entry ∷ own past r) (own past r))) 1 0
      at true same true takes_it before' =
          let may = and_right (cond (begins entry.call) (no_entry past entry.request) (is_open past entry.caller entry.request)) (allowed_call roster names past entry.request entry.call) legal.1.0 in
          let fresh : has_taken past r p ≡ false = subst (λ n. has_taken past n p ≡ false) (number_same entry.request r same) (first entry.call may takes_it) in
          let here : takes_end r p entry ≡ true = both (entry.request == r) (takes entry.call p) same takes_it in
          omega (arith, counted, ap (λ b. cond {A = ℕ} b 1 0) here, before', ap (λ b. cond {A = ℕ} b 1 0) fresh, ap (λ b. cond {A = ℕ} (b || has_taken past r p) 1 0) takes_it)
      at true same false other before' =
          let here : takes_end r p entry ≡ false = ap (λ b. (entry.request == r) && b) other ∙ never (entry.request == r) in
          omega (arith, counted, ap (λ b. cond {A = ℕ} b 1 0) here, before', ap (λ b. cond {A = ℕ} (b || has_taken past r p) 1 0) other)
        where
          never : (c : Bool) → (c && false) ≡ false
          never true = refl
          never false = refl
      at false other b is before' =
          let here : takes_end r p entry ≡ false = ap (λ c. c && takes entry.call p) other in
          omega (arith, counted, ap (λ c. cond {A = ℕ} c 1 0) here, before')

  -- the ends of the prompts that a request followed are taken where it has ended
  taken_at_end : (past : List Entry) → IsLegalPast roster names past → (r p : ℕ) → IsTrue (has_ended past r)
      → IsTrue (list_any (λ e. not (prompt_followed e.reply == 0) && prompt_followed e.reply == p) (own past r)) → IsTrue (has_taken past r p)
  taken_at_end [] legal r p ended followed = absurd (false≢true followed)
  taken_at_end (entry ∷ past) legal r p ended followed = at (entry.request == r) refl ended followed (taken_at_end past legal.0 r p)
    where
      Follows : BookReply → ℕ → Bool
      Follows reply n = not (prompt_followed reply == 0) && prompt_followed reply == p || list_any (λ e. not (prompt_followed e.reply == 0) && prompt_followed e.reply == p) (own past n)

      there : (b : Bool) → ends entry.call ≡ b → IsTrue (b || has_ended past entry.request) → IsTrue (Follows entry.reply entry.request) → IsTrue (has_taken past entry.request p)
      there true is found followed' =
          has_all (λ e. not (prompt_followed e.reply == 0)) (λ e. prompt_followed e.reply) (λ n. has_taken past entry.request n) p (own past entry.request)
          (neither _ _ (ends_idle roster names past entry legal.1 is)).1
          (subst (λ reply. IsTrue (Follows reply entry.request)) (end_replies roster names past entry legal.1 is) followed')
      there false is found followed' = absurd (not_after roster names past entry legal.1 found)

      at : (b : Bool) → (entry.request == r) ≡ b → IsTrue (list_any (λ e. ends e.call) (cond b (entry ∷ own past r) (own past r)))
          → IsTrue (list_any (λ e. not (prompt_followed e.reply == 0) && prompt_followed e.reply == p) (cond b (entry ∷ own past r) (own past r)))
          → (IsTrue (has_ended past r) → IsTrue (list_any (λ e. not (prompt_followed e.reply == 0) && prompt_followed e.reply == p) (own past r)) → IsTrue (has_taken past r p))
          → IsTrue (list_any (λ e. takes e.call p) (cond b (entry ∷ own past r) (own past r)))
      at true same ended' followed' before =
          let is = number_same entry.request r same in
          or_right (takes entry.call p) (has_taken past r p)
          (subst (λ n. IsTrue (has_taken past n p)) is
          (there (ends entry.call) refl (subst (λ n. IsTrue (ends entry.call || has_ended past n)) (sym is) ended') (subst (λ n. IsTrue (Follows entry.reply n)) (sym is) followed')))
      at false other ended' followed' before = before ended' followed'

  -- prompts are numbered from 1
  from_one : (past : List Entry) → IsLegalPast roster names past → (test : Entry → Bool) (found : Entry) → find test past ≡ Some found → IsTrue (is_lead found.reply) → 1 ≤ prompt_led found.reply
  from_one [] legal test found is led = absurd (none-some found is)
  from_one (entry ∷ past) legal test found is led = at (test entry) is (λ later. from_one past legal.0 test found later led)
    where
      at : (b : Bool) → cond b (Some entry) (find test past) ≡ Some found → (find test past ≡ Some found → 1 ≤ prompt_led found.reply) → 1 ≤ prompt_led found.reply
      at true this before =
          let same : entry.reply ≡ found.reply = ap (λ o. unwrap_or (option_map (λ (e : Entry). e.reply) o) Pending) this in
          let number = new_number roster names past entry.request entry.call entry.reply legal.1.1 legal.1.2 (subst (λ reply. IsTrue (is_lead reply)) (sym same) led) in
          omega (arith, number, ap prompt_led same)
      at false later before = before later

  legal_before : (later : List Entry) (entry : Entry) (before : List Entry) → IsLegalPast roster names (later ++ entry ∷ before) → IsLegalPast roster names (entry ∷ before)
  legal_before [] entry before legal = legal
  legal_before (first ∷ later) entry before legal = legal_before later entry before legal.0

  positive : (n : ℕ) (b : Bool) → (n == 0) ≡ b → 1 ≤ n → IsTrue (not b)
  positive n true is some = absurd (omega (arith, number_same n 0 is, some))
  positive n false is some = refl

  taken_once : (later : List Entry) (follow : Entry) (before : List Entry) → IsLegalPast roster names (later ++ follow ∷ before) → HaveAllEnded (later ++ follow ∷ before)
      → IsTrue (is_follow follow.reply) → count_by (takes_end follow.request (prompt_followed follow.reply)) later ≡ 1
  taken_once later follow before legal ended follows =
      let p = prompt_followed follow.reply in
      let r = follow.request in
      let here = legal_before later follow before legal in
      let opened = follows_open before r follow.call follow.reply here.1.1 here.1.2 follows in
      let lead = opened.1.lead in
      let passes = found_passes (λ e. is_lead e.reply && selects e.call opened.0 && not (settled before (prompt_led e.reply))) before lead opened.1.found in
      let led = and_left (is_lead lead.reply) (selects lead.call opened.0) (and_left _ _ passes) in
      let some : 1 ≤ p = omega (arith, from_one before here.0 _ lead opened.1.found led, opened.1.number) in
      let test : Entry → Bool = λ e. not (prompt_followed e.reply == 0) && prompt_followed e.reply == p in
      let there = in_own test later follow before (both (not (p == 0)) (p == p) (positive p (p == 0) refl some) (number_refl p)) in
      let done = ended r (begun roster names (later ++ follow ∷ before) legal r test there) in
      let taken = taken_at_end (later ++ follow ∷ before) legal r p done there in
      taken_behind later follow before legal r p (not_before here opened) ∙ ap (λ b. cond {A = ℕ} b 1 0) taken
    where
      untaken : (b : Bool) → (b ≡ true → settled before (prompt_followed follow.reply) ≡ true) → settled before (prompt_followed follow.reply) ≡ false → b ≡ false
      untaken true some none = absurd (false≢true (sym none ∙ some refl))
      untaken false some none = refl

      not_before : IsLegalPast roster names (follow ∷ before) → (s : ℕ) × IsOpenAt before s (prompt_followed follow.reply) → has_taken (follow ∷ before) follow.request (prompt_followed follow.reply) ≡ false
      not_before here opened = at (follow.request == follow.request) (untaken (has_taken before follow.request (prompt_followed follow.reply)) (taken_settled before here.0 follow.request (prompt_followed follow.reply)) (open_followed before opened.0 (prompt_followed follow.reply) opened.1))
        where
          at : (b : Bool) → has_taken before follow.request (prompt_followed follow.reply) ≡ false → list_any (λ e. takes e.call (prompt_followed follow.reply)) (cond b (follow ∷ own before follow.request) (own before follow.request)) ≡ false
          at true none = ap (λ b. b || has_taken before follow.request (prompt_followed follow.reply)) (no_take follow.call follow.reply (prompt_followed follow.reply) here.1.2 follows) ∙ none
          at false none = none

  pub all_taken : (past : List Entry) → IsLegalPast roster names past → HaveAllEnded past → AreAllTaken past
  all_taken past legal ended later follow before split follows =
      taken_once later follow before (subst (IsLegalPast roster names) split legal) (subst HaveAllEnded split ended) follows
