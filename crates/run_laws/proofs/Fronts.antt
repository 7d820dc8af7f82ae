-- What a run is at a moment that it shares with others.
use Rattle.std.proofs.Common.{◌≡◌, inl, inr, ℕ, zero, suc, ◌+◌, ◌<◌, ◌≤◌, Bool, true, false, not, ◌&&◌, ◌||◌, ◌==◌, cond, IsTrue, List, [], ◌∷◌, ◌++◌, length, reverse, Option, Some, None, refl, sym, ap, ◌∙◌, subst, append_assoc, arith}
use Rattle.std.specs.Prelude.{All, find, is_some, nat_le, option_and_then, option_map, slice_get, unwrap_or}
use Rattle.std.specs.Option.{option_or}
use Rattle.std.specs.List.{cons_option, flat_map, list_any}
use Rattle.std.proofs.lemmas.Bool.{false≢true}
use Rattle.std.proofs.lemmas.Bool.Decides.{nat_tests}
use Rattle.std.proofs.lemmas.List.{append-nil, reverse-append, reverse-reverse}
use Rattle.std.proofs.lemmas.List.Elements.{All-cons, All-head, All-nil, All-tail, filter_map-append}
use Rattle.std.proofs.lemmas.List.Folds.{find-append}
use Rattle.auth_text.specs.Login.{Login}
use Rattle.spaces.specs.ProtectionSpaces.{ProtectionSpace}
use Rattle.spaces.specs.declared.roster.Request.{Request}
use Rattle.spaces.specs.declared.roster.Roster.{Roster}
use Rattle.spaces.specs.declared.site.Target.{Target}
use Rattle.spaces.specs.Sites.{numbered}
use Rattle.auth_events.specs.declared.journal.BookReply.{BookReply}
use Rattle.auth_events.specs.declared.journal.BookReply.TheVariants.{Drawn}
use Rattle.auth_events.specs.declared.journal.Call.{Call}
use Rattle.auth_events.specs.declared.journal.Call.TheVariants.{Select, Reject, Answer, Draw}
use Rattle.auth_events.specs.declared.journal.Entry.{Entry}
use Rattle.auth_events.specs.Book.{IsLegalPast, IsStep, allowed, allowed_call, answer, epoch, is_led_by, own, terms_selected, without_draws}
use Rattle.auth_events.specs.Fresh.{draws_of}
use Rattle.auth_events.specs.Past.{lead, settled}
use Rattle.auth_events.specs.Tables.{Tables, greatest, is_rising, larger, with_text}
use Rattle.auth_events.proofs.Legal.{All-reverse}
use Rattle.auth_events.proofs.MoreNames.{epoch-same}
use Rattle.auth_events.proofs.Numbers.{and_left, and_right, is_not, numbered-append, numbered_in, numbered_suc}
use Rattle.auth_events.proofs.Reversed.{list_any-reverse}
use Rattle.auth_events.proofs.Same.{number_same}
use Rattle.auth_runs.specs.declared.event.Event.{Event}
use Rattle.auth_runs.specs.declared.event.Event.TheVariants.{Called, Drew}
use Rattle.auth_runs.specs.Runs.{Each, Run, entry_of, history, trace}
use Rattle.trace_rule.specs.Closings.{want}
use Rattle.trace_rule.specs.Entries.{Made, calls, made_in}
use Rattle.trace_rule.specs.Growing.{KnowsMore, NamesGrow, grown}
use Rattle.trace_rule.specs.Heard.{IsAnswered, answer_to, leads_to, ordinal_led, space_asked}
use Rattle.trace_rule.specs.Settings.{Setting, setting_of}
use Rattle.trace_rule.specs.Traces.{Follows, IsCall, suits}
use Rattle.trace_rule.proofs.Allowed.{any_map}
use Rattle.trace_rule.proofs.Knowing.{both_of}
use Rattle.trace_rule.proofs.Lasting.{later_knows}
use Rattle.trace_rule.proofs.Stages.{any_within}
use Rattle.trace_rule.proofs.Wishes.{IsFounded, Wish, granted}
use Rattle.trace_laws.specs.Answering.{made}
use Rattle.run_rule.specs.Drawing.{are_next_draws, is_next_draw}
use Rattle.trace_laws.proofs.Givings.{may_of}
use Rattle.run_rule.specs.Naming.{are_in_turn, numbers_in, space_in, terms_in, text_in, unless_zero}
use Rattle.run_rule.specs.Outside.{Outside, answer_for}
use Rattle.run_laws.proofs.Histories.{called, reversed_on, told, told_in}
use Rattle.run_laws.proofs.NamedNext.{IsInTurn, IsNamed, named, named_well}
use Rattle.run_laws.proofs.NamedSoFar.{IsNamedSoFar, at_least, next_of, one_more, rising_behind}
use Rattle.run_laws.proofs.Outsides.{AreFrom, IsOn, behind, ends_over, steps_behind}
use Rattle.run_laws.proofs.Played.{IsPlayed}
use Rattle.run_laws.proofs.Shared.{IsShared, extends, legal_behind, numbers, same_answer}

-- LISTS

onto : (o : Option Entry) (xs past : List Entry) → reverse (cons_option o xs) ++ past ≡ reverse xs ++ cons_option o past
onto None xs past = refl
onto (Some x) xs past = reversed_on x xs past

cons_both : (o : Option Entry) (xs : List Entry) → cons_option o xs ≡ cons_option o [] ++ xs
cons_both None xs = refl
cons_both (Some x) xs = refl

pub numbers_reverse : (number : Call → Option ℕ) (xs : List Entry) → numbers number (reverse xs) ≡ reverse (numbers number xs)
numbers_reverse number [] = refl
numbers_reverse number (x ∷ xs) =
    ap (numbers number) (reverse-append (x ∷ []) xs)
    ∙ (filter_map-append (λ (entry : Entry). number entry.call) (reverse xs) (x ∷ [])
    ∙ (ap (λ l. l ++ cons_option (number x.call) []) (numbers_reverse number xs) ∙ one (number x.call)))
  where
    one : (o : Option ℕ) → reverse (numbers number xs) ++ cons_option o [] ≡ reverse (cons_option o (numbers number xs))
    one None = append-nil (reverse (numbers number xs))
    one (Some n) = sym (reverse-append (n ∷ []) (numbers number xs))

numbers_at : (number : Call → Option ℕ) (journal later : List Entry) (entry : Entry) (entries : List Entry) → reverse journal ≡ later ++ entry ∷ entries → (n : ℕ) → number entry.call ≡ Some n
    → numbers_in number journal ≡ numbers number later ++ (n ∷ numbers number entries)
numbers_at number journal later entry entries e n is =
    sym (numbers_reverse number journal)
    ∙ (ap (numbers number) e
    ∙ (filter_map-append (λ (x : Entry). number x.call) later (entry ∷ entries) ∙ ap (λ o. numbers number later ++ cons_option o (numbers number entries)) is))

in_turn : (number : Call → Option ℕ) (journal later : List Entry) (entry : Entry) (entries : List Entry) → reverse journal ≡ later ++ entry ∷ entries → IsTrue (is_rising (numbers_in number journal))
    → (n : ℕ) → number entry.call ≡ Some n → n ≤ greatest (numbers number entries) + 1
in_turn number journal later entry entries e rising n is =
    let here = rising_behind (numbers number later) (n ∷ numbers number entries) (subst (λ l. IsTrue (is_rising l)) (numbers_at number journal later entry entries e n is) rising) in
    let parts = both_of (nat_le 1 n && nat_le n (greatest (numbers number entries) + 1)) (is_rising (numbers number entries)) here in
    at_least n (greatest (numbers number entries) + 1) (and_right (nat_le 1 n) (nat_le n (greatest (numbers number entries) + 1)) parts.0)

turn_behind : (later earlier : List ℕ) → IsTrue (are_in_turn (later ++ earlier)) → IsTrue (are_in_turn earlier)
turn_behind [] earlier h = h
turn_behind (n ∷ later) earlier h = turn_behind later earlier (and_right (n == length (later ++ earlier) + 1) (are_in_turn (later ++ earlier)) h)

text_turn : (journal later : List Entry) (entry : Entry) (entries : List Entry) → reverse journal ≡ later ++ entry ∷ entries → IsTrue (are_in_turn (numbers_in text_in journal))
    → (n : ℕ) → text_in entry.call ≡ Some n → n ≡ length (numbers text_in entries) + 1
text_turn journal later entry entries e turn n is =
    let here = turn_behind (numbers text_in later) (n ∷ numbers text_in entries) (subst (λ l. IsTrue (are_in_turn l)) (numbers_at text_in journal later entry entries e n is) turn) in
    number_same n (length (numbers text_in entries) + 1) (and_left (n == length (numbers text_in entries) + 1) (are_in_turn (numbers text_in entries)) here)

draw_behind : (names : Tables) (later : List Entry) (entry : Entry) (past : List Entry) → IsTrue (are_next_draws names (later ++ entry ∷ past)) → IsTrue (is_next_draw names past entry.call entry.reply)
draw_behind names [] entry past h = and_right (are_next_draws names past) (is_next_draw names past entry.call entry.reply) h
draw_behind names (x ∷ later) entry past h = draw_behind names later entry past (and_left (are_next_draws names (later ++ entry ∷ past)) (is_next_draw names (later ++ entry ∷ past) x.call x.reply) h)

any_finds : (p : Entry → Bool) (xs : List Entry) → IsTrue (list_any p xs) → IsTrue (is_some (find p xs))
any_finds p [] h = absurd (false≢true h)
any_finds p (x ∷ xs) h = at (p x) (λ k. any_finds p xs k) h
  where
    at : (b : Bool) → (IsTrue (list_any p xs) → IsTrue (is_some (find p xs))) → IsTrue (b || list_any p xs) → IsTrue (is_some (cond b (Some x) (find p xs)))
    at true later k = refl
    at false later k = later k

found_all : (P : Entry → Type 0) (p : Entry → Bool) (xs : List Entry) → All P xs → (x : Entry) → find p xs ≡ Some x → P x
found_all P p [] all x e = let clash : None ≡ Some x = e in cc
found_all P p (y ∷ xs) all x e = at (p y) e (found_all P p xs (All-tail P y xs all) x)
  where
    at : (b : Bool) → cond b (Some y) (find p xs) ≡ Some x → (find p xs ≡ Some x → P x) → P x
    at true k later = let same : y ≡ x = cc in subst P same (All-head P y xs all)
    at false k later = later k

larger_parts : (a b top : ℕ) → larger a b ≤ top → (a ≤ top) × (b ≤ top)
larger_parts a b top h = at (nat_le a b) refl h
  where
    at : (c : Bool) → nat_le a b ≡ c → cond c b a ≤ top → (a ≤ top) × (b ≤ top)
    at true e k = (let le = at_least a b e in omega (arith, le, k), k)
    at false e k = (k, grind (arith, nat_tests, e, k))

asked_parts : (top : ℕ) (call : Call) (ns : List ℕ) → greatest (cons_option (space_in call) ns) ≤ top → (space_asked call ≤ top) × (greatest ns ≤ top)
asked_parts top (Select s t) ns k = larger_parts s (greatest ns) top k
asked_parts top (Reject s o) ns k = (omega arith, (larger_parts s (greatest ns) top k).1)
asked_parts top call ns k = (omega arith, k)

asked_bound : (top : ℕ) (entries : List Entry) → greatest (numbers space_in entries) ≤ top → All (λ (q : Entry). space_asked q.call ≤ top) entries
asked_bound top [] h = All-nil (λ (q : Entry). space_asked q.call ≤ top)
asked_bound top (entry ∷ entries) h =
    let parts = asked_parts top entry.call (numbers space_in entries) h in All-cons (λ (q : Entry). space_asked q.call ≤ top) entry entries parts.0 (asked_bound top entries parts.1)

get_within : {A : Type 0} (xs : List A) (j : ℕ) → j < length xs → IsTrue (is_some (slice_get xs j))
get_within [] j lt = absurd (omega (arith, lt))
get_within (x ∷ xs) zero lt = refl
get_within (x ∷ xs) (suc j) lt = get_within xs j (omega (arith, lt))

-- numbers within the front mean the same
pub numbered_front : {A : Type 0} (zs xs ys : List A) (n : ℕ) → zs ≡ xs ++ ys → n ≤ length xs → numbered zs n ≡ numbered xs n
numbered_front zs xs ys zero e le = refl
numbered_front zs xs ys (suc k) e le = ap (λ l. numbered l (suc k)) e ∙ numbered-append xs ys (suc k) (ap is_some (numbered_suc xs k) ∙ get_within xs k (omega (arith, le)))

some_named : {A : Type 0} (xs : List A) (n : ℕ) → 1 ≤ n → n ≤ length xs → IsTrue (is_some (numbered xs n))
some_named xs zero low high = absurd (omega (arith, low))
some_named xs (suc k) low high = ap is_some (numbered_suc xs k) ∙ get_within xs k (omega (arith, high))

pub some_text : (text : ℕ) → IsTrue (not (text == 0)) → unless_zero text ≡ Some text
some_text text some = ap (λ b. cond b None (Some text)) (is_not (text == 0) some)

-- what each entry has, one of them has
each_in : (P : Call → Type 0) (journal later : List Entry) (entry : Entry) (entries : List Entry) → reverse journal ≡ later ++ entry ∷ entries → Each (λ (q : Entry). P q.call) journal → P entry.call
each_in P journal later entry entries e each = behind_it later (subst (λ l. All (λ (q : Entry). P q.call) l) e (All-reverse (λ (q : Entry). P q.call) journal (all_of journal each)))
  where
    all_of : (xs : List Entry) → Each (λ (q : Entry). P q.call) xs → All (λ (q : Entry). P q.call) xs
    all_of [] h = All-nil (λ (q : Entry). P q.call)
    all_of (x ∷ xs) h = All-cons (λ (q : Entry). P q.call) x xs h.0 (all_of xs h.1)

    behind_it : (later : List Entry) → All (λ (q : Entry). P q.call) (later ++ entry ∷ entries) → P entry.call
    behind_it [] all = All-head (λ (q : Entry). P q.call) entry entries all
    behind_it (x ∷ later) all = behind_it later (All-tail (λ (q : Entry). P q.call) x (later ++ entry ∷ entries) all)

-- an answer that may be made names a text
pub text_allowed : (roster : Roster) (names : Tables) (entries : List Entry) (r p text t : ℕ) → IsTrue (allowed_call roster names entries r (Answer p text t)) → text ≤ length names.texts
text_allowed roster names entries r p text t may =
    let led = is_led_by entries r p && not (settled entries p) in
    let first = and_left (led && nat_le text (length names.texts)) (unwrap_or (option_map (λ (entry : Entry). terms_selected entry.call == t) (lead entries p)) false) may in
    at_least text (length names.texts) (and_right led (nat_le text (length names.texts)) first)

-- a call that was wanted
pub called_by : (s : Setting) (past : List Event) (call : Call) (e : Event) → IsCall s past call e → (reply : BookReply) × (e ≡ Called call reply) × IsTrue (suits s past call reply)
called_by s past call (Called made reply) h = (reply, ap (λ c. Called c reply) h.0, subst (λ c. IsTrue (suits s past c reply)) h.0 h.1)
called_by s past call _ h = absurd h

-- THE MOMENT

pub record IsAt (roster : Roster) (outside : Outside) (seed : List ℕ) (run : Run) (r k : ℕ) (request : Request) (names : Tables) (entries whole : List Entry) (past events : List Event) (later : List ℕ) : Type 0 where
  pub so_far : IsNamedSoFar names run.names
  pub by_calls : reverse run.journal ≡ reverse (flat_map (λ q. called q (trace run q)) later) ++ (reverse (called r events) ++ entries)
  pub by_traces : reverse (history run) ≡ reverse (flat_map (λ q. told q (trace run q)) later) ++ (reverse (told r events) ++ whole)
  pub is_on : IsOn (setting_of roster seed run.names (reverse run.journal) r request) outside.streams (answer_for outside run) (outside.steps r) past events
  pub is_over : IsTrue (ends_over (setting_of roster seed run.names (reverse run.journal) r request) outside.streams (answer_for outside run) (outside.steps r) past events)
  pub stepped : AreFrom (outside.steps r) k events

module _ (roster : Roster) (outside : Outside) (seed : List ℕ) (run : Run) (is : IsPlayed roster outside seed run)
    (r k : ℕ) (request : Request) (names : Tables) (entries whole : List Entry) (past : List Event) (e : Event) (events : List Event) (later : List ℕ)
    (sh : IsShared roster seed r request names entries whole past) (at : IsAt roster outside seed run r k request names entries whole past (e ∷ events) later) where
  abbrev pub in_run : Setting
  in_run = setting_of roster seed run.names (reverse run.journal) r request

  abbrev so_far : Setting
  so_far = setting_of roster seed names entries r request

  abbrev later_calls : List Entry
  later_calls = reverse (flat_map (λ q. called q (trace run q)) later) ++ reverse (called r events)

  abbrev later_told : List Entry
  later_told = reverse (flat_map (λ q. told q (trace run q)) later) ++ reverse (told r events)

  calls_at : reverse run.journal ≡ later_calls ++ cons_option (entry_of 1 r e) entries
  calls_at =
      at.by_calls
      ∙ (ap (λ l. reverse (flat_map (λ q. called q (trace run q)) later) ++ l) (onto (entry_of 1 r e) (called r events) entries)
      ∙ sym (append_assoc (reverse (flat_map (λ q. called q (trace run q)) later)) (reverse (called r events)) (cons_option (entry_of 1 r e) entries)))

  told_at : reverse (history run) ≡ later_told ++ cons_option (told_in r e) whole
  told_at =
      at.by_traces
      ∙ (ap (λ l. reverse (flat_map (λ q. told q (trace run q)) later) ++ l) (onto (told_in r e) (told r events) whole)
      ∙ sym (append_assoc (reverse (flat_map (λ q. told q (trace run q)) later)) (reverse (told r events)) (cons_option (told_in r e) whole)))

  abbrev all_later : List Entry
  all_later = later_calls ++ cons_option (entry_of 1 r e) []

  all_at : reverse run.journal ≡ all_later ++ entries
  all_at = calls_at ∙ (ap (λ l. later_calls ++ l) (cons_both (entry_of 1 r e) entries) ∙ sym (append_assoc later_calls (cons_option (entry_of 1 r e) []) entries))

  call_at : (call : Call) (reply : BookReply) → e ≡ Called call reply → reverse run.journal ≡ later_calls ++ made 1 r call reply ∷ entries
  call_at call reply is_e = calls_at ∙ ap (λ x. later_calls ++ cons_option (entry_of 1 r x) entries) is_e

  knows : KnowsMore so_far in_run
  knows =
      subst (λ l. KnowsMore so_far (setting_of roster seed run.names l r request)) (sym all_at)
      (later_knows roster seed names run.names at.so_far.grow all_later entries (subst (IsLegalPast roster run.names) all_at is.legal) r request)

  -- the entry is a step of the book
  step_at : (call : Call) (reply : BookReply) → e ≡ Called call reply → IsStep roster run.names entries (made 1 r call reply)
  step_at call reply is_e = (legal_behind roster run.names later_calls (made 1 r call reply ∷ entries) (subst (IsLegalPast roster run.names) (call_at call reply is_e) is.legal)).1

  -- its reply is the answer by the names so far
  pub reply_is : (more : Tables) (call : Call) (reply : BookReply) → e ≡ Called call reply → NamesGrow more run.names → IsLegalPast roster more entries → IsTrue (allowed roster more entries 1 r call)
      → reply ≡ answer roster more entries r call
  reply_is more call reply is_e grow legal may = same_answer roster more run.names entries r request call reply grow sh.serving.in_roster sh.pages legal may (step_at call reply is_e)

  -- texts have their turn
  pub text_is : (call : Call) (reply : BookReply) → e ≡ Called call reply → (n : ℕ) → text_in call ≡ Some n → n ≡ length names.texts + 1
  text_is call reply is_e n q =
      let order = and_right (is_rising (numbers_in space_in run.journal) && is_rising (numbers_in terms_in run.journal)) (are_in_turn (numbers_in text_in run.journal)) is.in_order in
      text_turn run.journal later_calls (made 1 r call reply) entries (call_at call reply is_e) order n q ∙ ap (λ m. m + 1) sh.texts

  turns : (call : Call) (reply : BookReply) → e ≡ Called call reply → IsInTurn names call
  turns call reply is_e =
      let order = and_left (is_rising (numbers_in space_in run.journal) && is_rising (numbers_in terms_in run.journal)) (are_in_turn (numbers_in text_in run.journal)) is.in_order in
      let parts = both_of (is_rising (numbers_in space_in run.journal)) (is_rising (numbers_in terms_in run.journal)) order in
      record {
        space = λ n q. (let le = in_turn space_in run.journal later_calls (made 1 r call reply) entries (call_at call reply is_e) parts.0 n q in let top = sh.spaces in omega (arith, le, top));
        terms = λ n q. (let le = in_turn terms_in run.journal later_calls (made 1 r call reply) entries (call_at call reply is_e) parts.1 n q in let top = sh.terms in omega (arith, le, top));
      }

  -- a draw is the next one of its nonce, by the names so far
  pub draw_is : (more : Tables) (t : Target) (n count at_epoch : ℕ) → e ≡ Drew t n count at_epoch → NamesGrow more run.names → IsLegalPast roster more entries
      → (count ≡ length (draws_of whole n) + 1) × (at_epoch ≡ epoch more entries n)
  draw_is more t n count at_epoch is_e grow legal =
      let entry : Entry = record { caller = 1; request = r; call = Draw n; reply = Drawn count at_epoch } in
      let there : reverse (history run) ≡ later_told ++ entry ∷ whole = told_at ∙ ap (λ x. later_told ++ cons_option (told_in r x) whole) is_e in
      let next = draw_behind run.names later_told entry whole (subst (λ l. IsTrue (are_next_draws run.names l)) there is.next_draws) in
      let parts = both_of (count == length (draws_of whole n) + 1) (at_epoch == epoch run.names (without_draws whole) n) next in (
        number_same count (length (draws_of whole n) + 1) parts.0,
        number_same at_epoch (epoch run.names (without_draws whole) n) parts.1
            ∙ (ap (λ l. epoch run.names l n) sh.undrawn ∙ sym (epoch-same roster more run.names (extends more run.names grow) (length roster.requests) entries sh.pages legal n)),
      )

  -- a prompt that was led has its answer by the names so far
  pub answer_is : (p : ℕ) → IsTrue (list_any (λ m. leads_to m.reply p) (calls past))
      → answer_to outside.answers run.names (find (λ q. leads_to q.reply p) run.journal) ≡ answer_to outside.answers names (find (λ q. leads_to q.reply p) (reverse entries))
  answer_is p led = by (find is_lead (reverse entries)) refl (any_finds is_lead (reverse entries) (list_any-reverse is_lead entries ∙ among))
    where
      is_lead : Entry → Bool
      is_lead q = leads_to q.reply p

      among : IsTrue (list_any is_lead entries)
      among =
          any_within is_lead (λ q. q.request == r) entries
          (any_map made_in (λ (m : Made). leads_to m.reply p) (own entries r) ∙ (ap (list_any (λ (m : Made). leads_to m.reply p)) sh.serving.same_calls ∙ led))

      journal_is : run.journal ≡ reverse entries ++ reverse all_later
      journal_is = sym (reverse-reverse run.journal) ∙ (ap reverse all_at ∙ reverse-append all_later entries)

      by : (o : Option Entry) → find is_lead (reverse entries) ≡ o → IsTrue (is_some o)
          → answer_to outside.answers run.names (find is_lead run.journal) ≡ answer_to outside.answers names (find is_lead (reverse entries))
      by None q some = absurd (false≢true some)
      by (Some lead) q some =
          let in_all : find is_lead run.journal ≡ Some lead =
          ap (find is_lead) journal_is ∙ (find-append is_lead (reverse entries) (reverse all_later) ∙ ap (λ o. option_or o (find is_lead (reverse all_later))) q) in
          let le : space_asked lead.call ≤ length names.spaces =
          found_all (λ (x : Entry). space_asked x.call ≤ length names.spaces) is_lead (reverse entries)
          (All-reverse (λ (x : Entry). space_asked x.call ≤ length names.spaces) entries (asked_bound (length names.spaces) entries sh.spaces)) lead q in
          ap (answer_to outside.answers run.names) in_all
          ∙ (ap (λ o. option_and_then (λ (space : ProtectionSpace). outside.answers space (ordinal_led lead.reply)) o) (numbered_front run.names.spaces names.spaces at.so_far.grow.new_spaces (space_asked lead.call) at.so_far.grow.spaces le)
          ∙ sym (ap (answer_to outside.answers names) q))

  -- THE NEXT TEXT

  module _ (p t text : ℕ) (reply : BookReply) (is_e : e ≡ Called (Answer p text t) reply) (some : IsTrue (not (text == 0))) (led : IsTrue (list_any (λ m. leads_to m.reply p) (calls past))) where
    pub text_place : text ≡ length names.texts + 1
    text_place = text_is (Answer p text t) reply is_e text (some_text text some)

    -- what stands for the prompt
    abbrev pub given : Option Login
    given = answer_to outside.answers names (find (λ q. leads_to q.reply p) (reverse entries))

    named_text : numbered run.names.texts text ≡ given
    named_text =
        each_in (λ c. IsAnswered outside.answers run.names run.journal c) run.journal later_calls (made 1 r (Answer p text t) reply) entries (call_at (Answer p text t) reply is_e) is.answered
        ∙ answer_is p led

    pub login_is : (login : Login) × (given ≡ Some login)
    login_is = by (numbered run.names.texts text) refl (some_named run.names.texts text low high)
      where
        low : 1 ≤ text
        low = let place = text_place in omega (arith, place)

        high : text ≤ length run.names.texts
        high =
            let may = may_of roster run.names entries (made 1 r (Answer p text t) reply) (step_at (Answer p text t) reply is_e) in
            text_allowed roster run.names entries r p text t may

        by : (o : Option Login) → numbered run.names.texts text ≡ o → IsTrue (is_some o) → (login : Login) × (given ≡ Some login)
        by None q k = absurd (false≢true k)
        by (Some login) q k = (login, sym named_text ∙ q)

    pub text_next : (more : Tables) → IsNamedSoFar more run.names → more.texts ≡ names.texts → (login : Login) → given ≡ Some login → IsNamedSoFar (with_text more login) run.names
    text_next more named_more same login q =
        let there : numbered (more.texts ++ named_more.grow.new_texts) text ≡ Some login = ap (λ l. numbered l text) (sym named_more.grow.texts) ∙ (named_text ∙ q) in
        let place : text ≡ length more.texts + 1 = text_place ∙ ap (λ l. length l + 1) (sym same) in
        elim (next_of more.texts named_more.grow.new_texts text login there (omega (arith, place))) [
          | inl old ↦ absurd (let range = numbered_in more.texts text (ap is_some old) in let high = range.1 in omega (arith, place, high))
          | inr new ↦
              record {
                grow = record {
                  new_spaces = named_more.grow.new_spaces;
                  new_terms = named_more.grow.new_terms;
                  new_texts = new.1.0;
                  spaces = named_more.grow.spaces;
                  terms = named_more.grow.terms;
                  texts = one_more run.names.texts more.texts named_more.grow.new_texts login new.1.0 named_more.grow.texts new.1.1;
                };
                new_nonces = named_more.new_nonces;
                nonces = named_more.nonces;
              }
        ]

  -- WHAT IS WISHED

  module _ (x : Wish) (founded : IsFounded so_far x) (wished : (m : Setting) → KnowsMore so_far m → want (grown so_far m) past ≡ granted (grown so_far m) x) where
    follows_wish : Follows in_run past (granted in_run x) e
    follows_wish = subst (λ w. Follows in_run past w e) (wished in_run knows) at.is_on.0.0

    -- it is granted by the names so far, with what it names
    pub named_at : IsNamed names run.names x (λ z. setting_of roster seed z entries r request) (granted in_run x)
    named_at =
        named_well roster seed r request names run.names entries (reverse run.journal) at.so_far sh.serving.are_names is.are_names x founded (granted in_run x) refl
        (λ q. subst (λ w. Follows in_run past w e) q follows_wish)
        (λ call q. (let made_here = called_by in_run past call e (subst (λ w. Follows in_run past w e) q follows_wish) in turns call made_here.0 made_here.1))

    pub follows_at : Follows in_run past (granted (setting_of roster seed (named names x) entries r request) x) e
    follows_at = subst (λ w. Follows in_run past w e) (sym named_at.is_wanted) follows_wish

  -- ONE EVENT ON

  pub next_at : (more : Tables) → IsNamedSoFar more run.names
      → IsAt roster outside seed run r (behind k e) request more (cons_option (entry_of 1 r e) entries) (cons_option (told_in r e) whole) (e ∷ past) events later
  next_at more named_more = record {
    so_far = named_more;
    by_calls = calls_at ∙ append_assoc (reverse (flat_map (λ q. called q (trace run q)) later)) (reverse (called r events)) (cons_option (entry_of 1 r e) entries);
    by_traces = told_at ∙ append_assoc (reverse (flat_map (λ q. told q (trace run q)) later)) (reverse (told r events)) (cons_option (told_in r e) whole);
    is_on = at.is_on.1;
    is_over = at.is_over;
    stepped = steps_behind (outside.steps r) k e events at.is_on.0.2.0 at.is_on.0.2.1 at.stepped;
  }
