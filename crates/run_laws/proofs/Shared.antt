-- What runs share that agree up to a moment: the names so far, the entries so far, and what has happened in the request.
use Rattle.std.proofs.Common.{◌≡◌, ℕ, ◌≤◌, Bool, true, false, not, ◌==◌, cond, IsTrue, List, [], ◌∷◌, ◌++◌, length, map, Option, Some, None, refl, sym, ap, ◌∙◌, subst, length-append, arith}
use Rattle.std.specs.Prelude.{All, filter_map, is_some, nat_le}
use Rattle.std.specs.List.{cons_option, list_all}
use Rattle.std.proofs.lemmas.Bool.{false≢true}
use Rattle.std.proofs.lemmas.List.Elements.{All-cons}
use Rattle.spaces.specs.declared.roster.Request.{Request}
use Rattle.spaces.specs.declared.roster.Roster.{Roster}
use Rattle.spaces.specs.Sites.{numbered}
use Rattle.auth_events.specs.declared.journal.BookReply.{BookReply}
use Rattle.auth_events.specs.declared.journal.BookReply.TheVariants.{Cancelled, Given}
use Rattle.auth_events.specs.declared.journal.Call.{Call}
use Rattle.auth_events.specs.declared.journal.Call.TheVariants.{Begin, Preempt, Select, Reject, Renew, Answer, Lose, Take, Note, End, Draw}
use Rattle.auth_events.specs.declared.journal.Entry.{Entry}
use Rattle.auth_events.specs.declared.journal.Gift.{Gift}
use Rattle.auth_events.specs.declared.names.TermsName.{TermsName}
use Rattle.auth_events.specs.Book.{Choice, IsLegalPast, IsStep, allowed, allowed_call, answer, choice, fits_space, has_terms, is_digest, is_rival, next_gift, own, preempt_answer, ready, scheme_is, select_answer, space_by_path, space_of_prompt, without_draws}
use Rattle.auth_events.specs.Book.Choice.{ByUrl, ByCache, ByDefault, ByFollowing, ByLeading}
use Rattle.auth_events.specs.Pages.{IsPage, fits}
use Rattle.auth_events.specs.Past.{current, evicted}
use Rattle.auth_events.specs.Tables.{Tables, AreNames, greatest, larger}
use Rattle.auth_events.proofs.Legal.{fits_no_draw}
use Rattle.auth_events.proofs.MoreNames.{Extends, IsLegal-more}
use Rattle.auth_events.proofs.NamedThings.{select_named}
use Rattle.auth_events.proofs.Numbers.{numbered-append, numbered_in, some_of_test}
use Rattle.auth_events.proofs.Same.{number_refl}
use Rattle.auth_runs.specs.declared.event.Event.{Event}
use Rattle.auth_runs.specs.declared.event.Event.TheVariants.{Called}
use Rattle.trace_rule.specs.Closings.{want}
use Rattle.trace_rule.specs.Entries.{calls, made_in}
use Rattle.trace_rule.specs.Growing.{NamesGrow}
use Rattle.trace_rule.specs.Serving.{IsServing}
use Rattle.trace_rule.specs.Settings.{Setting, setting_of}
use Rattle.trace_rule.specs.Traces.{Follows, IsPast}
use Rattle.trace_rule.proofs.Drops.{entries_bound, spaces_numbered}
use Rattle.trace_rule.proofs.Growing.{past_more}
use Rattle.trace_rule.proofs.Lasting.{later_knows}
use Rattle.trace_laws.specs.Answering.{made}
use Rattle.trace_laws.proofs.Givings.{answered_fits, may_of, renewed_fits, selected_fits}
use Rattle.run_rule.specs.Naming.{space_in, terms_in, text_in, unless_zero}
use Rattle.run_laws.proofs.NamedSoFar.{grow_not}

-- NUMBERS

-- the numbers that the entries name, the latest first
abbrev pub numbers : (Call → Option ℕ) → List Entry → List ℕ
numbers number entries = filter_map (λ entry. number entry.call) entries

larger_within : (a b top : ℕ) → a ≤ top → b ≤ top → larger a b ≤ top
larger_within a b top p q = at (nat_le a b)
  where
    at : (c : Bool) → cond c b a ≤ top
    at true = q
    at false = p

pub bound_cons : (o : Option ℕ) (ns : List ℕ) (top : ℕ) → ((n : ℕ) → o ≡ Some n → n ≤ top) → greatest ns ≤ top → greatest (cons_option o ns) ≤ top
bound_cons None ns top p q = q
bound_cons (Some n) ns top p q = larger_within n (greatest ns) top (p n refl) q

pub told_nothing : (n : ℕ) (o : Option ℕ) {P : Type 0} → o ≡ None → o ≡ Some n → P
told_nothing n o e f = let clash : None ≡ Some n = sym e ∙ f in cc

pub unless_is : (t n : ℕ) → unless_zero t ≡ Some n → (t ≡ n) × ((t == 0) ≡ false)
unless_is t n e = at (t == 0) refl e
  where
    at : (b : Bool) → (t == 0) ≡ b → cond b None (Some t) ≡ Some n → (t ≡ n) × ((t == 0) ≡ false)
    at true z k = let clash : None ≡ Some n = k in cc
    at false z k = (let same : t ≡ n = cc in same, z)

-- GROWING

pub extends : (names more : Tables) → NamesGrow names more → Extends names more
extends names more grow = record {
  spaces = λ s named. ap (λ l. numbered l s) grow.spaces ∙ numbered-append names.spaces grow.new_spaces s named;
  terms = λ t named. ap (λ l. numbered l t) grow.terms ∙ numbered-append names.terms grow.new_terms t named;
  text = λ x named. ap (λ l. numbered l x) grow.texts ∙ numbered-append names.texts grow.new_texts x named;
  texts = omega (arith, ap length grow.texts, length-append names.texts grow.new_texts);
}

pub legal_behind : (roster : Roster) (names : Tables) (later past : List Entry) → IsLegalPast roster names (later ++ past) → IsLegalPast roster names past
legal_behind roster names [] past legal = legal
legal_behind roster names (entry ∷ later) past legal = legal_behind roster names later past legal.0

-- THE SHARED STATE

pub record IsShared (roster : Roster) (seed : List ℕ) (r : ℕ) (request : Request) (names : Tables) (entries whole : List Entry) (past : List Event) : Type 0 where
  pub serving : IsServing roster names entries 1 r request (setting_of roster seed names entries r request) past
  pub pages : All (IsPage (length roster.requests)) entries
  pub undrawn : without_draws whole ≡ entries
  pub spaces : greatest (numbers space_in entries) ≤ length names.spaces
  pub terms : greatest (numbers terms_in entries) ≤ length names.terms
  pub texts : length (numbers text_in entries) ≡ length names.texts
  pub text_top : greatest (numbers text_in entries) ≤ length names.texts
  pub low : All (λ entry. entry.request ≤ r) entries

-- a page of a request
pub page_of : (roster : Roster) (r : ℕ) (request : Request) (call : Call) (reply : BookReply) → numbered roster.requests r ≡ Some request → IsTrue (fits call reply) → IsPage (length roster.requests) (made 1 r call reply)
page_of roster r request call reply there fit = let range = numbered_in roster.requests r (ap is_some there) in record { from_one = range.0; in_roster = range.1; fit = fit }

-- with more names
pub serving_more : (roster : Roster) (seed : List ℕ) (r : ℕ) (request : Request) (names more : Tables) (entries : List Entry) (past : List Event) → NamesGrow names more → AreNames more
    → All (IsPage (length roster.requests)) entries
    → IsServing roster names entries 1 r request (setting_of roster seed names entries r request) past → IsServing roster more entries 1 r request (setting_of roster seed more entries r request) past
serving_more roster seed r request names more entries past grow are pages v =
    let legal : IsLegalPast roster more entries = IsLegal-more roster names more (extends names more grow) (length roster.requests) entries pages v.legal in
    record {
      legal = legal;
      are_names = are;
      in_roster = v.in_roster;
      same_calls = v.same_calls;
      one_caller = v.one_caller;
      few = v.few;
      is_past =
          past_more (setting_of roster seed names entries r request) (setting_of roster seed more entries r request)
          (later_knows roster seed names more grow [] entries legal r request) past v.is_past;
    }

-- WHAT A CALL NAMES IS NAMED

named_within : {A : Type 0} (things : List A) (n : ℕ) → IsTrue (is_some (numbered things n)) → n ≤ length things
named_within things n named = (numbered_in things n named).1

-- terms that fit a space are named, unless they are none
fit_named : (names : Tables) (s t n : ℕ) → IsTrue (fits_space names s t) → unless_zero t ≡ Some n → n ≤ length names.terms
fit_named names s t n fit e = at (scheme_is names is_digest s) fit
  where
    at : (b : Bool) → IsTrue (cond b (has_terms names s t) (t == 0)) → n ≤ length names.terms
    at true has = subst (λ m. m ≤ length names.terms) (unless_is t n e).0 (named_within names.terms t (some_of_test (λ (name : TermsName). name.space == s) (numbered names.terms t) has))
    at false none = absurd (false≢true (sym (unless_is t n e).1 ∙ none))

module _ (roster : Roster) (names : Tables) (past : List Entry) (legal : IsLegalPast roster names past) (r : ℕ) where
  pub space_within : (call : Call) (n : ℕ) → IsTrue (allowed_call roster names past r call) → ((s o : ℕ) → call ≡ Reject s o → IsTrue (is_some (numbered names.spaces s))) → space_in call ≡ Some n → n ≤ length names.spaces
  space_within (Select s t) n may known e =
      let same : s ≡ n = (let k : Some s ≡ Some n = e in cc) in
      subst (λ m. m ≤ length names.spaces) same (named_within names.spaces s (select_named roster names past r s t may).space)
  space_within (Reject s o) n may known e =
      let same : s ≡ n = (let k : Some s ≡ Some n = e in cc) in
      subst (λ m. m ≤ length names.spaces) same (named_within names.spaces s (known s o refl))
  space_within call n may known e = told_nothing n (space_in call) refl e

  pub terms_within : (call : Call) (n : ℕ) → IsTrue (allowed_call roster names past r call) → terms_in call ≡ Some n → n ≤ length names.terms
  terms_within (Select s t) n may e = fit_named names s t n (selected_fits roster names past r s t may) e
  terms_within (Renew gift t) n may e = fit_named names gift.space t n (renewed_fits roster names past r gift t may) e
  terms_within (Answer p text t) n may e = fit_named names (space_of_prompt past p) t n (answered_fits roster names past legal r p text t may) e
  terms_within call n may e = told_nothing n (terms_in call) refl e

-- THE ANSWER

answer_fits : (roster : Roster) (names more : Tables) (past : List Entry) (r : ℕ) (call : Call) → IsTrue (fits call (answer roster more past r call)) → IsTrue (fits call (answer roster names past r call))
answer_fits roster names more past r Begin h = refl
answer_fits roster names more past r (Preempt target) h = at (space_by_path roster names past r target)
  where
    held : (s : ℕ) (o : Option Gift) → IsTrue (fits (Preempt target) (ready names past s o))
    held s None = refl
    held s (Some gift) = refl

    at : (o : Option ℕ) → IsTrue (fits (Preempt target) (preempt_answer names past o))
    at None = refl
    at (Some s) = held s (current past s)
answer_fits roster names more past r (Select space t) h = at (choice roster names past r space)
  where
    at : (how : Choice) → IsTrue (fits (Select space t) (select_answer (is_rival names space) past space how))
    at ByUrl = refl
    at (ByCache gift) = refl
    at ByDefault = refl
    at (ByFollowing p) = refl
    at ByLeading = refl
answer_fits roster names more past r (Reject space ordinal) h = h
answer_fits roster names more past r (Renew gift t) h = h
answer_fits roster names more past r (Answer prompt text t) h = at (text == 0)
  where
    at : (b : Bool) → IsTrue (fits (Answer prompt text t) (cond b Cancelled (Given (next_gift past (space_of_prompt past prompt)) (evicted (is_rival names (space_of_prompt past prompt)) past (space_of_prompt past prompt)))))
    at true = refl
    at false = refl
answer_fits roster names more past r (Lose prompt loss) h = refl
answer_fits roster names more past r (Take prompt) h = h
answer_fits roster names more past r (Note gift) h = h
answer_fits roster names more past r End h = refl
answer_fits roster names more past r (Draw nonce) h = h

-- what may be asked has the same answer where more is named
pub same_answer : (roster : Roster) (names more : Tables) (past : List Entry) (r : ℕ) (request : Request) (call : Call) (reply : BookReply) → NamesGrow names more → numbered roster.requests r ≡ Some request
    → All (IsPage (length roster.requests)) past → IsLegalPast roster names past → IsTrue (allowed roster names past 1 r call) → IsStep roster more past (made 1 r call reply)
    → reply ≡ answer roster names past r call
same_answer roster names more past r request call reply grow there pages legal may step =
    let done : BookReply = answer roster names past r call in
    let fit : IsTrue (fits call done) = answer_fits roster names more past r call (subst (λ x. IsTrue (fits call x)) step.1 step.2) in
    let both : IsLegalPast roster more (made 1 r call done ∷ past) =
    IsLegal-more roster names more (extends names more grow) (length roster.requests) (made 1 r call done ∷ past)
    (All-cons (IsPage (length roster.requests)) (made 1 r call done) past (page_of roster r request call done there fit) pages) (legal, (may, refl, fit)) in
    step.1 ∙ sym both.1.1

-- ONE CALL MORE

own_more : (entry : Entry) (entries : List Entry) (r : ℕ) → entry.request ≡ r → own (entry ∷ entries) r ≡ entry ∷ own entries r
own_more entry entries r e = ap (λ b. cond b (entry ∷ own entries r) (own entries r)) (ap (λ n. n == r) e ∙ number_refl r)

-- a served request goes on with a call that comes next
pub shared_call : (roster : Roster) (seed : List ℕ) (r : ℕ) (request : Request) (names more : Tables) (entries whole : List Entry) (past : List Event) (call : Call) (reply : BookReply)
    → IsShared roster seed r request names entries whole past → NamesGrow names more
    → IsServing roster more entries 1 r request (setting_of roster seed more entries r request) past
    → IsStep roster more entries (made 1 r call reply)
    → Follows (setting_of roster seed more (made 1 r call reply ∷ entries) r request) past (want (setting_of roster seed more (made 1 r call reply ∷ entries) r request) past) (Called call reply)
    → ((s o : ℕ) → call ≡ Reject s o → IsTrue (is_some (numbered more.spaces s)))
    → length (numbers text_in (made 1 r call reply ∷ entries)) ≡ length more.texts → greatest (numbers text_in (made 1 r call reply ∷ entries)) ≤ length more.texts
    → IsShared roster seed r request more (made 1 r call reply ∷ entries) (made 1 r call reply ∷ whole) (Called call reply ∷ past)
shared_call roster seed r request names more entries whole past call reply sh grow v step follows known texts top =
    record {
      serving = record {
        legal = legal;
        are_names = v.are_names;
        in_roster = v.in_roster;
        same_calls = same_calls;
        one_caller = subst (λ l. IsTrue (list_all (λ (e : Entry). e.caller == 1) l)) (sym (own_more entry entries r refl)) v.one_caller;
        few = (let le = entries_bound later (spaces_numbered false roster seed more (entry ∷ entries) r request) (entry ∷ entries) r (Called call reply ∷ past) is_past same_calls in omega (arith, le));
        is_past = is_past;
      };
      pages = All-cons (IsPage (length roster.requests)) entry entries (page_of roster r request call reply v.in_roster step.2) sh.pages;
      undrawn = ap (λ b. cond (not b) (entry ∷ without_draws whole) (without_draws whole)) (fits_no_draw call reply step.2) ∙ ap (λ l. entry ∷ l) sh.undrawn;
      spaces = bound_cons (space_in call) (numbers space_in entries) (length more.spaces) (λ n e. space_within roster more entries v.legal r call n may known e)
          (let le = sh.spaces in omega (arith, le, ap length grow.spaces, length-append names.spaces grow.new_spaces));
      terms = bound_cons (terms_in call) (numbers terms_in entries) (length more.terms) (λ n e. terms_within roster more entries v.legal r call n may e)
          (let le = sh.terms in omega (arith, le, ap length grow.terms, length-append names.terms grow.new_terms));
      texts = texts;
      text_top = top;
      low = All-cons (λ (e : Entry). e.request ≤ r) entry entries (omega arith) sh.low;
    }
  where
    entry : Entry
    entry = made 1 r call reply

    later : Setting
    later = setting_of roster seed more (entry ∷ entries) r request

    legal : IsLegalPast roster more (entry ∷ entries)
    legal = (v.legal, step)

    may : IsTrue (allowed_call roster more entries r call)
    may = may_of roster more entries entry step

    is_past : IsPast later (Called call reply ∷ past)
    is_past = (past_more (setting_of roster seed more entries r request) later (later_knows roster seed more more (grow_not more) (entry ∷ []) entries legal r request) past v.is_past, follows)

    same_calls : map made_in (own (entry ∷ entries) r) ≡ calls (Called call reply ∷ past)
    same_calls = ap (map made_in) (own_more entry entries r refl) ∙ ap (λ l. record { call = call; reply = reply } ∷ l) v.same_calls

-- ONE EVENT MORE THAT IS NO CALL

pub shared_event : (roster : Roster) (seed : List ℕ) (r : ℕ) (request : Request) (names more : Tables) (entries whole : List Entry) (past : List Event) (e : Event)
    → IsShared roster seed r request names entries whole past → NamesGrow names more → more.texts ≡ names.texts
    → IsServing roster more entries 1 r request (setting_of roster seed more entries r request) past
    → Follows (setting_of roster seed more entries r request) past (want (setting_of roster seed more entries r request) past) e
    → calls (e ∷ past) ≡ calls past → (after : List Entry) → without_draws after ≡ without_draws whole
    → IsShared roster seed r request more entries after (e ∷ past)
shared_event roster seed r request names more entries whole past e sh grow same_texts v follows same after undrawn =
    record {
      serving = record {
        legal = v.legal;
        are_names = v.are_names;
        in_roster = v.in_roster;
        same_calls = v.same_calls ∙ sym same;
        one_caller = v.one_caller;
        few = v.few;
        is_past = (v.is_past, follows);
      };
      pages = sh.pages;
      undrawn = undrawn ∙ sh.undrawn;
      spaces = (let le = sh.spaces in omega (arith, le, ap length grow.spaces, length-append names.spaces grow.new_spaces));
      terms = (let le = sh.terms in omega (arith, le, ap length grow.terms, length-append names.terms grow.new_terms));
      texts = sh.texts ∙ sym (ap length same_texts);
      text_top = (let le = sh.text_top in omega (arith, le, ap length same_texts));
      low = sh.low;
    }
