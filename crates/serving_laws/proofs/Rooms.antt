-- A request of one caller names few things.
use Rattle.std.proofs.Common.{◌≡◌, ◌⊎◌, inl, inr, ℕ, ◌+◌, ◌≤◌, ◌<◌, Bool, true, false, ◌||◌, cond, IsTrue, List, [], ◌∷◌, if◌then◌else◌, length, refl, sym, ap, ◌∙◌, subst, arith}
use Rattle.std.proofs.lemmas.List.Sums.{sum_by-append, sum_by-cons}
use Rattle.std.specs.List.{list_any}
use Rattle.std.proofs.lemmas.Bool.{false≢true}
use Rattle.spaces.specs.declared.roster.Request.{Request}
use Rattle.spaces.specs.declared.roster.Roster.{Roster}
use Rattle.auth_events.specs.declared.journal.BookReply.{BookReply}
use Rattle.auth_events.specs.declared.journal.BookReply.TheVariants.{Kept, Renewed}
use Rattle.auth_events.specs.declared.journal.Call.{Call}
use Rattle.auth_events.specs.declared.journal.Call.TheVariants.{Renew, Select}
use Rattle.auth_events.specs.declared.journal.Entry.{Entry}
use Rattle.auth_events.specs.Pages.{fits}
use Rattle.auth_events.specs.Past.{current, current_ordinal}
use Rattle.auth_events.specs.Book.{Choice, IsStep, answer, begins, choice, is_rival, is_that_gift, select_answer}
use Rattle.auth_events.specs.Book.Choice.{ByUrl, ByCache, ByDefault, ByFollowing, ByLeading}
use Rattle.auth_events.specs.Tables.{Tables}
use Rattle.auth_runs.specs.declared.event.Event.{Event}
use Rattle.auth_runs.specs.declared.event.Event.TheVariants.{Called}
use Rattle.book_laws.proofs.Counting.{begun_few}
use Rattle.trace_rule.specs.Closings.{want}
use Rattle.trace_rule.specs.Entries.{calls}
use Rattle.trace_rule.specs.Holding.{is_no_mechanism}
use Rattle.trace_rule.specs.Moves.Want.{Calls}
use Rattle.trace_rule.specs.Settings.{Setting, setting_of}
use Rattle.trace_rule.specs.Traces.{Follows, IsPast}
use Rattle.trace_rule.proofs.Drops.{none_missing, spaces_numbered}
use Rattle.trace_rule.proofs.Ending.{began}
use Rattle.trace_laws.specs.Answering.{made}
use Rattle.trace_laws.specs.Lengths.{gives_terms, terms_given}
use Rattle.trace_laws.proofs.Renewals.{few_terms}
use Rattle.serving_laws.specs.Alone.{IsAlone, entries_of}
use Rattle.serving_laws.specs.Knowing.{KnowsBook}
use Rattle.serving_laws.specs.Rooms.{begun}
use Rattle.serving_laws.specs.Taking.{ComesNext, IsTaken}
use Rattle.serving_laws.proofs.Calling.{call_allowed, call_taken}
use Rattle.serving_laws.proofs.Knowing.{knew_before, knows_itself, same_names}

fits_choice : (rival : ℕ → Bool) (entries : List Entry) (s t : ℕ) (how : Choice) → IsTrue (fits (Select s t) (select_answer rival entries s how))
fits_choice rival entries s t ByUrl = refl
fits_choice rival entries s t (ByCache gift) = refl
fits_choice rival entries s t ByDefault = refl
fits_choice rival entries s t (ByFollowing p) = refl
fits_choice rival entries s t ByLeading = refl

fits_given : (roster : Roster) (names : Tables) (entries : List Entry) (r : ℕ) (call : Call) → IsTrue (gives_terms call) → IsTrue (fits call (answer roster names entries r call))
fits_given roster names entries r (Select s t) gives = fits_choice (is_rival names s) entries s t (choice roster names entries r s)
fits_given roster names entries r (Renew gift t) gives = at (is_that_gift (current entries gift.space) gift)
  where
    at : (b : Bool) → IsTrue (fits (Renew gift t) (cond b Renewed (Kept (current_ordinal entries gift.space))))
    at true = refl
    at false = refl
fits_given roster names entries r call gives = absurd (false≢true gives)

few_given : (s : Setting) (past : List Event) → list_any is_no_mechanism past ≡ false → terms_given past ≤ (if list_any is_no_mechanism past then 17 else 16) → terms_given past ≤ 16
few_given s past none few = let bound : ◌≡◌ {A = ℕ} (if list_any is_no_mechanism past then 17 else 16) 16 = ap {B = ℕ} (λ b. if b then 17 else 16) none in omega (arith, few, bound)

module _ (roster : Roster) (seed : List ℕ) (names : Tables) (before entries : List Entry) (r : ℕ) (request : Request) (past : List Event) (alone : IsAlone roster names before entries r request past) where
  -- where a call comes next that gives terms, fewer than 16 gave them before
  pub terms_left : (call : Call) → IsTrue (gives_terms call) → ComesNext roster seed names entries r request past (Calls call) → terms_given past < 16
  terms_left call gives next = by call gives few
    where
      reply : BookReply
      reply = answer roster names entries r call

      step : IsStep roster names entries (made 1 r call reply)
      step = (call_allowed roster seed names before entries r request past alone call next, refl, fits_given roster names entries r call gives)

      taken : IsTaken roster seed names before entries r request past call reply
      taken = call_taken roster seed names before entries r request past alone call reply (alone.legal, step) next

      behind : Setting
      behind = setting_of roster seed names (made 1 r call reply ∷ entries) r request

      knows : KnowsBook roster seed names (made 1 r call reply ∷ entries) r request behind
      knows = knows_itself roster seed names (made 1 r call reply ∷ entries) r request

      later : IsPast behind past × (want behind past ≡ Calls call)
      later = next behind (knew_before roster seed names names (made 1 r call reply ∷ []) entries r request behind (same_names names) (alone.legal, step) knows)

      run : IsPast behind (Called call reply ∷ past)
      run = (later.0, subst (λ w. Follows behind past w (Called call reply)) (sym later.1) (refl, taken.suited behind knows))

      few : terms_given (Called call reply ∷ past) ≤ 16
      few =
          few_given behind (Called call reply ∷ past) (none_missing behind (spaces_numbered false roster seed names (made 1 r call reply ∷ entries) r request) refl (Called call reply ∷ past) run)
          (few_terms behind (spaces_numbered false roster seed names (made 1 r call reply ∷ entries) r request) (Called call reply ∷ past) run)

      by : (c : Call) → IsTrue (gives_terms c) → terms_given (Called c reply ∷ past) ≤ 16 → terms_given past < 16
      by (Select s t) g h = omega (arith, h)
      by (Renew gift t) g h = omega (arith, h)
      by c g h = absurd (false≢true g)

  -- all in all 16 give terms
  pub terms_few : IsPast (setting_of roster seed names entries r request) past → terms_given past ≤ 16
  terms_few run =
      few_given (setting_of roster seed names entries r request) past (none_missing (setting_of roster seed names entries r request) (spaces_numbered false roster seed names entries r request) refl past run)
      (few_terms (setting_of roster seed names entries r request) (spaces_numbered false roster seed names entries r request) past run)

-- REQUESTS THAT WERE BEGUN

abbrev one_if : Bool → ℕ
one_if b = cond b 1 0

begun_next : (entry : Entry) (entries : List Entry) → begun (entry ∷ entries) ≡ one_if (begins entry.call) + begun entries
begun_next entry entries = sum_by-cons (λ (e : Entry). cond (begins e.call) 1 0) entry entries

pub some_begun : (r : ℕ) (past : List Event) → IsTrue (list_any (λ made. begins made.call) (calls past)) → 1 ≤ begun (entries_of r past)
some_begun r [] some = absurd (false≢true some)
some_begun r (Called call reply ∷ past) some = at (begins call) refl (λ h. some_begun r past h) some
  where
    entry : Entry
    entry = record { caller = 1; request = r; call = call; reply = reply }

    at : (b : Bool) → begins call ≡ b → (IsTrue (list_any (λ made. begins made.call) (calls past)) → 1 ≤ begun (entries_of r past)) → IsTrue (b || list_any (λ made. begins made.call) (calls past)) → 1 ≤ begun (entry ∷ entries_of r past)
    at true is later h = let one : one_if (begins call) ≡ 1 = ap one_if is in omega (arith, begun_next entry (entries_of r past), one)
    at false is later h = omega (arith, begun_next entry (entries_of r past), later h)
some_begun r (_ ∷ past) some = some_begun r past some

module _ (roster : Roster) (seed : List ℕ) (names : Tables) (before entries : List Entry) (r : ℕ) (request : Request) (past : List Event) (alone : IsAlone roster names before entries r request past) where
  -- the request is one of the roster that was not begun before
  pub request_left : (event : Event) (earlier : List Event) → past ≡ event ∷ earlier → IsPast (setting_of roster seed names entries r request) past → begun before < length roster.requests
  request_left event earlier some run =
      let all : begun entries ≤ length roster.requests = begun_few roster names entries alone.legal in
      let split : begun entries ≡ begun (entries_of r past) + begun before =
      ap begun alone.same_calls ∙ sum_by-append (λ (e : Entry). cond (begins e.call) 1 0) (entries_of r past) before in
      omega (arith, all, split, by (began (setting_of roster seed names entries r request) past run))
    where
      by : (past ≡ []) ⊎ IsTrue (list_any (λ made. begins made.call) (calls past)) → 1 ≤ begun (entries_of r past)
      by (inl none) = absurd (let clash : event ∷ earlier ≡ [] = sym some ∙ none in cc)
      by (inr begun_here) = some_begun r past begun_here
