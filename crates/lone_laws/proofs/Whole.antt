-- All requests of a roster, served by one caller: the run that the book told.
use Rattle.std.proofs.Common.{◌≡◌, ℕ, zero, suc, ◌+◌, ◌-◌, ◌*◌, ◌%◌, ◌≤◌, ◌^◌, ◌==◌, Bool, true, false, not, cond, IsTrue, List, [], ◌∷◌, ◌++◌, length, map, reverse, refl, sym, ap, ◌∙◌, subst, arith}
use Rattle.std.specs.Prelude.{filter, filter_map}
use Rattle.std.specs.List.{flat_map, list_all, range_with_len}
use Rattle.std.proofs.lemmas.Bool.{eqb-true}
use Rattle.std.proofs.lemmas.List.{append-nil, length-reverse, reverse-append, reverse-reverse}
use Rattle.std.proofs.lemmas.List.Elements.{filter-append}
use Rattle.spaces.specs.declared.roster.Roster.{Roster}
use Rattle.auth_events.specs.declared.journal.Drawn.{Drawn as Word}
use Rattle.auth_events.specs.declared.journal.Entry.{Entry}
use Rattle.auth_events.specs.declared.told.Told.{Told}
use Rattle.auth_events.specs.Book.{IsLegal, IsLegalPast, draws, without_draws}
use Rattle.auth_events.specs.Fresh.{draws_of as drawn_of, fresh}
use Rattle.auth_events.specs.Tables.{AreFew, AreNames, Tables, no_names}
use Rattle.auth_events.specs.Told.{journal, names_told, past}
use Rattle.auth_events.proofs.Numbers.{and_left, and_right, both}
use Rattle.auth_events.proofs.Reversed.{list_any-reverse}
use Rattle.auth_runs.specs.declared.event.Event.{Event}
use Rattle.auth_runs.specs.declared.event.Event.TheVariants.{Called}
use Rattle.auth_runs.specs.Runs.{AreOnce, Each, Run, calls_of, entry_of, history, made_by, trace}
use Rattle.book_laws.proofs.Counting.{begun_few}
use Rattle.trace_rule.specs.Heard.{IsAnswered}
use Rattle.trace_rule.specs.Traces.{is_spent}
use Rattle.run_rule.specs.Drawing.{are_next_draws}
use Rattle.run_rule.specs.Failing.{is_any_spent, is_faultless}
use Rattle.run_rule.specs.Naming.{are_names_in_order, are_names_used}
use Rattle.run_rule.specs.Outside.{Outside, is_asked_right}
use Rattle.run_rule.specs.Runs.{IsLoneRun, IsRunBy, IsServedIn}
use Rattle.run_rule.proofs.Apart.{apart_in}
use Rattle.run_laws.proofs.Histories.{AreBegun, called, history_is, told as told_of}
use Rattle.serving_laws.specs.Meeting.{AreNamesMet}
use Rattle.serving_laws.specs.Rooms.{begun}
use Rattle.serving_laws.proofs.Meeting.{names_whole}
use Rattle.lone_laws.specs.Lone.{AreServed, run_told}
use Rattle.lone_laws.proofs.Behind.{draws_so, few_so, legal_so, met_so, names_so, past_is}
use Rattle.lone_laws.proofs.Freshness.{fresh_history}
use Rattle.lone_laws.proofs.Listing.{AllAt, all_reverse, at_number, each_reverse, in_order, indexed, latest, latest_is}
use Rattle.lone_laws.proofs.Making.{AreDrawn, IsFinal, all_answered, all_drawn, all_final}
use Rattle.lone_laws.proofs.Behind.{as_many_so}

-- LISTS

all_at : (f : List Event → Bool) (P : ℕ → List Event → Type 0) → ((r : ℕ) (events : List Event) → P r events → IsTrue (f events)) → (traces : List (List Event)) → AllAt P traces → IsTrue (list_all f traces)
all_at f P so [] all = refl
all_at f P so (events ∷ earlier) all = both (f events) (list_all f earlier) (so (length earlier + 1) events all.1) (all_at f P so earlier all.0)

without_reverse : (xs : List Entry) → without_draws (reverse xs) ≡ reverse (without_draws xs)
without_reverse [] = refl
without_reverse (x ∷ xs) =
    ap without_draws (reverse-append (x ∷ []) xs)
    ∙ (filter-append (λ (entry : Entry). not (draws entry.call)) (reverse xs) (x ∷ [])
    ∙ (ap (λ l. l ++ without_draws (x ∷ [])) (without_reverse xs) ∙ at (draws x.call)))
  where
    at : (b : Bool) → reverse (without_draws xs) ++ cond (not b) (x ∷ []) [] ≡ reverse (cond (not b) (x ∷ without_draws xs) (without_draws xs))
    at true = append-nil (reverse (without_draws xs))
    at false = sym (reverse-append (x ∷ []) (without_draws xs))

-- ONE CALLER

abbrev is_first : Entry → Bool
is_first entry = entry.caller == 1

called_first : (r : ℕ) (events : List Event) → IsTrue (list_all is_first (called r events))
called_first r [] = refl
called_first r (Called call reply ∷ events) = called_first r events
called_first r (_ ∷ events) = called_first r events

all_append : (f : Entry → Bool) (xs ys : List Entry) → IsTrue (list_all f xs) → IsTrue (list_all f ys) → IsTrue (list_all f (xs ++ ys))
all_append f [] ys p q = q
all_append f (x ∷ xs) ys p q = both (f x) (list_all f (xs ++ ys)) (and_left (f x) (list_all f xs) p) (all_append f xs ys (and_right (f x) (list_all f xs) p) q)

order_first : (k : ℕ) (traces : List (List Event)) → IsTrue (list_all is_first (in_order called k traces))
order_first k [] = refl
order_first k (events ∷ traces) = all_append is_first (called k events) (in_order called (k + 1) traces) (called_first k events) (order_first (k + 1) traces)

-- his entries are all, and nobody else has one
of_caller : (caller : ℕ) (xs : List Entry) → IsTrue (list_all is_first xs) → filter (λ (entry : Entry). entry.caller == caller) xs ≡ cond (1 == caller) xs []
of_caller caller [] all = at (1 == caller)
  where
    at : (b : Bool) → [] ≡ cond {A = List Entry} b [] []
    at true = refl
    at false = refl
of_caller caller (x ∷ xs) all =
    let own : x.caller ≡ 1 = eqb-true x.caller 1 (and_left (is_first x) (list_all is_first xs) all) in
    ap (λ n. cond (n == caller) (x ∷ filter (λ (entry : Entry). entry.caller == caller) xs) (filter (λ (entry : Entry). entry.caller == caller) xs)) own
    ∙ (ap (λ l. cond (1 == caller) (x ∷ l) l) (of_caller caller xs (and_right (is_first x) (list_all is_first xs) all)) ∙ at (1 == caller))
  where
    at : (b : Bool) → cond b (x ∷ cond b xs []) (cond b xs []) ≡ cond b (x ∷ xs) []
    at true = refl
    at false = refl

requests_are : (caller n k : ℕ) → filter (λ r. (r - 1) % 1 + 1 == caller) (range_with_len k n) ≡ cond (1 == caller) (range_with_len k n) []
requests_are caller zero k = at (1 == caller)
  where
    at : (b : Bool) → [] ≡ cond {A = List ℕ} b [] []
    at true = refl
    at false = refl
requests_are caller (suc n) k =
    let one : (k - 1) % 1 + 1 ≡ 1 = omega arith in
    ap (λ m. cond (m == caller) (k ∷ filter (λ r. (r - 1) % 1 + 1 == caller) (range_with_len (k + 1) n)) (filter (λ r. (r - 1) % 1 + 1 == caller) (range_with_len (k + 1) n))) one
    ∙ (ap (λ l. cond (1 == caller) (k ∷ l) l) (requests_are caller n (k + 1)) ∙ at (1 == caller))
  where
    at : (b : Bool) → cond b (k ∷ cond b (range_with_len (k + 1) n) []) (cond b (range_with_len (k + 1) n) []) ≡ cond b (k ∷ range_with_len (k + 1) n) []
    at true = refl
    at false = refl

module _ (outside : Outside) (roster : Roster) (seed : List ℕ) (traces : List (List Event)) (told : List Told) (words : List Word) (short : length traces ≤ 2048) (all : length traces ≡ length roster.requests)
    (served : AreServed outside roster seed traces told words) where
  abbrev run : Run
  run = run_told roster seed told (reverse traces)

  abbrev names : Tables
  names = names_told told

  legal_past : IsLegalPast roster names (past told)
  legal_past = legal_so outside roster seed traces told words served

  named : AreNames names
  named = names_so outside roster seed traces told words served

  few : AreFew (length roster.requests) names
  few =
      let some = few_so outside roster seed traces told words served in
      let begun_within : begun (past told) ≤ length roster.requests = begun_few roster names (past told) legal_past in
      record {
        spaces = (let le = some.spaces in omega (arith, le, begun_within));
        terms = (let le = some.terms in omega (arith, le, begun_within));
        nonces = (let le = some.nonces in omega (arith, le, begun_within));
        texts = (let le = some.texts in omega (arith, le, begun_within));
      }

  -- all that was told is the whole
  finals : AllAt (IsFinal outside roster seed run) traces
  finals = all_final outside roster seed told (reverse traces) legal_past named few.nonces traces told [] words (append-nil told) served

  drawn : AreDrawn outside roster seed told (reverse traces) legal_past named few.nonces traces told words
  drawn = all_drawn outside roster seed told (reverse traces) legal_past named few.nonces traces told [] words (append-nil told) served

  final_at : (r : ℕ) → 1 ≤ r → r ≤ length run.traces → IsFinal outside roster seed run r (trace run r)
  final_at r low high = at_number (IsFinal outside roster seed run) traces finals r low (omega (arith, high, length-reverse traces))

  -- THE JOURNAL

  journal_in_order : journal told ≡ in_order called 1 (reverse traces)
  journal_in_order =
      sym (reverse-reverse (journal told))
      ∙ (ap reverse (past_is outside roster seed traces told words served ∙ sym (latest_is called traces)) ∙ reverse-reverse (in_order called 1 (reverse traces)))

  calls_are : flat_map (λ r. called r (trace run r)) (range_with_len 1 (length run.traces)) ≡ journal told
  calls_are = indexed called (reverse traces) ∙ sym journal_in_order

  once : AreOnce 1 run
  once caller = made ∙ at (1 == caller) refl
    where
      made : made_by run caller ≡ cond (1 == caller) (journal told) []
      made = of_caller caller (journal told) (subst (λ l. IsTrue (list_all is_first l)) (sym journal_in_order) (order_first 1 (reverse traces)))

      at : (b : Bool) → (1 == caller) ≡ b → cond (1 == caller) (journal told) [] ≡ calls_of 1 run caller
      at true e =
          let same : 1 ≡ caller = eqb-true 1 caller e in
          ap (λ c. cond c (journal told) []) e
          ∙ (sym calls_are
          ∙ (ap (λ c. flat_map (λ r. filter_map (entry_of c r) (trace run r)) (range_with_len 1 (length run.traces))) same
          ∙ ap (flat_map (λ r. filter_map (entry_of caller r) (trace run r))) (sym (requests_are caller (length run.traces) 1 ∙ ap (λ c. cond c (range_with_len 1 (length run.traces)) []) e))))
      at false e =
          ap (λ c. cond c (journal told) []) e
          ∙ ap (flat_map (λ r. filter_map (entry_of caller r) (trace run r))) (sym (requests_are caller (length run.traces) 1 ∙ ap (λ c. cond c (range_with_len 1 (length run.traces)) []) e))

  -- THE HISTORY

  begun_all : AreBegun run 1 (length run.traces)
  begun_all r low high = (final_at r low (omega (arith, high))).is_begun

  history_past : reverse (history run) ≡ latest told_of traces
  history_past = ap reverse (history_is run once begun_all ∙ indexed told_of (reverse traces)) ∙ latest_is told_of traces

  history_order : reverse (latest told_of traces) ≡ history run
  history_order = ap reverse (sym history_past) ∙ reverse-reverse (history run)

  legal : IsLegal roster names (history run)
  legal =
      subst (IsLegalPast roster names) (without_reverse (history run))
      (subst (λ l. IsLegalPast roster names (without_draws l)) (sym history_past) (subst (IsLegalPast roster names) (sym drawn.plain) legal_past))

  drawn_once : IsTrue (fresh names (history run))
  drawn_once =
      subst (λ l. IsTrue (fresh names l)) history_order
      (fresh_history names (latest told_of traces) drawn.next drawn.known (λ n low high. few_draws n low high))
    where
      few_draws : (n : ℕ) → 1 ≤ n → n ≤ length names.nonces → length (drawn_of (latest told_of traces) n) ≤ 2 ^ 30
      few_draws n low high =
          let as_many : length words ≡ 16 * length roster.requests = as_many_so outside roster seed traces told words served in
          let within = few.nonces in
          let count = drawn.counts n low (omega (arith, high, within, as_many)) in
          let le = draws_so outside roster seed traces told words served n in
          omega (arith, count, le, short)

  -- NAMES

  met : is_any_spent run ≡ false → AreNamesMet no_names names (past told)
  met unspent = met_so outside roster seed traces told words served (sym (list_any-reverse (λ events. is_spent (reverse events)) traces) ∙ unspent)

  used : is_any_spent run ≡ false → IsTrue (are_names_used names (journal told)) × IsTrue (are_names_in_order (journal told))
  used unspent = names_whole names (journal told) (met unspent)

  -- THE RUN

  served_at : (r : ℕ) → 1 ≤ r → r ≤ length run.traces → IsServedIn outside run r
  served_at r low high =
      let f = final_at r low high in
      record {
        request = f.request;
        in_roster = f.in_roster;
        is_trace = f.is_trace;
        heard = f.heard;
        steps = f.unasked ∙ sym (ap (λ l. map (outside.steps r) (range_with_len 1 (length l))) f.unasked);
      }

  is_run_by : IsRunBy 1 roster outside seed run
  is_run_by = record {
    same_roster = refl;
    same_seed = refl;
    named = named;
    few = few;
    used = λ unspent. (used unspent).0;
    legal = legal;
    drawn_once = drawn_once;
    apart = apart_in run named legal drawn_once;
    once = once;
    whole = length-reverse traces ∙ all;
    served = served_at;
    asked =
        all_reverse (λ events. list_all (is_asked_right outside run) events) traces
        (all_at (λ events. list_all (is_asked_right outside run) events) (IsFinal outside roster seed run) (λ r events f. f.asked) traces finals);
    answered =
        subst (Each (λ (entry : Entry). IsAnswered outside.answers names (journal told) entry.call)) (reverse-reverse (journal told))
        (each_reverse (λ (entry : Entry). IsAnswered outside.answers names (journal told) entry.call) (past told)
        (subst (Each (λ (entry : Entry). IsAnswered outside.answers names (journal told) entry.call)) (sym (past_is outside roster seed traces told words served))
        (all_answered outside roster seed told (reverse traces) legal_past named few.nonces traces told [] words (append-nil told) served)));
  }

  pub lone_run : IsLoneRun roster outside seed run
  lone_run = record {
    is_run = record {
      is_run = is_run_by;
      draws = subst (λ l. IsTrue (are_next_draws names l)) (sym history_past) drawn.next;
      in_order = λ unspent. (used unspent).1;
    };
    faultless = all_reverse is_faultless traces (all_at is_faultless (IsFinal outside roster seed run) (λ r events f. f.faultless) traces finals);
  }

-- in the order of the requests
pub lone_run_in_order : (outside : Outside) (roster : Roster) (seed : List ℕ) (traces : List (List Event)) (told : List Told) (words : List Word) → length traces ≤ 2048 → length traces ≡ length roster.requests
    → AreServed outside roster seed (reverse traces) told words → IsLoneRun roster outside seed (run_told roster seed told traces)
lone_run_in_order outside roster seed traces told words short all served =
    subst (λ l. IsLoneRun roster outside seed (run_told roster seed told l)) (reverse-reverse traces)
    (lone_run outside roster seed (reverse traces) told words (let e = length-reverse traces in omega (arith, e, short)) (length-reverse traces ∙ all) served)
