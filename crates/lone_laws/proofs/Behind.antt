-- What one caller has told behind the first requests of a roster.
use Rattle.std.proofs.Common.{◌≡◌, ◌⊎◌, inl, inr, ℕ, zero, suc, ◌+◌, ◌*◌, ◌≤◌, ◌<◌, ◌==◌, Bool, true, false, cond, IsTrue, List, [], ◌∷◌, ◌++◌, length, replicate, reverse, Option, Some, None, option_map, unwrap_or, refl, sym, ap, ◌∙◌, subst, arith, if◌then◌else◌}
use Rattle.std.specs.Prelude.{All, nat_le, slice_get}
use Rattle.std.specs.List.{list_all, list_any}
use Rattle.std.proofs.lemmas.Bool.{cases_lt, le-leb, leb-true}
use Rattle.std.proofs.lemmas.Bool.Decides.{nat_tests}
use Rattle.std.proofs.lemmas.List.{length-replicate}
use Rattle.std.proofs.lemmas.List.Elements.{All-cons, All-nil}
use Rattle.spaces.specs.declared.roster.Request.{Request}
use Rattle.spaces.specs.declared.roster.Roster.{Roster}
use Rattle.spaces.specs.declared.site.Target.{Target}
use Rattle.spaces.specs.Sites.{numbered}
use Rattle.auth_events.specs.declared.journal.BookReply.TheVariants.{Lost}
use Rattle.auth_events.specs.declared.journal.Call.TheVariants.{Lose}
use Rattle.auth_events.specs.declared.journal.Loss.TheVariants.{Memory}
use Rattle.auth_events.specs.declared.journal.Drawn.{Drawn as Word}
use Rattle.auth_events.specs.declared.journal.Entry.{Entry}
use Rattle.auth_events.specs.declared.told.Told.{Told}
use Rattle.auth_events.specs.Book.{IsLegalPast, epoch, own}
use Rattle.auth_events.specs.Pages.{IsPage}
use Rattle.auth_events.specs.Tables.{AreFew, AreNames, Tables, no_names}
use Rattle.auth_events.specs.Told.{names_told, past}
use Rattle.auth_events.proofs.Naming.{AreNames-none}
use Rattle.auth_events.proofs.Numbers.{and_left, and_right, both, numbered_suc}
use Rattle.auth_runs.specs.declared.event.Event.{Event}
use Rattle.auth_runs.specs.declared.event.Event.TheVariants.{Called, Drew}
use Rattle.auth_runs.specs.Runs.{entry_of}
use Rattle.plain_book.specs.Words.{draws_of, retirements_of, unused}
use Rattle.trace_rule.specs.Counting.{draws}
use Rattle.trace_rule.specs.Settings.{Setting}
use Rattle.trace_rule.specs.Traces.{IsCut, IsRun, prompt_open, with_loss, is_spent}
use Rattle.trace_rule.proofs.DrawCount.{draws_bound}
use Rattle.run_rule.specs.Outside.{Outside}
use Rattle.run_laws.proofs.Histories.{called}
use Rattle.run_laws.proofs.Shared.{page_of}
use Rattle.serving_laws.specs.Alone.{entries_of, has_open_prompt}
use Rattle.serving_laws.specs.Draws.{AreEpochs, times_drawn}
use Rattle.serving_laws.specs.Meeting.{AreNamesMet}
use Rattle.serving_laws.specs.Rooms.{begun}
use Rattle.serving_laws.proofs.Meeting.{names_both}
use Rattle.run_laws.proofs.Outsides.{or_both}
use Rattle.lone_laws.specs.Laws.{IsReady}
use Rattle.lone_laws.specs.Lone.{AreServed}
use Rattle.lone_laws.proofs.Listing.{filter_map_reverse, latest}

-- WORDS THAT WERE NOT DRAWN

word_at : (m k : ℕ) → (slice_get (replicate m unused) k ≡ None) ⊎ (slice_get (replicate m unused) k ≡ Some unused)
word_at zero k = inl refl
word_at (suc m) zero = inr refl
word_at (suc m) (suc k) = word_at m k

word_of : (m n : ℕ) → (numbered (replicate m unused) n ≡ None) ⊎ (numbered (replicate m unused) n ≡ Some unused)
word_of m zero = inl refl
word_of m (suc k) = at (word_at m k)
  where
    at : (slice_get (replicate m unused) k ≡ None) ⊎ (slice_get (replicate m unused) k ≡ Some unused) → (numbered (replicate m unused) (suc k) ≡ None) ⊎ (numbered (replicate m unused) (suc k) ≡ Some unused)
    at (inl e) = inl (numbered_suc (replicate m unused) k ∙ e)
    at (inr e) = inr (numbered_suc (replicate m unused) k ∙ e)

abbrev count_in : Option Word → ℕ
count_in o = unwrap_or (option_map (λ (w : Word). w.count) o) 0

abbrev epoch_in : Option Word → ℕ
epoch_in o = unwrap_or (option_map (λ (w : Word). w.epoch) o) 0

pub undrawn_words : (m n : ℕ) → draws_of (replicate m unused) n ≡ 0
undrawn_words m n = at (word_of m n)
  where
    at : (numbered (replicate m unused) n ≡ None) ⊎ (numbered (replicate m unused) n ≡ Some unused) → draws_of (replicate m unused) n ≡ 0
    at (inl e) = ap count_in e
    at (inr e) = ap count_in e

unretired_words : (m n : ℕ) → retirements_of (replicate m unused) n ≡ 0
unretired_words m n = at (word_of m n)
  where
    at : (numbered (replicate m unused) n ≡ None) ⊎ (numbered (replicate m unused) n ≡ Some unused) → retirements_of (replicate m unused) n ≡ 0
    at (inl e) = ap epoch_in e
    at (inr e) = ap epoch_in e

get_past : (xs : List Word) (j : ℕ) → length xs ≤ j → slice_get xs j ≡ None
get_past [] j le = refl
get_past (x ∷ xs) zero le = absurd (omega (arith, le))
get_past (x ∷ xs) (suc j) le = get_past xs j (omega (arith, le))

-- a nonce past the words has no draws
no_word : (words : List Word) (n : ℕ) → length words < n → draws_of words n ≡ 0
no_word words zero high = absurd (omega (arith, high))
no_word words (suc k) high = ap count_in (numbered_suc words k ∙ get_past words k (omega (arith, high)))

-- HOW MANY DRAWS

one_draw : (t : Target) (m c i n : ℕ) (events : List Event) → times_drawn (Drew t m c i ∷ events) n ≤ 1 + times_drawn events n
one_draw t m c i n events = at (m == n)
  where
    at : (b : Bool) → cond b 1 0 + times_drawn events n ≤ 1 + times_drawn events n
    at true = omega arith
    at false = omega arith

drawn_within : (events : List Event) (n : ℕ) → times_drawn events n ≤ draws events
drawn_within [] n = omega arith
drawn_within (Drew t m c i ∷ events) n = (let h = drawn_within events n in let one = one_draw t m c i n events in omega (arith, h, one))
drawn_within (_ ∷ events) n = drawn_within events n

draws_loss : (p : ℕ) (base : List Event) → draws (with_loss p base) ≡ draws base
draws_loss p base = at (p == 0)
  where
    at : (b : Bool) → draws (if b then base else Called (Lose p Memory) (Lost Memory) ∷ base) ≡ draws base
    at true = refl
    at false = refl

draws_few : (s : Setting) (whole : List Event) → IsRun s whole ⊎ IsCut s whole → draws whole ≤ 36
draws_few s whole (inl run) = draws_bound s whole run.0
draws_few s whole (inr (base, cut)) =
    (let e : draws whole ≡ draws base = ap draws cut.cut ∙ draws_loss (prompt_open base base) base in
    let le = draws_bound s base cut.is_past in
    omega (arith, e, le))

-- ENTRIES

pub entries_are : (r : ℕ) (trace : List Event) → entries_of r (reverse trace) ≡ reverse (called r trace)
entries_are r trace = filter_map_reverse (entry_of 1 r) trace

abbrev is_by : ℕ → Entry → Bool
is_by k entry = nat_le entry.request k

of_request : (r k : ℕ) → r ≤ k → (events : List Event) → IsTrue (list_all (is_by k) (entries_of r events))
of_request r k le [] = refl
of_request r k le (Called call reply ∷ events) = both (nat_le r k) (list_all (is_by k) (entries_of r events)) (le-leb r k le) (of_request r k le events)
of_request r k le (_ ∷ events) = of_request r k le events

all_append : (f : Entry → Bool) (xs ys : List Entry) → IsTrue (list_all f xs) → IsTrue (list_all f ys) → IsTrue (list_all f (xs ++ ys))
all_append f [] ys p q = q
all_append f (x ∷ xs) ys p q =
    both (f x) (list_all f (xs ++ ys)) (and_left (f x) (list_all f xs) p) (all_append f xs ys (and_right (f x) (list_all f xs) p) q)

all_by_more : (k : ℕ) (xs : List Entry) → IsTrue (list_all (is_by k) xs) → IsTrue (list_all (is_by (k + 1)) xs)
all_by_more k [] all = refl
all_by_more k (x ∷ xs) all =
    (let here = leb-true x.request k (and_left (is_by k x) (list_all (is_by k) xs) all) in
    both (is_by (k + 1) x) (list_all (is_by (k + 1)) xs) (le-leb x.request (k + 1) (omega (arith, here))) (all_by_more k xs (and_right (is_by k x) (list_all (is_by k) xs) all)))

other_request : (r k : ℕ) → r ≤ k → (r == k + 1) ≡ false
other_request r k le = grind (arith, nat_tests)

none_own : (k : ℕ) (xs : List Entry) → IsTrue (list_all (is_by k) xs) → own xs (k + 1) ≡ []
none_own k [] all = refl
none_own k (x ∷ xs) all =
    (let here = leb-true x.request k (and_left (is_by k x) (list_all (is_by k) xs) all) in
    ap (λ b. cond b (x ∷ own xs (k + 1)) (own xs (k + 1))) (other_request x.request k here) ∙ none_own k xs (and_right (is_by k x) (list_all (is_by k) xs) all))

-- a request's entries are pages of the roster
pages_more : (roster : Roster) (names : Tables) (r : ℕ) (request : Request) → numbered roster.requests r ≡ Some request → (events : List Event) (before : List Entry) → IsLegalPast roster names (entries_of r events ++ before)
    → All (IsPage (length roster.requests)) before → All (IsPage (length roster.requests)) (entries_of r events ++ before)
pages_more roster names r request there [] before legal pages = pages
pages_more roster names r request there (Called call reply ∷ events) before legal pages =
    All-cons (IsPage (length roster.requests)) (record { caller = 1; request = r; call = call; reply = reply }) (entries_of r events ++ before) (page_of roster r request call reply there legal.1.2)
    (pages_more roster names r request there events before legal.0 pages)
pages_more roster names r request there (_ ∷ events) before legal pages = pages_more roster names r request there events before legal pages

module _ (outside : Outside) (roster : Roster) (seed : List ℕ) where
  abbrev Served : List (List Event) → List Told → List Word → Type 0
  Served traces told words = AreServed outside roster seed traces told words

  nothing_told : (told : List Told) → told ≡ [] → past told ≡ []
  nothing_told told none = ap past none

  pub past_is : (traces : List (List Event)) (told : List Told) (words : List Word) → Served traces told words → past told ≡ latest called traces
  past_is [] told words served = nothing_told told served.0
  past_is (trace ∷ earlier) told words (before, first, rest, now) =
      now.alone.served.alone.same_calls ∙ (ap (λ l. l ++ past before) (entries_are (length earlier + 1) trace) ∙ ap (λ l. reverse (called (length earlier + 1) trace) ++ l) (past_is earlier before first rest))

  pub past_by : (traces : List (List Event)) (told : List Told) (words : List Word) → Served traces told words → IsTrue (list_all (is_by (length traces)) (past told))
  past_by [] told words served = ap (list_all (is_by 0)) (nothing_told told served.0)
  past_by (trace ∷ earlier) told words (before, first, rest, now) =
      subst (λ l. IsTrue (list_all (is_by (suc (length earlier))) l)) (sym now.alone.served.alone.same_calls)
      (subst (λ k. IsTrue (list_all (is_by k) (entries_of (length earlier + 1) (reverse trace) ++ past before))) (one_more (length earlier))
      (all_append (is_by (length earlier + 1)) (entries_of (length earlier + 1) (reverse trace)) (past before) (of_request (length earlier + 1) (length earlier + 1) (omega arith) (reverse trace)) (all_by_more (length earlier) (past before) (past_by earlier before first rest))))
    where
      one_more : (k : ℕ) → k + 1 ≡ suc k
      one_more k = omega arith

  pub legal_so : (traces : List (List Event)) (told : List Told) (words : List Word) → Served traces told words → IsLegalPast roster (names_told told) (past told)
  legal_so [] told words served = subst (λ l. IsLegalPast roster (names_told l) (past l)) (sym served.0) tt
  legal_so (trace ∷ earlier) told words (before, first, rest, now) = now.alone.served.alone.legal

  pub names_so : (traces : List (List Event)) (told : List Told) (words : List Word) → Served traces told words → AreNames (names_told told)
  names_so [] told words served = subst (λ l. AreNames (names_told l)) (sym served.0) AreNames-none
  names_so (trace ∷ earlier) told words (before, first, rest, now) = now.alone.served.alone.are_names

  pub pages_so : (traces : List (List Event)) (told : List Told) (words : List Word) → Served traces told words → All (IsPage (length roster.requests)) (past told)
  pages_so [] told words served = subst (λ l. All (IsPage (length roster.requests)) (past l)) (sym served.0) (All-nil (IsPage (length roster.requests)))
  pages_so (trace ∷ earlier) told words (before, first, rest, now) =
      subst (All (IsPage (length roster.requests))) (sym now.alone.served.alone.same_calls)
      (pages_more roster (names_told told) (length earlier + 1) now.request now.in_roster (reverse trace) (past before) (subst (IsLegalPast roster (names_told told)) now.alone.served.alone.same_calls now.alone.served.alone.legal)
      (pages_so earlier before first rest))

  settled_so : (traces : List (List Event)) (told : List Told) (words : List Word) → Served traces told words → has_open_prompt (past told) ≡ false
  settled_so [] told words served = ap has_open_prompt (nothing_told told served.0)
  settled_so (trace ∷ earlier) told words (before, first, rest, now) = now.alone.none_open

  pub few_so : (traces : List (List Event)) (told : List Told) (words : List Word) → Served traces told words → AreFew (begun (past told)) (names_told told)
  few_so [] told words served = subst (λ l. AreFew (begun (past l)) (names_told l)) (sym served.0) (record { spaces = omega arith; terms = omega arith; nonces = omega arith; texts = omega arith })
  few_so (trace ∷ earlier) told words (before, first, rest, now) = now.alone.few

  pub as_many_so : (traces : List (List Event)) (told : List Told) (words : List Word) → Served traces told words → length words ≡ 16 * length roster.requests
  as_many_so [] told words served = ap length served.1 ∙ length-replicate (16 * length roster.requests) unused
  as_many_so (trace ∷ earlier) told words (before, first, rest, now) = now.alone.served.as_many

  epochs_so : (traces : List (List Event)) (told : List Told) (words : List Word) → Served traces told words → AreEpochs (names_told told) (past told) words
  epochs_so [] told words served n low high =
      ap (λ w. retirements_of w n) served.1 ∙ (unretired_words (16 * length roster.requests) n ∙ sym (ap (λ l. epoch (names_told l) (past l) n) served.0))
  epochs_so (trace ∷ earlier) told words (before, first, rest, now) n low high = now.alone.served.drawn.epochs n low high

  pub draws_so : (traces : List (List Event)) (told : List Told) (words : List Word) → Served traces told words → (n : ℕ) → draws_of words n ≤ 36 * length traces
  draws_so [] told words served n =
      (let none : draws_of words n ≡ 0 = ap (λ w. draws_of w n) served.1 ∙ undrawn_words (16 * length roster.requests) n in omega (arith, none))
  draws_so (trace ∷ earlier) told words (before, first, rest, now) n = at n (cases_lt (length words) n) (draws_so earlier before first rest n)
    where
      at : (m : ℕ) → (length words < m) ⊎ (m ≤ length words) → draws_of first m ≤ 36 * length earlier → draws_of words m ≤ 36 * suc (length earlier)
      at m (inl high) h = (let none = no_word words m high in omega (arith, none))
      at zero (inr le) h = (let none : draws_of words 0 ≡ 0 = refl in omega (arith, none))
      at (suc k) (inr le) h =
          (let e = now.alone.served.drawn.counts (suc k) (omega arith) le in
          let within = drawn_within (reverse trace) (suc k) in
          let few = draws_few _ (reverse trace) now.alone.is_trace in
          omega (arith, e, within, few, h))

  pub next_ready : (traces : List (List Event)) (told : List Told) (words : List Word) → length traces ≤ 2048 → Served traces told words → IsReady roster told words (length traces + 1)
  next_ready traces told words few served = record {
    unserved = none_own (length traces) (past told) (past_by traces told words served);
    settled = settled_so traces told words served;
    few = few_so traces told words served;
    as_many = as_many_so traces told words served;
    few_draws = λ n. (let le = draws_so traces told words served n in omega (arith, le, few));
    epochs = epochs_so traces told words served;
  }

  -- NAMES

  pub met_so : (traces : List (List Event)) (told : List Told) (words : List Word) → Served traces told words → list_any (λ events. is_spent (reverse events)) traces ≡ false → AreNamesMet no_names (names_told told) (past told)
  met_so [] told words served unspent =
      subst (λ l. AreNamesMet no_names (names_told l) (past l)) (sym served.0) (record { spaces = refl; terms = refl; in_turn = refl; texts = refl })
  met_so (trace ∷ earlier) told words (before, first, rest, now) unspent =
      (let parts = or_both (is_spent (reverse trace)) (list_any (λ events. is_spent (reverse events)) earlier) unspent in
      subst (AreNamesMet no_names (names_told told)) (sym now.alone.served.alone.same_calls)
      (names_both (names_told before) (names_told told) (entries_of (length earlier + 1) (reverse trace)) (past before) (met_so earlier before first rest parts.1) (now.alone.met parts.0)))
