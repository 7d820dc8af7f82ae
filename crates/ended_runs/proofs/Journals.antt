-- Each entry of a run's journal is a call of one trace, and each call of a trace is an entry.
use Rattle.std.proofs.Common.{IsTrue, ◌≡◌, ◌⊎◌, inl, inr, ℕ, zero, suc, ◌+◌, ◌-◌, ◌%◌, ◌≤◌, ◌==◌, Bool, true, false, ◌&&◌, ◌||◌, cond, List, [], ◌∷◌, length, refl, sym, ap, ◌∙◌, subst, arith}
use Rattle.std.specs.Prelude.{filter, filter_map}
use Rattle.std.specs.List.{flat_map, list_any, range_with_len}
use Rattle.std.proofs.lemmas.Bool.{false≢true, cases_lt}
use Rattle.std.proofs.lemmas.List.Folds.{list_any-append}
use Rattle.auth_events.specs.declared.journal.Call.{Call}
use Rattle.auth_events.specs.declared.journal.Entry.{Entry}
use Rattle.auth_events.specs.Book.{own}
use Rattle.auth_events.proofs.Numbers.{or_left, or_right}
use Rattle.auth_events.proofs.Same.{number_refl}
use Rattle.auth_runs.specs.declared.event.Event.{Event}
use Rattle.auth_runs.specs.declared.event.Event.TheVariants.{Called}
use Rattle.auth_runs.specs.Runs.{AreOnce, Each, Run, entry_of, requests_of, trace}
use Rattle.ended_runs.proofs.Traces.{made}

-- ONE CALLER'S ENTRIES

abbrev of : List Entry → ℕ → List Entry
of entries caller = filter (λ entry. entry.caller == caller) entries

-- an entry is one of its caller's
some_made : (test : Entry → Bool) (entries : List Entry) → IsTrue (list_any test entries) → (caller : ℕ) × IsTrue (list_any test (of entries caller))
some_made test [] some = absurd (false≢true some)
some_made test (entry ∷ entries) some = at (test entry) refl some (some_made test entries)
  where
    more : (b : Bool) (caller : ℕ) → IsTrue (list_any test (of entries caller)) → IsTrue (list_any test (cond b (entry ∷ of entries caller) (of entries caller)))
    more true caller h = or_right (test entry) (list_any test (of entries caller)) h
    more false caller h = h

    at : (b : Bool) → test entry ≡ b → IsTrue (b || list_any test entries) → (IsTrue (list_any test entries) → (caller : ℕ) × IsTrue (list_any test (of entries caller)))
        → (caller : ℕ) × IsTrue (list_any test (of (entry ∷ entries) caller))
    at true is found later = (
      entry.caller,
      subst (λ b. IsTrue (list_any test (cond b (entry ∷ of entries entry.caller) (of entries entry.caller)))) (sym (number_refl entry.caller))
          (or_left (test entry) (list_any test (of entries entry.caller)) is),
    )
    at false is found later = let rest = later found in (rest.0, more (entry.caller == rest.0) rest.0 rest.1)

made_some : (test : Entry → Bool) (entries : List Entry) (caller : ℕ) → IsTrue (list_any test (of entries caller)) → IsTrue (list_any test entries)
made_some test [] caller some = some
made_some test (entry ∷ entries) caller some = at (entry.caller == caller) some (made_some test entries caller)
  where
    by : (b : Bool) → IsTrue (b || list_any test (of entries caller)) → (IsTrue (list_any test (of entries caller)) → IsTrue (list_any test entries)) → IsTrue (b || list_any test entries)
    by true found later = refl
    by false found later = later found

    at : (b : Bool) → IsTrue (list_any test (cond b (entry ∷ of entries caller) (of entries caller))) → (IsTrue (list_any test (of entries caller)) → IsTrue (list_any test entries)) → IsTrue (test entry || list_any test entries)
    at true found later = by (test entry) found later
    at false found later = or_right (test entry) (list_any test entries) (later found)

-- REQUEST BY REQUEST

either : (a b c d : Bool) → (IsTrue a → IsTrue c) → (IsTrue b → IsTrue d) → IsTrue (a || b) → IsTrue (c || d)
either true b c d f g h = or_left c d (f refl)
either false b c d f g h = or_right c d (g h)

-- where what one request's entries pass they pass another way, all pass another way
by_request : (f g : Entry → Bool) (entries_of : ℕ → List Entry) (rs : List ℕ) → Each (λ r. IsTrue (list_any f (entries_of r)) → IsTrue (list_any g (entries_of r))) rs
    → IsTrue (list_any f (flat_map entries_of rs)) → IsTrue (list_any g (flat_map entries_of rs))
by_request f g entries_of [] each some = absurd (false≢true some)
by_request f g entries_of (r ∷ rs) each some =
    list_any-append g (entries_of r) (flat_map entries_of rs)
    ∙ either (list_any f (entries_of r)) (list_any f (flat_map entries_of rs)) (list_any g (entries_of r)) (list_any g (flat_map entries_of rs)) each.0 (by_request f g entries_of rs each.1)
    (sym (list_any-append f (entries_of r) (flat_map entries_of rs)) ∙ some)

each_of : (P : ℕ → Type 0) (test : ℕ → Bool) (n k : ℕ) → ((r : ℕ) → k ≤ r → suc r ≤ k + n → P r) → Each P (filter test (range_with_len k n))
each_of P test zero k each = tt
each_of P test (suc n) k each = at (test k) (each k (omega arith) (omega arith)) (each_of P test n (k + 1) (λ r low high. each r (omega (arith, low)) (omega (arith, high))))
  where
    at : (b : Bool) → P k → Each P (filter test (range_with_len (k + 1) n)) → Each P (cond b (k ∷ filter test (range_with_len (k + 1) n)) (filter test (range_with_len (k + 1) n)))
    at true here later = (here, later)
    at false here later = later

same_or_more : (a b : ℕ) → a ≤ b → (a ≡ b) ⊎ (a + 1 ≤ b)
same_or_more a b le = elim (cases_lt a b) [ inl lt ↦ inr (omega (arith, lt)) | inr ge ↦ inl (omega (arith, ge, le)) ]

-- one request's entries stand among all
among : (g : Entry → Bool) (entries_of : ℕ → List Entry) (test : ℕ → Bool) (n k r : ℕ) → k ≤ r → suc r ≤ k + n → IsTrue (test r) → IsTrue (list_any g (entries_of r))
    → IsTrue (list_any g (flat_map entries_of (filter test (range_with_len k n))))
among g entries_of test zero k r low high is some = absurd (omega (arith, low, high))
among g entries_of test (suc n) k r low high is some = at (same_or_more k r low) (λ later. among g entries_of test n (k + 1) r later (omega (arith, high)) is some)
  where
    rest : (b : Bool) → IsTrue (list_any g (flat_map entries_of (filter test (range_with_len (k + 1) n))))
        → IsTrue (list_any g (flat_map entries_of (cond b (k ∷ filter test (range_with_len (k + 1) n)) (filter test (range_with_len (k + 1) n)))))
    rest true h =
        list_any-append g (entries_of k) (flat_map entries_of (filter test (range_with_len (k + 1) n)))
        ∙ or_right (list_any g (entries_of k)) (list_any g (flat_map entries_of (filter test (range_with_len (k + 1) n)))) h
    rest false h = h

    at : (k ≡ r) ⊎ (k + 1 ≤ r) → (k + 1 ≤ r → IsTrue (list_any g (flat_map entries_of (filter test (range_with_len (k + 1) n)))))
        → IsTrue (list_any g (flat_map entries_of (filter test (range_with_len k (suc n)))))
    at (inl same) before =
        subst (λ b. IsTrue (list_any g (flat_map entries_of (cond b (k ∷ filter test (range_with_len (k + 1) n)) (filter test (range_with_len (k + 1) n)))))) (sym (ap test same ∙ is))
        (list_any-append g (entries_of k) (flat_map entries_of (filter test (range_with_len (k + 1) n)))
        ∙ or_left (list_any g (entries_of k)) (list_any g (flat_map entries_of (filter test (range_with_len (k + 1) n)))) (subst (λ n. IsTrue (list_any g (entries_of n))) (sym same) some))
    at (inr later) before = rest (test k) (before later)

-- THE JOURNAL

-- the entries of a request's trace
abbrev pub entries_in : Run → ℕ → ℕ → List Entry
entries_in run caller r = filter_map (entry_of caller r) (trace run r)

module _ (callers : ℕ) (run : Run) (once : AreOnce callers run) where
  -- where what one trace's entries pass they pass another way, the journal passes another way
  pub by_traces : (f g : Entry → Bool) → ((caller r : ℕ) → 1 ≤ r → suc r ≤ 1 + length run.traces → IsTrue (list_any f (entries_in run caller r)) → IsTrue (list_any g (entries_in run caller r)))
      → IsTrue (list_any f run.journal) → IsTrue (list_any g run.journal)
  by_traces f g each some =
      let his = some_made f run.journal some in
      made_some g run.journal his.0
      (subst (λ entries. IsTrue (list_any g entries)) (sym (once his.0))
      (by_request f g (entries_in run his.0) (requests_of callers (length run.traces) his.0)
      (each_of (λ r. IsTrue (list_any f (entries_in run his.0 r)) → IsTrue (list_any g (entries_in run his.0 r))) (λ r. (r - 1) % callers + 1 == his.0) (length run.traces) 1 (each his.0))
      (subst (λ entries. IsTrue (list_any f entries)) (once his.0) his.1)))

  -- what a trace's entries pass, the journal passes
  pub of_trace : (g : Entry → Bool) (r : ℕ) → 1 ≤ r → suc r ≤ 1 + length run.traces → ((caller : ℕ) → IsTrue (list_any g (entries_in run caller r))) → IsTrue (list_any g run.journal)
  of_trace g r low high some =
      let caller : ℕ = (r - 1) % callers + 1 in
      made_some g run.journal caller
      (subst (λ entries. IsTrue (list_any g entries)) (sym (once caller))
      (among g (entries_in run caller) (λ q. (q - 1) % callers + 1 == caller) (length run.traces) 1 r low high (number_refl caller) (some caller)))

-- ONE REQUEST'S ENTRIES

-- a call of the trace is an entry
pub entered : (test : Call → Bool) (caller r : ℕ) (events : List Event) → list_any (λ entry. test entry.call) (filter_map (entry_of caller r) events) ≡ list_any (made test) events
entered test caller r [] = refl
entered test caller r (Called call reply ∷ events) = ap (λ b. test call || b) (entered test caller r events)
entered test caller r (_ ∷ events) = entered test caller r events

-- and it is one of the request
pub entered_own : (test : Call → Bool) (caller r q : ℕ) (events : List Event) → list_any (λ entry. entry.request == q && test entry.call) (filter_map (entry_of caller r) events) ≡ (r == q && list_any (made test) events)
entered_own test caller r q [] = never (r == q)
  where
    never : (b : Bool) → false ≡ (b && false)
    never true = refl
    never false = refl
entered_own test caller r q (Called call reply ∷ events) =
    ap (λ b. r == q && test call || b) (entered_own test caller r q events) ∙ spread (r == q) (test call) (list_any (made test) events)
  where
    spread : (a b c : Bool) → (a && b || a && c) ≡ (a && (b || c))
    spread true b c = refl
    spread false b c = refl
entered_own test caller r q (_ ∷ events) = entered_own test caller r q events

-- what the request's entries pass
pub own_any : (test : Entry → Bool) (entries : List Entry) (r : ℕ) → list_any test (own entries r) ≡ list_any (λ entry. entry.request == r && test entry) entries
own_any test [] r = refl
own_any test (entry ∷ entries) r = at (entry.request == r) (own_any test entries r)
  where
    at : (b : Bool) → list_any test (own entries r) ≡ list_any (λ entry. entry.request == r && test entry) entries
        → list_any test (cond b (entry ∷ own entries r) (own entries r)) ≡ (b && test entry || list_any (λ entry. entry.request == r && test entry) entries)
    at true rest = ap (λ b. test entry || b) rest
    at false rest = rest
