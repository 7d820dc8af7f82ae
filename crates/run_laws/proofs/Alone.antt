-- Two runs of one caller over one roster, one outside and one seed, in which nothing fails and nothing runs out of memory, are equal.
use Rattle.std.proofs.Common.{◌≡◌, ℕ, zero, suc, ◌+◌, ◌-◌, ◌≤◌, Bool, true, false, ◌&&◌, ◌||◌, ◌==◌, cond, IsTrue, List, [], ◌∷◌, ◌++◌, length, reverse, map, Option, Some, refl, sym, ap, ◌∙◌, subst, append_assoc, append-nil, length-append, arith}
use Rattle.std.specs.Prelude.{All, slice_index_or}
use Rattle.std.specs.List.{flat_map, list_all, list_any, range_with_len}
use Rattle.std.proofs.lemmas.Bool.{eqb-true, false≢true}
use Rattle.std.proofs.lemmas.Bool.Decides.{nat_tests}
use Rattle.std.proofs.lemmas.List.{reverse-append}
use Rattle.std.proofs.lemmas.List.Elements.{All-head, All-nil, All-tail, All-weaker}
use Rattle.auth_text.specs.Login.{Login}
use Rattle.spaces.specs.declared.roster.Request.{Request}
use Rattle.spaces.specs.declared.roster.Roster.{Roster}
use Rattle.spaces.specs.ProtectionSpaces.{ProtectionSpace}
use Rattle.auth_events.specs.declared.journal.Call.{Call}
use Rattle.auth_events.specs.declared.journal.Entry.{Entry}
use Rattle.auth_events.specs.declared.names.NonceName.{NonceName}
use Rattle.auth_events.specs.declared.names.TermsName.{TermsName}
use Rattle.auth_events.specs.Book.{IsLegalPast, own, without_draws}
use Rattle.auth_events.specs.Pages.{IsPage}
use Rattle.auth_events.specs.Tables.{AreNames, Tables, greatest, larger, no_names, nonce_numbers}
use Rattle.auth_events.proofs.Naming.{AreNames-none}
use Rattle.auth_events.proofs.Numbers.{and_left, and_right}
use Rattle.auth_runs.specs.declared.event.Event.{Event}
use Rattle.auth_runs.specs.Runs.{Run, history, trace}
use Rattle.trace_rule.specs.Settings.{setting_of}
use Rattle.trace_rule.proofs.Deterministic.{nothing_after}
use Rattle.run_rule.specs.Failing.{is_any_spent}
use Rattle.run_rule.specs.Naming.{are_all_used, numbers_in, space_in, terms_in, text_in}
use Rattle.run_rule.specs.Outside.{Outside, answer_for}
use Rattle.run_rule.specs.Runs.{IsLoneRun}
use Rattle.run_laws.proofs.Agreeing.{AreAgreed, next_agreed}
use Rattle.run_laws.proofs.Fronts.{IsAt, numbers_reverse}
use Rattle.run_laws.proofs.Histories.{called, told}
use Rattle.run_laws.proofs.NamedSoFar.{IsNamedSoFar}
use Rattle.run_laws.proofs.OneCaller.{run_is_traces}
use Rattle.run_laws.proofs.Outsides.{IsMade, behind, on, over}
use Rattle.run_laws.proofs.Played.{IsPlayed, IsPlayedAt, played}
use Rattle.run_laws.proofs.Shared.{numbers}

-- LISTS

same_lists : (xs ys : List (List Event)) → length xs ≡ length ys → ((i : ℕ) → suc i ≤ length xs → slice_index_or xs i [] ≡ slice_index_or ys i []) → xs ≡ ys
same_lists [] [] len same = refl
same_lists [] (y ∷ ys) len same = let none : 0 ≡ suc (length ys) = len in absurd (omega (arith, none))
same_lists (x ∷ xs) [] len same = let none : suc (length xs) ≡ 0 = len in absurd (omega (arith, none))
same_lists (x ∷ xs) (y ∷ ys) len same =
    let more : suc (length xs) ≡ suc (length ys) = len in
    ap (λ z. z ∷ xs) (same 0 (omega arith)) ∙ ap (λ zs. y ∷ zs) (same_lists xs ys (omega (arith, more)) (λ i h. same (suc i) (omega (arith, h))))

-- ALL NAMES

none_more : {A : Type 0} (zs xs ys : List A) → zs ≡ xs ++ ys → length zs ≤ length xs → zs ≡ xs
none_more zs xs [] e le = e ∙ append-nil xs
none_more zs xs (y ∷ ys) e le = absurd (omega (arith, le, ap length e, length-append xs (y ∷ ys)))

larger_left : (a b : ℕ) → a ≤ larger a b
larger_left a b = grind (arith, nat_tests)

larger_right : (a b : ℕ) → b ≤ larger a b
larger_right a b = grind (arith, nat_tests)

any_below : (n : ℕ) (ns : List ℕ) → IsTrue (list_any (λ used. used == n) ns) → n ≤ greatest ns
any_below n [] h = absurd (false≢true h)
any_below n (m ∷ ns) h = at (m == n) refl (λ k. any_below n ns k) h
  where
    at : (b : Bool) → (m == n) ≡ b → (IsTrue (list_any (λ used. used == n) ns) → n ≤ greatest ns) → IsTrue (b || list_any (λ used. used == n) ns) → n ≤ greatest (m ∷ ns)
    at true e later k = let same : m ≡ n = eqb-true m n e in let le = larger_left m (greatest ns) in omega (arith, same, le)
    at false e later k = let before = later k in let le = larger_right m (greatest ns) in omega (arith, before, le)

all_in : (test : ℕ → Bool) (n k : ℕ) → IsTrue (list_all test (range_with_len k n)) → (i : ℕ) → k ≤ i → suc i ≤ k + n → IsTrue (test i)
all_in test zero k h i low high = absurd (omega (arith, low, high))
all_in test (suc n) k h i low high =
    at (i == k) refl (λ above. all_in test n (k + 1) (and_right (test k) (list_all test (range_with_len (k + 1) n)) h) i above (omega (arith, high)))
  where
    at : (b : Bool) → (i == k) ≡ b → (k + 1 ≤ i → IsTrue (test i)) → IsTrue (test i)
    at true e later = subst (λ j. IsTrue (test j)) (sym (eqb-true i k e)) (and_left (test k) (list_all test (range_with_len (k + 1) n)) h)
    at false e later = later (grind (arith, nat_tests, e, low))

used_top : (ns : List ℕ) (count : ℕ) → IsTrue (are_all_used ns count) → count ≤ greatest ns
used_top ns zero h = omega arith
used_top ns (suc c) h = any_below (suc c) ns (all_in (λ n. list_any (λ used. used == n) ns) (suc c) 1 h (suc c) (omega arith) (omega arith))

same_tables : (x y : Tables) → x.spaces ≡ y.spaces → x.terms ≡ y.terms → x.nonces ≡ y.nonces → x.texts ≡ y.texts → x ≡ y
same_tables x y spaces terms nonces texts =
    ap (λ z. tables z x.terms x.nonces x.texts) spaces
    ∙ (ap (λ z. tables y.spaces z x.nonces x.texts) terms ∙ (ap (λ z. tables y.spaces y.terms z x.texts) nonces ∙ ap (λ z. tables y.spaces y.terms y.nonces z) texts))
  where
    tables : List ProtectionSpace → List TermsName → List NonceName → List Login → Tables
    tables s t n l = record { spaces = s; terms = t; nonces = n; texts = l }

-- what has no entry of the request
none_own : (r : ℕ) (entries : List Entry) → All (λ (entry : Entry). entry.request + 1 ≤ r) entries → own entries r ≡ []
none_own r [] low = refl
none_own r (entry ∷ entries) low =
    let other : (entry.request == r) ≡ false = (let le = All-head (λ (x : Entry). x.request + 1 ≤ r) entry entries low in grind (arith, nat_tests, le)) in
    ap (λ b. cond b (entry ∷ own entries r) (own entries r)) other ∙ none_own r entries (All-tail (λ (x : Entry). x.request + 1 ≤ r) entry entries low)

-- BETWEEN TWO REQUESTS

-- what remains of a run from a request on
pub record IsLeft (run : Run) (r n : ℕ) (names : Tables) (entries whole : List Entry) : Type 0 where
  pub so_far : IsNamedSoFar names run.names
  pub by_calls : reverse run.journal ≡ reverse (flat_map (λ q. called q (trace run q)) (range_with_len r n)) ++ entries
  pub by_traces : reverse (history run) ≡ reverse (flat_map (λ q. told q (trace run q)) (range_with_len r n)) ++ whole

pub record AreAgreedTo (roster : Roster) (a b : Run) (r n : ℕ) : Type 0 where
  pub names : Tables
  pub entries : List Entry
  pub whole : List Entry
  pub legal : IsLegalPast roster names entries
  pub are_names : AreNames names
  pub pages : All (IsPage (length roster.requests)) entries
  pub undrawn : without_draws whole ≡ entries
  pub spaces : greatest (numbers space_in entries) ≤ length names.spaces
  pub terms : greatest (numbers terms_in entries) ≤ length names.terms
  pub texts : length (numbers text_in entries) ≡ length names.texts
  pub text_top : greatest (numbers text_in entries) ≤ length names.texts
  pub low : All (λ entry. entry.request + 1 ≤ r) entries
  pub of_a : IsLeft a r n names entries whole
  pub of_b : IsLeft b r n names entries whole

one_trace : (f : List Event → List Entry) (later : List Entry) (trace : List Event) (entries all : List Entry) → all ≡ reverse (f trace ++ later) ++ entries → all ≡ reverse later ++ (reverse (f trace) ++ entries)
one_trace f later trace entries all e = e ∙ (ap (λ l. l ++ entries) (reverse-append (f trace) later) ∙ append_assoc (reverse later) (reverse (f trace)) entries)

-- a run enters the request
entered : (roster : Roster) (outside : Outside) (seed : List ℕ) (run : Run) (r n : ℕ) (request : Request) (names : Tables) (entries whole : List Entry) → IsLeft run r (suc n) names entries whole
    → IsMade (setting_of roster seed run.names (reverse run.journal) r request) outside.streams (answer_for outside run) (outside.steps r) (trace run r)
    → IsAt roster outside seed run r 1 request names entries whole [] (trace run r) (range_with_len (r + 1) n)
entered roster outside seed run r n request names entries whole left is_made = record {
  so_far = left.so_far;
  by_calls = one_trace (called r) (flat_map (λ q. called q (trace run q)) (range_with_len (r + 1) n)) (trace run r) entries (reverse run.journal) left.by_calls;
  by_traces = one_trace (told r) (flat_map (λ q. told q (trace run q)) (range_with_len (r + 1) n)) (trace run r) whole (reverse (history run)) left.by_traces;
  is_on = on (setting_of roster seed run.names (reverse run.journal) r request) outside.streams (answer_for outside run) (outside.steps r) (trace run r) is_made;
  is_over = over (setting_of roster seed run.names (reverse run.journal) r request) outside.streams (answer_for outside run) (outside.steps r) (trace run r) is_made;
  stepped = is_made.stepped;
}

module _ (roster : Roster) (outside : Outside) (seed : List ℕ) (a b : Run) (pa : IsPlayed roster outside seed a) (pb : IsPlayed roster outside seed b) where
  -- ONE REQUEST

  module _ (r : ℕ) (request : Request) (later : List ℕ) where
    abbrev Agreed : ℕ → List Event → List Event → List Event → Type 0
    Agreed k past ea eb = AreAgreed roster outside seed a b pa pb r request later k past ea eb

    agreed_on : (k : ℕ) (past ea eb : List Event) → Agreed k past ea eb → (ea ≡ eb) × ((j : ℕ) × (last : List Event) × Agreed j last [] [])
    agreed_on k past [] [] agreed = (refl, (k, past, agreed))
    agreed_on k past [] (f ∷ eb) agreed = absurd (nothing_after (setting_of roster seed b.names (reverse b.journal) r request) past f agreed.of_a.is_over agreed.of_b.is_on.0.0)
    agreed_on k past (e ∷ ea) [] agreed = absurd (nothing_after (setting_of roster seed a.names (reverse a.journal) r request) past e agreed.of_b.is_over agreed.of_a.is_on.0.0)
    agreed_on k past (e ∷ ea) (f ∷ eb) agreed =
        let next = next_agreed roster outside seed a b pa pb r request later k past e f ea eb agreed in
        let rest = agreed_on (behind k e) (e ∷ past) ea eb next.1 in
        (ap (λ l. e ∷ l) rest.0 ∙ ap (λ x. x ∷ eb) next.0, rest.1)

  -- REQUEST BY REQUEST

  abbrev To : ℕ → ℕ → Type 0
  To r n = AreAgreedTo roster a b r n

  enter : (r n : ℕ) (request : Request) → (x : IsPlayedAt roster outside seed a r) → (y : IsPlayedAt roster outside seed b r) → x.request ≡ request → y.request ≡ request → To r (suc n)
      → AreAgreed roster outside seed a b pa pb r request (range_with_len (r + 1) n) 1 [] (trace a r) (trace b r)
  enter r n request x y is_x is_y to =
      let none : own to.entries r ≡ [] = none_own r to.entries to.low in
      record {
        names = to.names;
        entries = to.entries;
        whole = to.whole;
        shared = record {
          serving = record {
            legal = to.legal;
            are_names = to.are_names;
            in_roster = x.in_roster ∙ ap Some is_x;
            same_calls = ap (map _) none;
            one_caller = ap (list_all (λ (entry : Entry). entry.caller == 1)) none;
            few = (let e : length (own to.entries r) ≡ 0 = ap length none in omega (arith, e));
            is_past = tt;
          };
          pages = to.pages;
          undrawn = to.undrawn;
          spaces = to.spaces;
          terms = to.terms;
          texts = to.texts;
          text_top = to.text_top;
          low = All-weaker (λ (entry : Entry). entry.request + 1 ≤ r) (λ (entry : Entry). entry.request ≤ r) (λ entry le. omega (arith, le)) to.entries to.low;
        };
        of_a =
            entered roster outside seed a r n request to.names to.entries to.whole to.of_a
            (subst (λ z. IsMade (setting_of roster seed a.names (reverse a.journal) r z) outside.streams (answer_for outside a) (outside.steps r) (trace a r)) is_x x.is_made);
        of_b =
            entered roster outside seed b r n request to.names to.entries to.whole to.of_b
            (subst (λ z. IsMade (setting_of roster seed b.names (reverse b.journal) r z) outside.streams (answer_for outside b) (outside.steps r) (trace b r)) is_y y.is_made);
      }

  leave : (r n j : ℕ) (request : Request) (last : List Event) → AreAgreed roster outside seed a b pa pb r request (range_with_len (r + 1) n) j last [] [] → To (r + 1) n
  leave r n j request last agreed = record {
    names = agreed.names;
    entries = agreed.entries;
    whole = agreed.whole;
    legal = agreed.shared.serving.legal;
    are_names = agreed.shared.serving.are_names;
    pages = agreed.shared.pages;
    undrawn = agreed.shared.undrawn;
    spaces = agreed.shared.spaces;
    terms = agreed.shared.terms;
    texts = agreed.shared.texts;
    text_top = agreed.shared.text_top;
    low = All-weaker (λ (entry : Entry). entry.request ≤ r) (λ (entry : Entry). entry.request + 1 ≤ r + 1) (λ entry le. omega (arith, le)) agreed.entries agreed.shared.low;
    of_a = record { so_far = agreed.of_a.so_far; by_calls = agreed.of_a.by_calls; by_traces = agreed.of_a.by_traces };
    of_b = record { so_far = agreed.of_b.so_far; by_calls = agreed.of_b.by_calls; by_traces = agreed.of_b.by_traces };
  }

  whole_b : length b.traces ≡ length a.traces
  whole_b = pb.whole ∙ sym pa.whole

  onward : (n r : ℕ) → 1 ≤ r → r + n ≡ length a.traces + 1 → To r n → ((q : ℕ) → r ≤ q → suc q ≤ r + n → trace a q ≡ trace b q) × To (r + n) 0
  onward zero r low high to = (λ q from before. absurd (omega (arith, from, before)), subst (λ m. To m 0) (omega arith) to)
  onward (suc n) r low high to =
      let x = pa.at_request r low (omega (arith, high)) in
      let y = pb.at_request r low (omega (arith, high, whole_b)) in
      let found : Some y.request ≡ Some x.request = sym y.in_roster ∙ x.in_roster in
      let one : y.request ≡ x.request = cc in
      let here = agreed_on r x.request (range_with_len (r + 1) n) 1 [] (trace a r) (trace b r) (enter r n x.request x y refl one to) in
      let rest = onward n (r + 1) (omega (arith, low)) (omega (arith, high)) (leave r n here.1.0 x.request here.1.1 here.1.2) in
      (λ q from before. at q from before here.0 rest.0 (q == r) refl, subst (λ m. To m 0) (omega arith) rest.1)
    where
      at : (q : ℕ) → r ≤ q → suc q ≤ r + suc n → trace a r ≡ trace b r → ((p : ℕ) → r + 1 ≤ p → suc p ≤ r + 1 + n → trace a p ≡ trace b p) → (c : Bool) → (q == r) ≡ c → trace a q ≡ trace b q
      at q from before here rest true e = subst (λ p. trace a p ≡ trace b p) (sym (eqb-true q r e)) here
      at q from before here rest false e = rest q (grind (arith, nat_tests, e, from)) (omega (arith, before))

  start : To 1 (length a.traces)
  start = record {
    names = no_names;
    entries = [];
    whole = [];
    legal = tt;
    are_names = AreNames-none;
    pages = All-nil (IsPage (length roster.requests));
    undrawn = refl;
    spaces = omega arith;
    terms = omega arith;
    texts = refl;
    text_top = omega arith;
    low = All-nil (λ (entry : Entry). entry.request + 1 ≤ 1);
    of_a = left a pa refl;
    of_b = left b pb whole_b;
  }
    where
      left : (run : Run) → IsPlayed roster outside seed run → length run.traces ≡ length a.traces → IsLeft run 1 (length a.traces) no_names [] []
      left run p same = record {
        so_far = record {
          grow = record { new_spaces = run.names.spaces; new_terms = run.names.terms; new_texts = run.names.texts; spaces = refl; terms = refl; texts = refl };
          new_nonces = run.names.nonces;
          nonces = refl;
        };
        by_calls = ap reverse (p.by_calls ∙ ap (λ n. flat_map (λ q. called q (trace run q)) (range_with_len 1 n)) same) ∙ sym (append-nil (reverse (flat_map (λ q. called q (trace run q)) (range_with_len 1 (length a.traces)))));
        by_traces = ap reverse (p.by_traces ∙ ap (λ n. flat_map (λ q. told q (trace run q)) (range_with_len 1 n)) same) ∙ sym (append-nil (reverse (flat_map (λ q. told q (trace run q)) (range_with_len 1 (length a.traces)))));
      }

  -- at the end all names are those so far
  all_named : (run : Run) (r : ℕ) (names : Tables) (entries whole : List Entry) → IsPlayed roster outside seed run → IsLeft run r 0 names entries whole → AreNames names
      → greatest (numbers space_in entries) ≤ length names.spaces → greatest (numbers terms_in entries) ≤ length names.terms → greatest (numbers text_in entries) ≤ length names.texts → run.names ≡ names
  all_named run r names entries whole p left are spaces terms texts =
      same_tables run.names names all_spaces all_terms all_nonces all_texts
    where
      used_spaces : IsTrue (are_all_used (numbers_in space_in run.journal) (length run.names.spaces))
      used_spaces = and_left _ (are_all_used (numbers_in terms_in run.journal) (length run.names.terms)) (and_left _ (are_all_used (numbers_in text_in run.journal) (length run.names.texts)) p.used)

      used_terms : IsTrue (are_all_used (numbers_in terms_in run.journal) (length run.names.terms))
      used_terms = and_right (are_all_used (numbers_in space_in run.journal) (length run.names.spaces)) _ (and_left _ (are_all_used (numbers_in text_in run.journal) (length run.names.texts)) p.used)

      used_texts : IsTrue (are_all_used (numbers_in text_in run.journal) (length run.names.texts))
      used_texts = and_right (are_all_used (numbers_in space_in run.journal) (length run.names.spaces) && are_all_used (numbers_in terms_in run.journal) (length run.names.terms)) _ p.used

      top : (number : Call → Option ℕ) (count most : ℕ) → IsTrue (are_all_used (numbers_in number run.journal) count) → greatest (numbers number entries) ≤ most → count ≤ most
      top number count most used le =
          let here : numbers_in number run.journal ≡ numbers number entries = sym (numbers_reverse number run.journal) ∙ ap (numbers number) left.by_calls in
          let below = used_top (numbers_in number run.journal) count used in
          omega (arith, below, le, ap greatest here)

      all_spaces : run.names.spaces ≡ names.spaces
      all_spaces = none_more run.names.spaces names.spaces left.so_far.grow.new_spaces left.so_far.grow.spaces (top space_in (length run.names.spaces) (length names.spaces) used_spaces spaces)

      all_terms : run.names.terms ≡ names.terms
      all_terms = none_more run.names.terms names.terms left.so_far.grow.new_terms left.so_far.grow.terms (top terms_in (length run.names.terms) (length names.terms) used_terms terms)

      all_texts : run.names.texts ≡ names.texts
      all_texts = none_more run.names.texts names.texts left.so_far.grow.new_texts left.so_far.grow.texts (top text_in (length run.names.texts) (length names.texts) used_texts texts)

      all_nonces : run.names.nonces ≡ names.nonces
      all_nonces =
          let many : length run.names.nonces ≡ length names.nonces = sym p.are_names.used ∙ (ap (λ l. greatest (nonce_numbers l)) all_terms ∙ are.used) in
          none_more run.names.nonces names.nonces left.so_far.new_nonces left.so_far.nonces (omega (arith, many))

pub runs_are_one : (roster : Roster) (outside : Outside) (seed : List ℕ) (a b : Run) → IsLoneRun roster outside seed a → IsLoneRun roster outside seed b → is_any_spent a ≡ false → is_any_spent b ≡ false → a ≡ b
runs_are_one roster outside seed a b p q unspent_a unspent_b =
    let pa = played roster outside seed a p unspent_a in
    let pb = played roster outside seed b q unspent_b in
    let all = onward roster outside seed a b pa pb (length a.traces) 1 (omega arith) (omega arith) (start roster outside seed a b pa pb) in
    let to = all.1 in
    let names_a = all_named roster outside seed a b pa pb a (1 + length a.traces) to.names to.entries to.whole pa to.of_a to.are_names to.spaces to.terms to.text_top in
    let names_b = all_named roster outside seed a b pa pb b (1 + length a.traces) to.names to.entries to.whole pb to.of_b to.are_names to.spaces to.terms to.text_top in
    run_is_traces roster outside seed a b p.is_run q.is_run (names_a ∙ sym names_b)
    (same_lists a.traces b.traces (pa.whole ∙ sym pb.whole)
    (λ i high. subst (λ n. slice_index_or a.traces n [] ≡ slice_index_or b.traces n []) (place i) (all.0 (suc i) (omega arith) (omega (arith, high)))))
  where
    place : (i : ℕ) → suc i - 1 ≡ i
    place i = omega arith
