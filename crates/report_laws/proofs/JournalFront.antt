-- The lines of a journal are taken as that journal.
use Rattle.std.proofs.Common.{◌≡◌, ℕ, ◌+◌, ◌≤◌, ◌==◌, cond, true, List, [], ◌∷◌, ◌++◌, map, Some, refl, sym, ap, subst, ◌∙◌, arith, append_assoc, append-nil}
use Rattle.std.proofs.lemmas.List.Sums.{sum_by-append, sum_by-cons}
use Rattle.std.proofs.lemmas.Bool.Decides.{nat_tests}
use Rattle.auth_events.specs.Pages.{IsPage, count_of, fits}
use Rattle.auth_events.specs.declared.journal.Entry.{Entry}
use Rattle.auth_runs.specs.Runs.{Each}
use Rattle.report_lines.specs.EntryLines.{entry_line}
use Rattle.report_reading.specs.Words.{words}
use Rattle.report_reading.specs.EntryForms.{entry_form}
use Rattle.report_reading.specs.Reading.{entry_at, if_fits}
use Rattle.auth_report.specs.Sections.{taken}
use Rattle.auth_report.specs.Steps.{entry_step, has_room}
use Rattle.auth_report.specs.Reading.{journal_front}
use Rattle.report_laws.specs.Ranges.{EntryHolds}
use Rattle.report_laws.proofs.EntriesAgain.{entry_again}
use Rattle.report_laws.proofs.Fronts.{Refuses, begins, le_test, lt_test, none_taken, other_kind, taken_more, taken_stop}

entry_stops : (n : ℕ) (s : List Entry) (lines : List (List ℕ)) → begins 7 lines ≡ true → Refuses (entry_step n) s lines
entry_stops n s [] h = tt
entry_stops n s (line ∷ lines) h =
    none_taken (entry_at line) _ (other_kind (if_fits (entry_form (words line))) entry_line line 6 (λ x. refl) h)

abbrev one_at : ℕ → Entry → ℕ
one_at r entry = cond (entry.request == r) 1 0

one_at_self : (entry : Entry) → one_at entry.request entry ≡ 1
one_at_self entry = grind (arith, nat_tests)

counted : (r : ℕ) (s : List Entry) (x : Entry) (xs : List Entry) → count_of r (s ++ x ∷ xs) ≡ count_of r s + (one_at r x + count_of r xs)
counted r s x xs = sum_by-append (one_at r) s (x ∷ xs) ∙ ap (λ (n : ℕ). count_of r s + n) (sum_by-cons (one_at r) x xs)

room : (n : ℕ) (s : List Entry) (x : Entry) (xs : List Entry) → IsPage n x → count_of x.request (s ++ x ∷ xs) ≤ 64 → has_room n s x ≡ true
room n s x xs page few =
    let all = counted x.request s x xs in
    let one = one_at_self x in
    let a = le_test 1 x.request page.from_one in
    let b = le_test x.request n page.in_roster in
    let c = lt_test (count_of x.request s) 64 (omega (arith, few, all, one)) in
    rw (a, b, c) refl

entries_taken : (n : ℕ) (s xs : List Entry) (more : List (List ℕ)) → Each EntryHolds xs → Each (IsPage n) xs → ((r : ℕ) → count_of r (s ++ xs) ≤ 64)
    → taken (entry_step n) s (map entry_line xs ++ more) ≡ taken (entry_step n) (s ++ xs) more
entries_taken n s [] more h pages few = rw (append-nil s) refl
entries_taken n s (x ∷ xs) more h pages few =
    let fit : fits x.call x.reply ≡ true = pages.0.fit in
    let step : entry_step n s (entry_line x) ≡ Some (s ++ x ∷ []) = rw (entry_again x h.0 fit, room n s x xs pages.0 (few x.request)) refl in
    let flat = append_assoc s (x ∷ []) xs in
    taken_more (entry_step n) s (s ++ x ∷ []) (entry_line x) (map entry_line xs ++ more) step
    ∙ entries_taken n (s ++ x ∷ []) xs more h.1 pages.1 (λ r. subst (λ (all : List Entry). count_of r all ≤ 64) (sym flat) (few r))
    ∙ ap (λ (t : List Entry). taken (entry_step n) t more) flat

pub journal_again : (n : ℕ) (xs : List Entry) (more : List (List ℕ)) → Each EntryHolds xs → Each (IsPage n) xs → ((r : ℕ) → count_of r xs ≤ 64) → begins 7 more ≡ true
    → journal_front n (map entry_line xs ++ more) ≡ (xs, more)
journal_again n xs more h pages few behind = entries_taken n [] xs more h pages few ∙ taken_stop (entry_step n) xs more (entry_stops n xs more behind)
