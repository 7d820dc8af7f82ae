-- What the parts of a run and what is left of the lines give together.
use Rattle.std.proofs.Common.{◌≡◌, ℕ, ◌==◌, Bool, true, List, [], length, Ok, Err, refl, sym, ap, ◌∙◌, arith, subst}
use Rattle.std.proofs.lemmas.Bool.Decides.{nat_tests}
use Rattle.spaces.specs.declared.roster.Roster.{Roster}
use Rattle.auth_events.specs.Tables.{Tables}
use Rattle.auth_events.specs.declared.journal.Entry.{Entry}
use Rattle.auth_runs.specs.declared.event.Event.{Event}
use Rattle.auth_runs.specs.Runs.{Run}
use Rattle.auth_report.specs.Reading.{roster_front, names_front, journal_front, traces_front, body_front, ended, end_line}

equal_test : (a b : ℕ) → a ≡ b → (a == b) ≡ true
equal_test a b h = grind (arith, nat_tests)

abbrev Left : Type 0
Left = List (List ℕ)

abbrev traces_behind : List ℕ → Roster → Tables → List Entry → List (List Event) × Left → Run × Left
traces_behind seed roster names journal traces = (record { seed = seed; roster = roster; names = names; journal = journal; traces = traces.0 }, traces.1)

abbrev journal_behind : List ℕ → Roster → Tables → List Entry × Left → Run × Left
journal_behind seed roster names journal = traces_behind seed roster names journal.0 (traces_front journal.0 (length roster.requests) [] journal.1)

abbrev names_behind : List ℕ → Roster → Tables × Left → Run × Left
names_behind seed roster names = journal_behind seed roster names.0 (journal_front (length roster.requests) names.1)

abbrev roster_behind : List ℕ → Roster × Left → Run × Left
roster_behind seed roster = names_behind seed roster.0 (names_front (length roster.0.requests) roster.1)

staged : (seed : List ℕ) (all : Left) → body_front seed all ≡ roster_behind seed (roster_front all)
staged seed all = refl

ended_is : (run : Run) (left : Left) → length run.traces ≡ length run.roster.requests → ended (run, left) ≡ end_line run left
ended_is run left few = let same = equal_test (length run.traces) (length run.roster.requests) few in rw same refl

by_count : (seed : List ℕ) (all : Left) (roster : Roster) (l1 : Left) (names : Tables) (l2 : Left) (journal : List Entry) (l3 : Left)
    (traces : List (List Event)) (l4 : Left) → roster_front all ≡ (roster, l1) → names_front (length roster.requests) l1 ≡ (names, l2) → journal_front (length roster.requests) l2 ≡ (journal, l3)
    → traces_front journal (length roster.requests) [] l3 ≡ (traces, l4) → length traces ≡ length roster.requests
    → ended (body_front seed all) ≡ end_line (record { seed = seed; roster = roster; names = names; journal = journal; traces = traces }) l4
by_count seed all roster l1 names l2 journal l3 traces l4 a b c d few =
    ap ended
    (staged seed all ∙ ap (roster_behind seed) a ∙ ap (names_behind seed roster) b ∙ ap (journal_behind seed roster names) c ∙ ap (traces_behind seed roster names journal) d)
    ∙ ended_is (record { seed = seed; roster = roster; names = names; journal = journal; traces = traces }) l4 few

pub body_is : (seed : List ℕ) (all : List (List ℕ)) (roster : Roster) (l1 : List (List ℕ)) (n : ℕ) (names : Tables) (l2 : List (List ℕ)) (journal : List Entry) (l3 : List (List ℕ))
    (traces : List (List Event)) (l4 : List (List ℕ)) → roster_front all ≡ (roster, l1) → n ≡ length roster.requests → names_front n l1 ≡ (names, l2) → journal_front n l2 ≡ (journal, l3)
    → traces_front journal n [] l3 ≡ (traces, l4) → length traces ≡ n
    → ended (body_front seed all) ≡ end_line (record { seed = seed; roster = roster; names = names; journal = journal; traces = traces }) l4
body_is seed all roster l1 n names l2 journal l3 traces l4 a count b c d few =
    by_count seed all roster l1 names l2 journal l3 traces l4 a
    (subst (λ (k : ℕ). names_front k l1 ≡ (names, l2)) count b) (subst (λ (k : ℕ). journal_front k l2 ≡ (journal, l3)) count c)
    (subst (λ (k : ℕ). traces_front journal k [] l3 ≡ (traces, l4)) count d) (few ∙ count)
