-- The text of a run is read as that run.
use Rattle.std.proofs.Common.{◌≡◌, ℕ, true, List, [], ◌∷◌, ◌++◌, length, map, codes, Option, Ok, refl, ap, subst, ◌∙◌, arith, append_assoc}
use Rattle.auth_events.specs.Pages.{IsPage, fits}
use Rattle.auth_events.specs.declared.journal.Entry.{Entry}
use Rattle.auth_runs.specs.declared.event.Event.{Event}
use Rattle.auth_runs.specs.Runs.{Run, Each, is_whole}
use Rattle.report_lines.specs.RosterLines.{seed_line, default_line, default_lines, request_line, request_lines}
use Rattle.report_lines.specs.NameLines.{space_line, space_lines, terms_line, terms_lines, text_line, text_lines}
use Rattle.report_lines.specs.EntryLines.{entry_line, entry_lines}
use Rattle.report_lines.specs.EventLines.{trace_lines}
use Rattle.report_reading.specs.Cuts.{lines}
use Rattle.auth_report.specs.Report.{text}
use Rattle.auth_report.specs.Reading.{body_front, ended, if_seed, whole, with_number, report, traces_front}
use Rattle.auth_report.proofs.Bodies.{body_is}
use Rattle.report_laws.specs.Ranges.{RunHolds}
use Rattle.report_laws.specs.Kept.{IsKept, AreTraces}
use Rattle.report_laws.specs.Lines.{run_lines, asked_lines, named_lines, told_lines, numbered_lines, all_events}
use Rattle.report_laws.proofs.RosterAgain.{seed_again}
use Rattle.report_laws.proofs.CutLines.{seed_cut, defaults_cut, requests_cut, spaces_cut, all_terms_cut, texts_cut, entries_cut, traces_cut}
use Rattle.report_laws.proofs.Fronts.{begins, each_of, later}
use Rattle.report_laws.proofs.RosterFront.{roster_again}
use Rattle.report_laws.proofs.TermsTaken.{names_again, names_begin}
use Rattle.report_laws.proofs.JournalFront.{journal_again}
use Rattle.report_laws.proofs.TraceFront.{traces_again}

-- THE LINES OF THE TEXT

flat : (first seed allowed requests spaces terms texts journal traces last : List ℕ)
    → (((((first ++ seed) ++ (allowed ++ requests)) ++ ((spaces ++ terms) ++ texts)) ++ journal) ++ traces) ++ last
    ≡ first ++ (seed ++ (allowed ++ (requests ++ (spaces ++ (terms ++ (texts ++ (journal ++ (traces ++ last))))))))
flat first seed allowed requests spaces terms texts journal traces last = simp append_assoc

pages_fit : (n : ℕ) (entries : List Entry) → Each (IsPage n) entries → Each (λ entry. fits entry.call entry.reply ≡ true) entries
pages_fit n [] h = tt
pages_fit n (entry ∷ entries) h = (h.0.fit, pages_fit n entries h.1)

pub text_cut : (run : Run) → RunHolds run → IsKept run → lines (text run) ≡ run_lines run
text_cut run h k =
    let n : ℕ = length run.roster.requests in
    let few = k.few in
    let spaces_few = k.few_names.spaces in
    let terms_few = k.few_names.terms in
    let texts_few = k.few_names.texts in
    let traced = k.all_traced in
    let pages = each_of (IsPage n) run.journal k.journal.pages in
    let b9 : List ℕ = codes "end\n" in
    let b8 : List ℕ = trace_lines 1 run.traces ++ b9 in
    let b7 : List ℕ = entry_lines run.journal ++ b8 in
    let b6 : List ℕ = text_lines 1 run.names.texts ++ b7 in
    let b5 : List ℕ = terms_lines 1 run.names.terms ++ b6 in
    let b4 : List ℕ = space_lines 1 run.names.spaces ++ b5 in
    let b3 : List ℕ = request_lines 1 run.roster.requests ++ b4 in
    let b2 : List ℕ = default_lines run.roster.allowed ++ b3 in
    let last : lines b9 ≡ codes "end\n" ∷ [] = refl in
    let l8 : lines b8 ≡ all_events 1 run.traces ++ (codes "end\n" ∷ []) =
    traces_cut 1 run.traces b9 (omega (arith, few, traced)) h.traces ∙ ap (λ (ls : List (List ℕ)). all_events 1 run.traces ++ ls) last in
    let l7 : lines b7 ≡ told_lines run =
    entries_cut run.journal b8 h.journal (pages_fit n run.journal pages) ∙ ap (λ (ls : List (List ℕ)). map entry_line run.journal ++ ls) l8 in
    let l6 : lines b6 ≡ numbered_lines text_line 1 run.names.texts ++ told_lines run =
    texts_cut 1 run.names.texts b7 (omega (arith, few, texts_few)) h.texts ∙ ap (λ (ls : List (List ℕ)). numbered_lines text_line 1 run.names.texts ++ ls) l7 in
    let l5 : lines b5 ≡ numbered_lines terms_line 1 run.names.terms ++ (numbered_lines text_line 1 run.names.texts ++ told_lines run) =
    all_terms_cut 1 run.names.terms b6 (omega (arith, few, terms_few)) h.terms ∙ ap (λ (ls : List (List ℕ)). numbered_lines terms_line 1 run.names.terms ++ ls) l6 in
    let l4 : lines b4 ≡ named_lines run =
    spaces_cut 1 run.names.spaces b5 (omega (arith, few, spaces_few)) h.spaces ∙ ap (λ (ls : List (List ℕ)). numbered_lines space_line 1 run.names.spaces ++ ls) l5 in
    let l3 : lines b3 ≡ numbered_lines request_line 1 run.roster.requests ++ named_lines run =
    requests_cut 1 run.roster.requests b4 (omega (arith, few)) h.requests ∙ ap (λ (ls : List (List ℕ)). numbered_lines request_line 1 run.roster.requests ++ ls) l4 in
    let l2 : lines b2 ≡ asked_lines run =
    defaults_cut run.roster.allowed b3 h.allowed ∙ ap (λ (ls : List (List ℕ)). map default_line run.roster.allowed ++ ls) l3 in
    let l1 : lines (seed_line run.seed ++ b2) ≡ seed_line run.seed ∷ asked_lines run =
    seed_cut run.seed h.seed b2 ∙ ap (λ (ls : List (List ℕ)). seed_line run.seed ∷ ls) l2 in
    ap lines (flat (codes "authreport 1\n") (seed_line run.seed) (default_lines run.roster.allowed) (request_lines 1 run.roster.requests) (space_lines 1 run.names.spaces)
    (terms_lines 1 run.names.terms) (text_lines 1 run.names.texts) (entry_lines run.journal) (trace_lines 1 run.traces) (codes "end\n"))
    ∙ first_cut (seed_line run.seed ++ b2)
    ∙ ap (λ (ls : List (List ℕ)). codes "authreport 1\n" ∷ ls) l1 where
      first_cut : (rest : List ℕ) → lines (codes "authreport 1\n" ++ rest) ≡ codes "authreport 1\n" ∷ lines rest
      first_cut rest = refl

-- READ

events_begin : (journal : List Entry) (r : ℕ) (traces : List (List Event)) → AreTraces journal r traces → begins 7 (all_events r traces ++ (codes "end\n" ∷ [])) ≡ true
events_begin journal r [] are = refl
events_begin journal r ([] ∷ traces) are = absurd (let whole : is_whole [] ≡ true = are.0.whole in cc whole)
events_begin journal r ((event ∷ events) ∷ traces) are = refl

told_begin : (run : Run) → AreTraces run.journal 1 run.traces → begins 6 (told_lines run) ≡ true
told_begin run are = by_journal run.journal (all_events 1 run.traces ++ (codes "end\n" ∷ [])) (events_begin run.journal 1 run.traces are) where
  by_journal : (journal : List Entry) (more : List (List ℕ)) → begins 7 more ≡ true → begins 6 (map entry_line journal ++ more) ≡ true
  by_journal [] more h = later 6 7 more (omega arith) h
  by_journal (entry ∷ journal) more h = refl

body_again : (run : Run) → RunHolds run → IsKept run → ended (body_front run.seed (asked_lines run)) ≡ Ok run
body_again run h k =
    let n : ℕ = length run.roster.requests in
    let few = k.few in
    let traced = k.all_traced in
    let last : List (List ℕ) = codes "end\n" ∷ [] in
    let pages = each_of (IsPage n) run.journal k.journal.pages in
    let told = told_begin run k.traces in
    let a = roster_again run.roster (named_lines run) h.allowed h.requests k.places few (names_begin run.names (told_lines run) told) in
    let b = names_again n run.names (told_lines run) k.names k.few_names few h.spaces h.terms h.texts told in
    let c = journal_again n run.journal (all_events 1 run.traces ++ last) h.journal pages k.journal.few (events_begin run.journal 1 run.traces k.traces) in
    let d = traces_again run.journal [] run.traces last (omega (arith, few, traced)) h.traces k.traces in
    let e : traces_front run.journal n [] (all_events 1 run.traces ++ last) ≡ (run.traces, last) =
    subst (λ (m : ℕ). traces_front run.journal m [] (all_events 1 run.traces ++ last) ≡ (run.traces, last)) traced d in
    body_is run.seed (asked_lines run) run.roster (named_lines run) n run.names (told_lines run) run.journal (all_events 1 run.traces ++ last) run.traces last a refl b c e traced

lines_again : (run : Run) → RunHolds run → IsKept run → whole (run_lines run) ≡ Ok run
lines_again run h k =
    ap (λ (o : Option (List ℕ)). if_seed (seed_line run.seed ∷ asked_lines run) (asked_lines run) o) (seed_again run.seed h.seed k.seed)
    ∙ body_again run h k

pub text_again : (run : Run) → RunHolds run → IsKept run → report (text run) ≡ Ok run
text_again run h k = ap (λ (ls : List (List ℕ)). with_number (length ls) (whole ls)) (text_cut run h k) ∙ ap (with_number (length (run_lines run))) (lines_again run h k)
