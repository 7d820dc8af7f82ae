-- What is read is a run whose text was read.
use Rattle.std.proofs.Common.{◌≡◌, ℕ, zero, suc, ◌+◌, ◌==◌, Bool, true, false, List, [], ◌∷◌, ◌++◌, length, codes, Option, Some, None, Ok, Err, refl, sym, ap, ◌∙◌, arith, append_assoc, length-append}
use Rattle.std.specs.Prelude.{⊤, bytes_eq}
use Rattle.std.proofs.lemmas.Bool.Decides.{nat_tests}
use Rattle.std.proofs.lemmas.List.{append-nil}
use Rattle.std.proofs.lemmas.Slice.Eq.{bytes_eq-Decides}
use Rattle.auth_events.specs.Tables.{Tables, no_names}
use Rattle.auth_events.specs.declared.names.TermsName.{TermsName}
use Rattle.auth_events.specs.declared.journal.Entry.{Entry}
use Rattle.auth_runs.specs.declared.event.Event.{Event}
use Rattle.auth_runs.specs.Runs.{Run, is_whole}
use Rattle.report_lines.specs.RosterLines.{seed_line, default_lines, request_lines}
use Rattle.report_lines.specs.NameLines.{space_lines, terms_lines}
use Rattle.report_lines.specs.EntryLines.{entry_lines}
use Rattle.report_lines.specs.EventLines.{event_lines, trace_lines}
use Rattle.report_reading.specs.Cuts.{lines}
use Rattle.report_reading.specs.Words.{words}
use Rattle.report_reading.specs.Forms.{seed_form}
use Rattle.report_reading.specs.Reading.{seed_at}
use Rattle.auth_report.specs.Report.{text}
use Rattle.auth_report.specs.Sections.{taken}
use Rattle.auth_report.specs.Steps as step
use Rattle.auth_report.specs.Reading.{roster_front, names_front, journal_front, trace_front, traces_front, if_ended, body_front, last_line, end_line, ended, if_seed, from_seed, whole}
use Rattle.auth_report.proofs.Written.{joined, lines_joined, is_written, taken_writes, trace_push, two_lines, three_lines, default_writes, request_writes, space_writes, terms_writes, text_writes, entry_writes, event_writes}

abbrev Left : Type 0
Left = List (List ℕ)

roster_write : (all : Left) → (default_lines (roster_front all).0.allowed ++ request_lines 1 (roster_front all).0.requests) ++ joined (roster_front all).1 ≡ joined all
roster_write all =
    let allowed = taken step.default_step [] all in
    let requests = taken step.request_step [] allowed.1 in
    let a = taken_writes step.default_step (λ t. ⊤) default_lines (λ s t line h k. (tt, default_writes s t line k)) [] all tt in
    let b = taken_writes step.request_step (λ t. ⊤) (request_lines 1) (λ s t line h k. (tt, request_writes s t line k)) [] allowed.1 tt in
    append_assoc (default_lines allowed.0) (request_lines 1 requests.0) (joined requests.1) ∙ ap (λ (l : List ℕ). default_lines allowed.0 ++ l) b.1 ∙ a.1

terms_write : (n : ℕ) (spaces : Tables) (left : Left) (all : List ℕ) → spaces.terms ≡ [] → spaces.texts ≡ [] → space_lines 1 spaces.spaces ++ joined left ≡ all
    → ((taken (step.terms_step n) spaces left).0.texts ≡ []) × (two_lines (taken (step.terms_step n) spaces left).0 ++ joined (taken (step.terms_step n) spaces left).1 ≡ all)
terms_write n spaces left all no_terms no_texts before =
    let b = taken_writes (step.terms_step n) (λ t. t.texts ≡ []) two_lines (λ s t line h k. terms_writes n s t line h k) spaces left no_texts in (
      b.0,
      b.1 ∙ ap (λ (ts : List TermsName). (space_lines 1 spaces.spaces ++ terms_lines 1 ts) ++ joined left) no_terms
          ∙ ap (λ (l : List ℕ). l ++ joined left) (append-nil (space_lines 1 spaces.spaces)) ∙ before,
    )

text_write : (n : ℕ) (names : Tables) (left : Left) (all : List ℕ) → names.texts ≡ [] → two_lines names ++ joined left ≡ all
    → three_lines (taken (step.text_step n) names left).0 ++ joined (taken (step.text_step n) names left).1 ≡ all
text_write n names left all no_texts before =
    let b = taken_writes (step.text_step n) (λ t. ⊤) three_lines (λ s t line h k. (tt, text_writes n s t line k)) names left tt in
    let none : three_lines names ≡ two_lines names = rw no_texts (append-nil (two_lines names)) in
    b.1 ∙ ap (λ (l : List ℕ). l ++ joined left) none ∙ before

names_write : (n : ℕ) (all : Left) → three_lines (names_front n all).0 ++ joined (names_front n all).1 ≡ joined all
names_write n all =
    let spaces = taken (step.space_step n) no_names all in
    let terms = taken (step.terms_step n) spaces.0 spaces.1 in
    let a = taken_writes (step.space_step n) (λ t. (t.terms ≡ []) × (t.texts ≡ [])) (λ t. space_lines 1 t.spaces) (λ s t line h k. space_writes n s t line h k) no_names all (refl, refl) in
    let b = terms_write n spaces.0 spaces.1 (joined all) a.0.0 a.0.1 a.1 in
    text_write n terms.0 terms.1 (joined all) b.0 b.1

journal_write : (n : ℕ) (all : Left) → entry_lines (journal_front n all).0 ++ joined (journal_front n all).1 ≡ joined all
journal_write n all = (taken_writes (step.entry_step n) (λ t. ⊤) entry_lines (λ s t line h k. (tt, entry_writes n s t line k)) [] all tt).1

trace_write : (journal : List Entry) (r : ℕ) (all : Left) → event_lines r (trace_front journal r all).0 ++ joined (trace_front journal r all).1 ≡ joined all
trace_write journal r all =
    (taken_writes (step.event_step (step.own journal r) r) (λ t. ⊤) (event_lines r) (λ s t line h k. (tt, event_writes (step.own journal r) r s t line k)) [] all tt).1

trace_behind : (traces : List (List Event)) (got : List Event) (left all : List ℕ) → event_lines (length traces + 1) got ++ left ≡ all
    → trace_lines 1 (traces ++ got ∷ []) ++ left ≡ trace_lines 1 traces ++ all
trace_behind traces got left all one =
    ap (λ (l : List ℕ). l ++ left) (trace_push 1 traces got) ∙ append_assoc (trace_lines 1 traces) (event_lines (length traces + 1) got) left
    ∙ ap (λ (l : List ℕ). trace_lines 1 traces ++ l) one

-- the traces, where each request has one
traces_write : (journal : List Entry) (k : ℕ) (traces : List (List Event)) (all : Left) → length (traces_front journal k traces all).0 ≡ length traces + k
    → trace_lines 1 (traces_front journal k traces all).0 ++ joined (traces_front journal k traces all).1 ≡ trace_lines 1 traces ++ joined all
traces_write journal zero traces all few = refl
traces_write journal (suc k) traces all few =
    by_end traces all k (trace_front journal (length traces + 1) all) (is_whole (trace_front journal (length traces + 1) all).0) refl
    (λ more left. traces_front journal k more left) (λ more left count. traces_write journal k more left count) (trace_write journal (length traces + 1) all) few where
      by_end : (traces : List (List Event)) (all : Left) (k : ℕ) (got : List Event × Left) (over : Bool) → is_whole got.0 ≡ over → (rest : List (List Event) → Left → List (List Event) × Left)
          → ((more : List (List Event)) (left : Left) → length (rest more left).0 ≡ length more + k → trace_lines 1 (rest more left).0 ++ joined (rest more left).1 ≡ trace_lines 1 more ++ joined left)
          → event_lines (length traces + 1) got.0 ++ joined got.1 ≡ joined all → length (if_ended got traces rest).0 ≡ length traces + suc k
          → trace_lines 1 (if_ended got traces rest).0 ++ joined (if_ended got traces rest).1 ≡ trace_lines 1 traces ++ joined all
      by_end traces all k got true e rest later one few =
          let is : if_ended got traces rest ≡ rest (traces ++ got.0 ∷ []) got.1 = rw e refl in
          let count : length (rest (traces ++ got.0 ∷ []) got.1).0 ≡ length (traces ++ got.0 ∷ []) + k =
          sym (ap (λ (r : List (List Event) × Left). length r.0) is) ∙ few ∙ omega (arith, length-append traces (got.0 ∷ [])) in
          ap (λ (r : List (List Event) × Left). trace_lines 1 r.0 ++ joined r.1) is ∙ later (traces ++ got.0 ∷ []) got.1 count
          ∙ trace_behind traces got.0 (joined got.1) (joined all) one
      by_end traces all k got false e rest later one few =
          let is : if_ended got traces rest ≡ (traces, got.1) = rw e refl in
          let count : length traces ≡ length traces + suc k = sym (ap (λ (r : List (List Event) × Left). length r.0) is) ∙ few in
          absurd (omega (arith, count))

put : (first seed roster names journal traces last behind_seed behind_roster behind_names behind_journal : List ℕ) → roster ++ behind_roster ≡ behind_seed
    → names ++ behind_names ≡ behind_roster → journal ++ behind_journal ≡ behind_names → traces ++ last ≡ behind_journal
    → (((((first ++ seed) ++ roster) ++ names) ++ journal) ++ traces) ++ last ≡ first ++ (seed ++ behind_seed)
put first seed roster names journal traces last behind_seed behind_roster behind_names behind_journal a b c d =
    let flat : (((((first ++ seed) ++ roster) ++ names) ++ journal) ++ traces) ++ last ≡ first ++ (seed ++ (roster ++ (names ++ (journal ++ (traces ++ last))))) = simp append_assoc in
    flat ∙ ap (λ (l : List ℕ). first ++ (seed ++ (roster ++ (names ++ (journal ++ l))))) d ∙ ap (λ (l : List ℕ). first ++ (seed ++ (roster ++ (names ++ l)))) c
    ∙ ap (λ (l : List ℕ). first ++ (seed ++ (roster ++ l))) b ∙ ap (λ (l : List ℕ). first ++ (seed ++ l)) a

body_write : (seed : List ℕ) (all : Left) → length (body_front seed all).0.traces ≡ length (body_front seed all).0.roster.requests
    → joined (body_front seed all).1 ≡ codes "end\n" → text (body_front seed all).0 ≡ codes "authreport 1\n" ++ (seed_line seed ++ joined all)
body_write seed all few last =
    let roster = roster_front all in
    let n = length roster.0.requests in
    let names = names_front n roster.1 in
    let journal = journal_front n names.1 in
    let traces = traces_front journal.0 n [] journal.1 in
    let same : n ≡ 0 + n = omega arith in
    put (codes "authreport 1\n") (seed_line seed) (default_lines roster.0.allowed ++ request_lines 1 roster.0.requests) (three_lines names.0) (entry_lines journal.0)
    (trace_lines 1 traces.0) (codes "end\n") (joined all) (joined roster.1) (joined names.1) (joined journal.1) (roster_write all) (names_write n roster.1) (journal_write n names.1)
    (ap (λ (l : List ℕ). trace_lines 1 traces.0 ++ l) (sym last) ∙ traces_write journal.0 n [] journal.1 (few ∙ same))

-- FROM THE END

last_ok : (got run : Run) (left : Left) → last_line got left ≡ Ok run → (got ≡ run) × (left ≡ [])
last_ok got run [] h = (cc h, refl)
last_ok got run (line ∷ left) h = absurd (cc h)

end_ok : (got run : Run) (left : Left) → end_line got left ≡ Ok run → (got ≡ run) × (joined left ≡ codes "end\n")
end_ok got run [] h = absurd (cc h)
end_ok got run (line ∷ left) h = by_test got run line left (bytes_eq line (codes "end\n")) refl h where
  by_test : (got run : Run) (line : List ℕ) (left : Left) (same : Bool) → bytes_eq line (codes "end\n") ≡ same → end_line got (line ∷ left) ≡ Ok run
      → (got ≡ run) × (joined (line ∷ left) ≡ codes "end\n")
  by_test got run line left true e h =
      let is : end_line got (line ∷ left) ≡ last_line got left = rw e refl in
      let last = last_ok got run left (sym is ∙ h) in
      (last.0, ap (λ (l : Left). line ++ joined l) last.1 ∙ append-nil line ∙ (bytes_eq-Decides line (codes "end\n")).0 e)
  by_test got run line left false e h = let is : end_line got (line ∷ left) ≡ Err (line ∷ left) = rw e refl in absurd (cc (sym is ∙ h))

equal_by : (a b : ℕ) → (a == b) ≡ true → a ≡ b
equal_by a b h = grind (arith, nat_tests)

ended_ok : (got : Run × Left) (run : Run) → ended got ≡ Ok run → (length got.0.traces ≡ length got.0.roster.requests) × (got.0 ≡ run) × (joined got.1 ≡ codes "end\n")
ended_ok got run h = by_count got run (length got.0.traces == length got.0.roster.requests) refl h where
  by_count : (got : Run × Left) (run : Run) (same : Bool) → (length got.0.traces == length got.0.roster.requests) ≡ same → ended got ≡ Ok run
      → (length got.0.traces ≡ length got.0.roster.requests) × (got.0 ≡ run) × (joined got.1 ≡ codes "end\n")
  by_count got run true e h =
      let is : ended got ≡ end_line got.0 got.1 = rw e refl in
      let last = end_ok got.0 run got.1 (sym is ∙ h) in
      (equal_by (length got.0.traces) (length got.0.roster.requests) e, last.0, last.1)
  by_count got run false e h = let is : ended got ≡ Err got.1 = rw e refl in absurd (cc (sym is ∙ h))

seed_ok : (all : Left) (run : Run) → from_seed all ≡ Ok run → text run ≡ codes "authreport 1\n" ++ joined all
seed_ok [] run h = absurd (cc h)
seed_ok (line ∷ all) run h = by_seed line all run (seed_at line) refl h where
  by_seed : (line : List ℕ) (all : Left) (run : Run) (o : Option (List ℕ)) → seed_at line ≡ o → if_seed (line ∷ all) all o ≡ Ok run
      → text run ≡ codes "authreport 1\n" ++ (line ++ joined all)
  by_seed line all run None e h = absurd (cc h)
  by_seed line all run (Some seed) e h =
      let got = ended_ok (body_front seed all) run h in
      sym (ap text got.1) ∙ body_write seed all got.0 got.2
      ∙ ap (λ (l : List ℕ). codes "authreport 1\n" ++ (l ++ joined all)) (is_written (seed_form (words line)) seed_line line seed e)

whole_ok : (all : Left) (run : Run) → whole all ≡ Ok run → text run ≡ joined all
whole_ok [] run h = absurd (cc h)
whole_ok (line ∷ all) run h = by_test line all run (bytes_eq line (codes "authreport 1\n")) refl h where
  by_test : (line : List ℕ) (all : Left) (run : Run) (same : Bool) → bytes_eq line (codes "authreport 1\n") ≡ same → whole (line ∷ all) ≡ Ok run → text run ≡ line ++ joined all
  by_test line all run true e h =
      let is : whole (line ∷ all) ≡ from_seed all = rw e refl in
      seed_ok all run (sym is ∙ h) ∙ ap (λ (l : List ℕ). l ++ joined all) (sym ((bytes_eq-Decides line (codes "authreport 1\n")).0 e))
  by_test line all run false e h = let is : whole (line ∷ all) ≡ Err (line ∷ all) = rw e refl in absurd (cc (sym is ∙ h))

pub only_texts : (bytes : List ℕ) (run : Run) → whole (lines bytes) ≡ Ok run → text run ≡ bytes
only_texts bytes run h = whole_ok (lines bytes) run h ∙ lines_joined bytes
