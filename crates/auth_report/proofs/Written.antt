-- A section writes back: the lines of what it tells, and those that are left, are the lines that it was read from.
use Rattle.std.proofs.Common.{◌≡◌, ℕ, suc, ◌+◌, ◌==◌, Bool, true, false, List, [], ◌∷◌, ◌++◌, length, Option, Some, None, refl, sym, ap, subst, ◌∙◌, arith, append_assoc}
use Rattle.std.specs.Prelude.{nat_lt, bytes_eq, slice_get, ◌*◌}
use Rattle.std.proofs.lemmas.List.{append-nil}
use Rattle.std.proofs.lemmas.Slice.Eq.{bytes_eq-Decides}
use Rattle.auth_text.specs.Login.{Login}
use Rattle.spaces.specs.declared.place.Origin.{Origin}
use Rattle.spaces.specs.declared.roster.Request.{Request}
use Rattle.spaces.specs.ProtectionSpaces.{ProtectionSpace}
use Rattle.auth_events.specs.Tables.{Tables, with_space, with_terms, with_text}
use Rattle.auth_events.specs.declared.names.TermsName.{TermsName}
use Rattle.auth_events.specs.declared.journal.Entry.{Entry}
use Rattle.auth_runs.specs.declared.event.Event.{Event}
use Rattle.report_lines.specs.RosterLines.{default_line, default_lines, request_line, request_lines}
use Rattle.report_lines.specs.NameLines.{space_line, space_lines, terms_line, terms_lines, text_line, text_lines}
use Rattle.report_lines.specs.EntryLines.{entry_line, entry_lines}
use Rattle.report_lines.specs.EventLines.{event_line, event_lines, trace_lines}
use Rattle.report_reading.specs.Cuts.{lines, with_byte, onto_first}
use Rattle.report_reading.specs.Words.{◌>>=◌, words}
use Rattle.report_reading.specs.Forms.{default_form, request_form, space_form, terms_form, text_form}
use Rattle.report_reading.specs.EntryForms.{entry_form}
use Rattle.report_reading.specs.Reading.{if_written, if_fits, event_of}
use Rattle.auth_report.specs.Sections.{taken}
use Rattle.auth_report.specs.Steps as step

-- the lines one after another
abbrev pub joined : List (List ℕ) → List ℕ
joined [] = []
joined (line ∷ lines) = line ++ joined lines

onto_joined : (b : ℕ) (all : List (List ℕ)) → joined (onto_first b all) ≡ b ∷ joined all
onto_joined b [] = refl
onto_joined b (line ∷ all) = refl

byte_joined : (b : ℕ) (all : List (List ℕ)) (ends : Bool) → (b == 10) ≡ ends → joined (with_byte b all) ≡ b ∷ joined all
byte_joined b all true h = rw h refl
byte_joined b all false h = rw h (onto_joined b all)

pub lines_joined : (text : List ℕ) → joined (lines text) ≡ text
lines_joined [] = refl
lines_joined (b ∷ bytes) = byte_joined b (lines bytes) (b == 10) refl ∙ ap (λ (more : List ℕ). b ∷ more) (lines_joined bytes)

-- a thing that is read is one for which just this line is written
pub is_written : {A : Type 0} (made : Option A) (written : A → List ℕ) (line : List ℕ) (thing : A) → (made >>= if_written written line) ≡ Some thing → written thing ≡ line
is_written None written line thing h = absurd (cc h)
is_written (Some made) written line thing h = by_test made written line thing (bytes_eq (written made) line) refl h where
  by_test : {A : Type 0} (made : A) (written : A → List ℕ) (line : List ℕ) (thing : A) (same : Bool) → bytes_eq (written made) line ≡ same
      → if_written written line made ≡ Some thing → written thing ≡ line
  by_test made written line thing true e h =
      let is : if_written written line made ≡ Some made = rw e refl in
      let it : made ≡ thing = cc (sym is ∙ h) in
      subst (λ x. written x ≡ line) it ((bytes_eq-Decides (written made) line).0 e)
  by_test made written line thing false e h = let none : if_written written line made ≡ None = rw e refl in absurd (cc (sym none ∙ h))

if_so_takes : {S : Type 0} (test : Bool) (next t : S) → step.if_so test next ≡ Some t → next ≡ t
if_so_takes true next t h = cc h
if_so_takes false next t h = absurd (cc h)

-- what a step takes: what holds of the state with any thing that this line is written for
step_takes : {A S : Type 0} (made : Option A) (test : A → Bool) (add : A → S) (t : S) (P : S → Type 0)
    → ((thing : A) → made ≡ Some thing → P (add thing)) → (made >>= λ thing. step.if_so (test thing) (add thing)) ≡ Some t → P t
step_takes None test add t P holds h = absurd (cc h)
step_takes (Some thing) test add t P holds h = subst P (if_so_takes (test thing) (add thing) t h) (holds thing refl)

-- a section whose steps each write just their line
pub taken_writes : {S : Type 0} (step : S → List ℕ → Option S) (Holds : S → Type 0) (written : S → List ℕ)
    → ((s t : S) (line : List ℕ) → Holds s → step s line ≡ Some t → Holds t × (written t ≡ written s ++ line))
    → (s : S) (all : List (List ℕ)) → Holds s
    → Holds (taken step s all).0 × (written (taken step s all).0 ++ joined (taken step s all).1 ≡ written s ++ joined all)
taken_writes step Holds written one s [] h = (h, refl)
taken_writes step Holds written one s (line ∷ all) h =
    by_step step Holds written one s line all (step s line) refl h (λ next k. taken_writes step Holds written one next all k) where
      by_step : {S : Type 0} (step : S → List ℕ → Option S) (Holds : S → Type 0) (written : S → List ℕ)
          → ((s t : S) (line : List ℕ) → Holds s → step s line ≡ Some t → Holds t × (written t ≡ written s ++ line))
          → (s : S) (line : List ℕ) (all : List (List ℕ)) (o : Option S) → step s line ≡ o → Holds s
          → ((next : S) → Holds next → Holds (taken step next all).0 × (written (taken step next all).0 ++ joined (taken step next all).1 ≡ written next ++ joined all))
          → Holds (taken step s (line ∷ all)).0 × (written (taken step s (line ∷ all)).0 ++ joined (taken step s (line ∷ all)).1 ≡ written s ++ (line ++ joined all))
      by_step step Holds written one s line all None e h later = rw e (h, refl)
      by_step step Holds written one s line all (Some next) e h later =
          let here = one s next line h e in
          let more = later next here.0 in
          rw e (more.0, more.1 ∙ ap (λ (front : List ℕ). front ++ joined all) here.1 ∙ append_assoc (written s) line (joined all))

-- THE LINES OF A LIST WITH ONE THING MORE

pub default_push : (xs : List Origin) (x : Origin) → default_lines (xs ++ x ∷ []) ≡ default_lines xs ++ default_line x
default_push [] x = append-nil (default_line x)
default_push (y ∷ xs) x = ap (λ (more : List ℕ). default_line y ++ more) (default_push xs x) ∙ sym (append_assoc (default_line y) (default_lines xs) (default_line x))

pub entry_push : (xs : List Entry) (x : Entry) → entry_lines (xs ++ x ∷ []) ≡ entry_lines xs ++ entry_line x
entry_push [] x = append-nil (entry_line x)
entry_push (y ∷ xs) x = ap (λ (more : List ℕ). entry_line y ++ more) (entry_push xs x) ∙ sym (append_assoc (entry_line y) (entry_lines xs) (entry_line x))

pub event_push : (r : ℕ) (xs : List Event) (x : Event) → event_lines r (xs ++ x ∷ []) ≡ event_lines r xs ++ event_line r x
event_push r [] x = append-nil (event_line r x)
event_push r (y ∷ xs) x = ap (λ (more : List ℕ). event_line r y ++ more) (event_push r xs x) ∙ sym (append_assoc (event_line r y) (event_lines r xs) (event_line r x))

pub request_push : (n : ℕ) (xs : List Request) (x : Request) → request_lines n (xs ++ x ∷ []) ≡ request_lines n xs ++ request_line (length xs + n) x
request_push n [] x = let same : n ≡ 0 + n = omega arith in append-nil (request_line n x) ∙ ap (λ (k : ℕ). request_line k x) same
request_push n (y ∷ xs) x =
    let same : length xs + (n + 1) ≡ suc (length xs) + n = omega arith in
    ap (λ (more : List ℕ). request_line n y ++ more) (request_push (n + 1) xs x ∙ ap (λ (k : ℕ). request_lines (n + 1) xs ++ request_line k x) same)
    ∙ sym (append_assoc (request_line n y) (request_lines (n + 1) xs) (request_line (suc (length xs) + n) x))

pub space_push : (n : ℕ) (xs : List ProtectionSpace) (x : ProtectionSpace) → space_lines n (xs ++ x ∷ []) ≡ space_lines n xs ++ space_line (length xs + n) x
space_push n [] x = let same : n ≡ 0 + n = omega arith in append-nil (space_line n x) ∙ ap (λ (k : ℕ). space_line k x) same
space_push n (y ∷ xs) x =
    let same : length xs + (n + 1) ≡ suc (length xs) + n = omega arith in
    ap (λ (more : List ℕ). space_line n y ++ more) (space_push (n + 1) xs x ∙ ap (λ (k : ℕ). space_lines (n + 1) xs ++ space_line k x) same)
    ∙ sym (append_assoc (space_line n y) (space_lines (n + 1) xs) (space_line (suc (length xs) + n) x))

pub terms_push : (n : ℕ) (xs : List TermsName) (x : TermsName) → terms_lines n (xs ++ x ∷ []) ≡ terms_lines n xs ++ terms_line (length xs + n) x
terms_push n [] x = let same : n ≡ 0 + n = omega arith in append-nil (terms_line n x) ∙ ap (λ (k : ℕ). terms_line k x) same
terms_push n (y ∷ xs) x =
    let same : length xs + (n + 1) ≡ suc (length xs) + n = omega arith in
    ap (λ (more : List ℕ). terms_line n y ++ more) (terms_push (n + 1) xs x ∙ ap (λ (k : ℕ). terms_lines (n + 1) xs ++ terms_line k x) same)
    ∙ sym (append_assoc (terms_line n y) (terms_lines (n + 1) xs) (terms_line (suc (length xs) + n) x))

pub text_push : (n : ℕ) (xs : List Login) (x : Login) → text_lines n (xs ++ x ∷ []) ≡ text_lines n xs ++ text_line (length xs + n) x
text_push n [] x = let same : n ≡ 0 + n = omega arith in append-nil (text_line n x) ∙ ap (λ (k : ℕ). text_line k x) same
text_push n (y ∷ xs) x =
    let same : length xs + (n + 1) ≡ suc (length xs) + n = omega arith in
    ap (λ (more : List ℕ). text_line n y ++ more) (text_push (n + 1) xs x ∙ ap (λ (k : ℕ). text_lines (n + 1) xs ++ text_line k x) same)
    ∙ sym (append_assoc (text_line n y) (text_lines (n + 1) xs) (text_line (suc (length xs) + n) x))

pub trace_push : (n : ℕ) (xs : List (List Event)) (x : List Event) → trace_lines n (xs ++ x ∷ []) ≡ trace_lines n xs ++ event_lines (length xs + n) x
trace_push n [] x = let same : n ≡ 0 + n = omega arith in append-nil (event_lines n x) ∙ ap (λ (k : ℕ). event_lines k x) same
trace_push n (y ∷ xs) x =
    let same : length xs + (n + 1) ≡ suc (length xs) + n = omega arith in
    ap (λ (more : List ℕ). event_lines n y ++ more) (trace_push (n + 1) xs x ∙ ap (λ (k : ℕ). trace_lines (n + 1) xs ++ event_lines k x) same)
    ∙ sym (append_assoc (event_lines n y) (trace_lines (n + 1) xs) (event_lines (suc (length xs) + n) x))

-- EACH STEP WRITES ITS LINE

pub default_writes : (s t : List Origin) (line : List ℕ) → step.default_step s line ≡ Some t → default_lines t ≡ default_lines s ++ line
default_writes s t line =
    step_takes (default_form (words line) >>= if_written default_line line) (λ x. true) (λ x. s ++ x ∷ []) t (λ t. default_lines t ≡ default_lines s ++ line)
    (λ x is. default_push s x ∙ ap (λ (l : List ℕ). default_lines s ++ l) (is_written (default_form (words line)) default_line line x is))

pub request_writes : (s t : List Request) (line : List ℕ) → step.request_step s line ≡ Some t → request_lines 1 t ≡ request_lines 1 s ++ line
request_writes s t line =
    step_takes (request_form (words line) >>= if_written (request_line (length s + 1)) line) (λ x. nat_lt (length s) 2048) (λ x. s ++ x ∷ []) t
    (λ t. request_lines 1 t ≡ request_lines 1 s ++ line)
    (λ x is. request_push 1 s x ∙ ap (λ (l : List ℕ). request_lines 1 s ++ l) (is_written (request_form (words line)) (request_line (length s + 1)) line x is))

pub space_writes : (n : ℕ) (s t : Tables) (line : List ℕ) → (s.terms ≡ []) × (s.texts ≡ []) → step.space_step n s line ≡ Some t
    → ((t.terms ≡ []) × (t.texts ≡ [])) × (space_lines 1 t.spaces ≡ space_lines 1 s.spaces ++ line)
space_writes n s t line none =
    step_takes (space_form (words line) >>= if_written (space_line (length s.spaces + 1)) line) (λ x. step.is_new_space n s x) (λ x. with_space s x) t
    (λ t. ((t.terms ≡ []) × (t.texts ≡ [])) × (space_lines 1 t.spaces ≡ space_lines 1 s.spaces ++ line))
    (λ x is. (none, space_push 1 s.spaces x ∙ ap (λ (l : List ℕ). space_lines 1 s.spaces ++ l) (is_written (space_form (words line)) (space_line (length s.spaces + 1)) line x is)))

abbrev pub two_lines : Tables → List ℕ
two_lines names = space_lines 1 names.spaces ++ terms_lines 1 names.terms

pub terms_writes : (n : ℕ) (s t : Tables) (line : List ℕ) → s.texts ≡ [] → step.terms_step n s line ≡ Some t → (t.texts ≡ []) × (two_lines t ≡ two_lines s ++ line)
terms_writes n s t line none =
    step_takes (terms_form s.spaces (words line) >>= if_written (terms_line (length s.terms + 1)) line) (λ x. step.is_new_terms n s x) (λ x. with_terms s x) t
    (λ t. (t.texts ≡ []) × (two_lines t ≡ two_lines s ++ line))
    (λ x is. (
      none,
      ap (λ (l : List ℕ). space_lines 1 s.spaces ++ l)
          (terms_push 1 s.terms x ∙ ap (λ (l : List ℕ). terms_lines 1 s.terms ++ l) (is_written (terms_form s.spaces (words line)) (terms_line (length s.terms + 1)) line x is))
          ∙ sym (append_assoc (space_lines 1 s.spaces) (terms_lines 1 s.terms) line),
    ))

abbrev pub three_lines : Tables → List ℕ
three_lines names = two_lines names ++ text_lines 1 names.texts

pub text_writes : (n : ℕ) (s t : Tables) (line : List ℕ) → step.text_step n s line ≡ Some t → three_lines t ≡ three_lines s ++ line
text_writes n s t line =
    step_takes (text_form (words line) >>= if_written (text_line (length s.texts + 1)) line) (λ x. nat_lt (length s.texts) (64 * n)) (λ x. with_text s x) t
    (λ t. three_lines t ≡ three_lines s ++ line)
    (λ x is. ap (λ (l : List ℕ). two_lines s ++ l)
    (text_push 1 s.texts x ∙ ap (λ (l : List ℕ). text_lines 1 s.texts ++ l) (is_written (text_form (words line)) (text_line (length s.texts + 1)) line x is))
    ∙ sym (append_assoc (two_lines s) (text_lines 1 s.texts) line))

pub entry_writes : (n : ℕ) (s t : List Entry) (line : List ℕ) → step.entry_step n s line ≡ Some t → entry_lines t ≡ entry_lines s ++ line
entry_writes n s t line =
    step_takes (if_fits (entry_form (words line)) >>= if_written entry_line line) (λ x. step.has_room n s x) (λ x. s ++ x ∷ []) t (λ t. entry_lines t ≡ entry_lines s ++ line)
    (λ x is. entry_push s x ∙ ap (λ (l : List ℕ). entry_lines s ++ l) (is_written (if_fits (entry_form (words line))) entry_line line x is))

pub event_writes : (own : List Entry) (r : ℕ) (s t : List Event) (line : List ℕ) → step.event_step own r s line ≡ Some t → event_lines r t ≡ event_lines r s ++ line
event_writes own r s t line =
    step_takes (event_of (slice_get own (step.calls s)) (words line) >>= if_written (event_line r) line) (λ x. step.may_come own s x) (λ x. s ++ x ∷ []) t
    (λ t. event_lines r t ≡ event_lines r s ++ line)
    (λ x is. event_push r s x ∙ ap (λ (l : List ℕ). event_lines r s ++ l) (is_written (event_of (slice_get own (step.calls s)) (words line)) (event_line r) line x is))
