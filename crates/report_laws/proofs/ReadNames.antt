-- What a run that was read keeps of its names.
use Rattle.std.proofs.Common.{◌≡◌, ℕ, ◌+◌, ◌*◌, ◌<◌, ◌≤◌, ◌==◌, ◌&&◌, cond, Bool, true, false, List, [], ◌∷◌, ◌++◌, length, Option, Some, None, Ok, refl, sym, subst, ◌∙◌, arith, length-append}
use Rattle.std.specs.Prelude.{nat_le, nat_lt, bytes_eq, is_none}
use Rattle.std.specs.List.{cons_option}
use Rattle.std.proofs.lemmas.Bool.{false≢true}
use Rattle.std.proofs.lemmas.Bool.Decides.{nat_tests}
use Rattle.spaces.specs.declared.site.Site.{Site}
use Rattle.spaces.specs.ProtectionSpaces.{ProtectionSpace, has_realm}
use Rattle.auth_events.specs.declared.names.NonceName.{NonceName}
use Rattle.auth_events.specs.Tables.{Tables, AreNames, AreFew, no_names, space_number, terms_number, nonce_for, nonce_named, is_home, with_space, with_terms, with_text}
use Rattle.auth_events.proofs.Naming.{AreNames-none, AreNames-space, AreNames-terms, AreNames-text}
use Rattle.report_lines.specs.NameLines.{space_line}
use Rattle.report_reading.specs.Words.{◌>>=◌, words, word_at, scheme_of}
use Rattle.report_reading.specs.Forms.{space_form, site_form, with_realm}
use Rattle.report_reading.specs.Reading.{if_written, space_at, terms_at, text_at}
use Rattle.session_text.specs.Words.{word_value}
use Rattle.report_reading.proofs.Tests.{both}
use Rattle.auth_report.specs.Sections.{taken}
use Rattle.auth_report.specs.Steps.{space_step, terms_step, text_step, is_new_space, is_new_terms}
use Rattle.auth_runs.specs.Runs.{Run}
use Rattle.report_reading.specs.Cuts.{lines}
use Rattle.auth_report.specs.Reading.{names_front, roster_front, body_front, whole, report}
use Rattle.report_laws.specs.Read.{HasNames}
use Rattle.report_laws.proofs.Fronts.{le_by}
use Rattle.report_laws.proofs.ReadRuns.{lt_by, equal_by, taken_keeps, step_takes, whole_ok, with_ok}

abbrev AreKept : ℕ → Tables → Type 0
AreKept n names = AreNames names × AreFew n names

none_by : {A : Type 0} (o : Option A) → is_none o ≡ true → o ≡ None
none_by None h = refl
none_by (Some x) h = absurd (false≢true h)

-- SPACES

pub made_by : {A : Type 0} (made : Option A) (written : A → List ℕ) (line : List ℕ) (x : A) → (made >>= if_written written line) ≡ Some x → made ≡ Some x
made_by None written line x h = absurd (cc h)
made_by (Some made) written line x h = by_test (bytes_eq (written made) line) refl where
  by_test : (same : Bool) → bytes_eq (written made) line ≡ same → Some made ≡ Some x
  by_test true e = let is : if_written written line made ≡ Some made = rw e refl in sym is ∙ h
  by_test false e = let none : if_written written line made ≡ None = rw e refl in absurd (cc (sym none ∙ h))

realm_fits : (site : Site) (scheme realm : List ℕ) (x : ProtectionSpace) → with_realm site scheme realm ≡ Some x → has_realm x.scheme x.realm ≡ true
realm_fits site scheme realm x h = by_test (has_realm (scheme_of scheme) realm) refl where
  by_test : (fit : Bool) → has_realm (scheme_of scheme) realm ≡ fit → has_realm x.scheme x.realm ≡ true
  by_test true e =
      let is : with_realm site scheme realm ≡ Some (record { site = site; scheme = scheme_of scheme; realm = realm }) = rw e refl in
      let it : record { site = site; scheme = scheme_of scheme; realm = realm } ≡ x = cc (sym is ∙ h) in
      subst (λ (y : ProtectionSpace). has_realm y.scheme y.realm ≡ true) it e
  by_test false e = let none : with_realm site scheme realm ≡ None = rw e refl in absurd (cc (sym none ∙ h))

by_site : (o : Option Site) (scheme realm : List ℕ) (x : ProtectionSpace) → (o >>= λ site. with_realm site scheme realm) ≡ Some x → has_realm x.scheme x.realm ≡ true
by_site None scheme realm x h = absurd (cc h)
by_site (Some site) scheme realm x h = realm_fits site scheme realm x h

space_fits : (k : ℕ) (line : List ℕ) (x : ProtectionSpace) → space_at k line ≡ Some x → has_realm x.scheme x.realm ≡ true
space_fits k line x h =
    let ws = words line in
    by_site (site_form (word_at ws 2) (word_at ws 3) (word_at ws 4)) (word_at ws 5) (word_value (word_at ws 6)) x
    (made_by (space_form ws) (space_line k) line x h)

space_kept : (n : ℕ) (s t : Tables) (line : List ℕ) → AreKept n s → space_step n s line ≡ Some t → AreKept n t
space_kept n s t line kept =
    step_takes (space_at (length s.spaces + 1) line) (is_new_space n s) (with_space s) t (AreKept n)
    (λ x is new.
    let parts = both (nat_lt (length s.spaces) (64 * n)) (is_none (space_number s x)) new in
    let room = lt_by (length s.spaces) (64 * n) parts.0 in
    let few = kept.1 in (
      AreNames-space s x kept.0 (space_fits (length s.spaces + 1) line x is) (none_by (space_number s x) parts.1),
      record { spaces = omega (arith, room, length-append s.spaces (x ∷ [])); terms = few.terms; nonces = few.nonces; texts = few.texts },
    ))

-- TERMS

not_le : (a b : ℕ) → nat_le a b ≡ false → b < a
not_le a b h = grind (arith, nat_tests)

length_one : (o : Option NonceName) → length (cons_option o []) ≤ 1
length_one None = omega arith
length_one (Some x) = omega arith

nonces_few : (nonces : List NonceName) (o : Option NonceName) (k limit : ℕ) → length nonces ≤ limit → k ≤ limit
    → length (cond (nat_le k (length nonces)) nonces (nonces ++ cons_option o [])) ≤ limit
nonces_few nonces o k limit few inside = by_test (nat_le k (length nonces)) refl where
  by_test : (t : Bool) → nat_le k (length nonces) ≡ t → length (cond t nonces (nonces ++ cons_option o [])) ≤ limit
  by_test true e = few
  by_test false e =
      let more = not_le k (length nonces) e in
      let one = length_one o in
      omega (arith, more, one, inside, length-append nonces (cons_option o []))

terms_kept : (n : ℕ) (s t : Tables) (line : List ℕ) → AreKept n s → terms_step n s line ≡ Some t → AreKept n t
terms_kept n s t line kept =
    step_takes (terms_at (length s.terms + 1) s.spaces line) (is_new_terms n s) (with_terms s) t (AreKept n)
    (λ x is new.
    let room_home_none_number = both (nat_lt (length s.terms) (64 * n) && is_home s x.space x.terms && is_none (terms_number s x.space x.terms) && x.nonce == nonce_for s x.space x.terms) (nat_le x.nonce (16 * n)) new in
    let room_home_none = both (nat_lt (length s.terms) (64 * n) && is_home s x.space x.terms && is_none (terms_number s x.space x.terms)) (x.nonce == nonce_for s x.space x.terms) room_home_none_number.0 in
    let room_home = both (nat_lt (length s.terms) (64 * n) && is_home s x.space x.terms) (is_none (terms_number s x.space x.terms)) room_home_none.0 in
    let first = both (nat_lt (length s.terms) (64 * n)) (is_home s x.space x.terms) room_home.0 in
    let room = lt_by (length s.terms) (64 * n) first.0 in
    let limit = le_by x.nonce (16 * n) room_home_none_number.1 in
    let number = equal_by x.nonce (nonce_for s x.space x.terms) room_home_none.1 in
    let few = kept.1 in (
      AreNames-terms s x kept.0 first.1 (none_by (terms_number s x.space x.terms) room_home.1) number,
      record {
        spaces = few.spaces;
        terms = omega (arith, room, length-append s.terms (x ∷ []));
        nonces = nonces_few s.nonces (nonce_named s x) x.nonce (16 * n) few.nonces limit;
        texts = few.texts;
      },
    ))

-- TEXTS

text_kept : (n : ℕ) (s t : Tables) (line : List ℕ) → AreKept n s → text_step n s line ≡ Some t → AreKept n t
text_kept n s t line kept =
    step_takes (text_at (length s.texts + 1) line) (λ x. nat_lt (length s.texts) (64 * n)) (with_text s) t (AreKept n)
    (λ x is less.
    let room = lt_by (length s.texts) (64 * n) less in
    let few = kept.1 in (
      AreNames-text s x kept.0,
      record { spaces = few.spaces; terms = few.terms; nonces = few.nonces; texts = omega (arith, room, length-append s.texts (x ∷ [])) },
    ))

none_kept : (n : ℕ) → AreKept n no_names
none_kept n = (AreNames-none, record { spaces = omega arith; terms = omega arith; nonces = omega arith; texts = omega arith })

pub names_kept : (n : ℕ) (all : List (List ℕ)) → AreNames (names_front n all).0 × AreFew n (names_front n all).0
names_kept n all =
    let spaces = taken (space_step n) no_names all in
    let terms = taken (terms_step n) spaces.0 spaces.1 in
    taken_keeps (text_step n) (AreKept n) (λ s t line h k. text_kept n s t line h k) terms.0 terms.1
    (taken_keeps (terms_step n) (AreKept n) (λ s t line h k. terms_kept n s t line h k) spaces.0 spaces.1
    (taken_keeps (space_step n) (AreKept n) (λ s t line h k. space_kept n s t line h k) no_names all (none_kept n)))

-- THE WHOLE

pub read_names : (bytes : List ℕ) (run : Run) → report bytes ≡ Ok run → HasNames run
read_names bytes run h =
    let from = whole_ok (lines bytes) run (with_ok (length (lines bytes)) (whole (lines bytes)) run h) in
    let roster = roster_front from.all in
    let kept = names_kept (length roster.0.requests) roster.1 in
    let here : HasNames (body_front from.seed from.all).0 = record { names = kept.0; few_names = kept.1 } in
    subst HasNames from.is here
