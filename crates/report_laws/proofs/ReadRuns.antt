-- What a run that was read keeps of its requests, its journal and the count of its traces.
use Rattle.std.proofs.Common.{◌≡◌, ℕ, ◌+◌, ◌<◌, ◌≤◌, ◌==◌, ◌&&◌, Bool, true, false, List, [], ◌∷◌, ◌++◌, length, codes, Option, Some, None, Result, Ok, Err, refl, sym, ap, subst, ◌∙◌, arith, length-append}
use Rattle.std.specs.Prelude.{nat_le, nat_lt, bytes_eq}
use Rattle.std.proofs.lemmas.Bool.Decides.{nat_tests}
use Rattle.spaces.specs.declared.roster.Request.{Request}
use Rattle.auth_events.specs.Pages.{IsWithinRoom, HasRoomFor, count_of, fits}
use Rattle.auth_events.proofs.RoomLemmas.{IsWithinRoom-push}
use Rattle.auth_events.specs.declared.journal.Entry.{Entry}
use Rattle.auth_runs.specs.Runs.{Run}
use Rattle.report_lines.specs.EntryLines.{entry_line}
use Rattle.report_reading.specs.Cuts.{lines}
use Rattle.report_reading.specs.Words.{◌>>=◌, words}
use Rattle.report_reading.specs.EntryForms.{entry_form}
use Rattle.report_reading.specs.Reading.{if_written, if_fits, entry_at, request_at, seed_at}
use Rattle.report_reading.proofs.Tests.{both}
use Rattle.auth_report.specs.Sections.{taken}
use Rattle.auth_report.specs.Steps.{default_step, request_step, entry_step, has_room, if_so}
use Rattle.auth_report.specs.Reading.{roster_front, names_front, journal_front, body_front, last_line, end_line, ended, if_seed, from_seed, whole, with_number, report}
use Rattle.report_laws.specs.Read.{HasRoom}
use Rattle.report_laws.proofs.Fronts.{le_by}

pub lt_by : (a b : ℕ) → nat_lt a b ≡ true → a < b
lt_by a b h = grind (arith, nat_tests)

pub equal_by : (a b : ℕ) → (a == b) ≡ true → a ≡ b
equal_by a b h = grind (arith, nat_tests)

-- what each step keeps, a section keeps
pub taken_keeps : {S : Type 0} (step : S → List ℕ → Option S) (P : S → Type 0) → ((s t : S) (line : List ℕ) → P s → step s line ≡ Some t → P t)
    → (s : S) (all : List (List ℕ)) → P s → P (taken step s all).0
taken_keeps step P one s [] h = h
taken_keeps step P one s (line ∷ all) h = by_step step P one s line all (step s line) refl h (λ next k. taken_keeps step P one next all k) where
  by_step : {S : Type 0} (step : S → List ℕ → Option S) (P : S → Type 0) → ((s t : S) (line : List ℕ) → P s → step s line ≡ Some t → P t)
      → (s : S) (line : List ℕ) (all : List (List ℕ)) (o : Option S) → step s line ≡ o → P s → ((next : S) → P next → P (taken step next all).0)
      → P (taken step s (line ∷ all)).0
  by_step step P one s line all None e h later = rw e h
  by_step step P one s line all (Some next) e h later = rw e (later next (one s next line h e))

if_so_takes : {S : Type 0} (test : Bool) (next t : S) → if_so test next ≡ Some t → (test ≡ true) × (next ≡ t)
if_so_takes true next t h = (refl, cc h)
if_so_takes false next t h = absurd (cc h)

pub step_takes : {A S : Type 0} (made : Option A) (test : A → Bool) (add : A → S) (t : S) (P : S → Type 0)
    → ((thing : A) → made ≡ Some thing → test thing ≡ true → P (add thing)) → (made >>= λ thing. if_so (test thing) (add thing)) ≡ Some t → P t
step_takes None test add t P holds h = absurd (cc h)
step_takes (Some thing) test add t P holds h =
    let parts = if_so_takes (test thing) (add thing) t h in subst P parts.1 (holds thing refl parts.0)

-- REQUESTS

few_requests : (all : List (List ℕ)) → length (taken request_step [] all).0 ≤ 2048
few_requests all = taken_keeps request_step (λ requests. length requests ≤ 2048) one [] all (omega arith) where
  one : (s t : List Request) (line : List ℕ) → length s ≤ 2048 → request_step s line ≡ Some t → length t ≤ 2048
  one s t line few =
      step_takes (request_at (length s + 1) line) (λ x. nat_lt (length s) 2048) (λ x. s ++ x ∷ []) t (λ t. length t ≤ 2048)
      (λ x is less. let room = lt_by (length s) 2048 less in omega (arith, room, length-append s (x ∷ [])))

-- THE JOURNAL

fits_read : (e x : Entry) (line : List ℕ) → (if_fits e >>= if_written entry_line line) ≡ Some x → fits x.call x.reply ≡ true
fits_read e x line h = by_fit (fits e.call e.reply) refl h where
  by_written : (same : Bool) → bytes_eq (entry_line e) line ≡ same → fits e.call e.reply ≡ true → if_written entry_line line e ≡ Some x → fits x.call x.reply ≡ true
  by_written true is fit h =
      let it : e ≡ x = let made : if_written entry_line line e ≡ Some e = rw is refl in cc (sym made ∙ h) in
      subst (λ (y : Entry). fits y.call y.reply ≡ true) it fit
  by_written false is fit h = let none : if_written entry_line line e ≡ None = rw is refl in absurd (cc (sym none ∙ h))

  by_fit : (fit : Bool) → fits e.call e.reply ≡ fit → (if_fits e >>= if_written entry_line line) ≡ Some x → fits x.call x.reply ≡ true
  by_fit true is h =
      let made : (if_fits e >>= if_written entry_line line) ≡ if_written entry_line line e = rw is refl in
      by_written (bytes_eq (entry_line e) line) refl is (sym made ∙ h)
  by_fit false is h = let none : (if_fits e >>= if_written entry_line line) ≡ None = rw is refl in absurd (cc (sym none ∙ h))

has_room_for : (n : ℕ) (s : List Entry) (x : Entry) → fits x.call x.reply ≡ true → has_room n s x ≡ true → HasRoomFor (record { requests = n; entries = s }) x
has_room_for n s x fit room =
    let parts = both (nat_le 1 x.request && nat_le x.request n) (nat_lt (count_of x.request s) 64) room in
    let range = both (nat_le 1 x.request) (nat_le x.request n) parts.0 in
    record {
      page = record { from_one = le_by 1 x.request range.0; in_roster = le_by x.request n range.1; fit = fit };
      fewer = lt_by (count_of x.request s) 64 parts.1;
    }

no_pages : (n : ℕ) → IsWithinRoom n []
no_pages n = record { pages = λ k d less. absurd (omega (arith, less)); few = λ r. omega arith }

within_room : (n : ℕ) (all : List (List ℕ)) → IsWithinRoom n (journal_front n all).0
within_room n all = taken_keeps (entry_step n) (λ entries. IsWithinRoom n entries) one [] all (no_pages n) where
  one : (s t : List Entry) (line : List ℕ) → IsWithinRoom n s → entry_step n s line ≡ Some t → IsWithinRoom n t
  one s t line h =
      step_takes (entry_at line) (λ x. has_room n s x) (λ x. s ++ x ∷ []) t (λ t. IsWithinRoom n t)
      (λ x is room. IsWithinRoom-push n s x h (has_room_for n s x (fits_read (entry_form (words line)) x line is) room))

-- THE WHOLE

abbrev pub Left : Type 0
Left = List (List ℕ)

-- the run was made of these lines
pub record IsReadFrom (run : Run) : Type 0 where
  pub seed : List ℕ
  pub all : Left
  pub is : (body_front seed all).0 ≡ run
  pub traced : length (body_front seed all).0.traces ≡ length (body_front seed all).0.roster.requests

last_ok : (got run : Run) (left : Left) → last_line got left ≡ Ok run → got ≡ run
last_ok got run [] h = cc h
last_ok got run (line ∷ left) h = absurd (cc h)

end_ok : (got run : Run) (left : Left) → end_line got left ≡ Ok run → got ≡ run
end_ok got run [] h = absurd (cc h)
end_ok got run (line ∷ left) h = by_test (bytes_eq line (codes "end\n")) refl where
  by_test : (same : Bool) → bytes_eq line (codes "end\n") ≡ same → got ≡ run
  by_test true e = let is : end_line got (line ∷ left) ≡ last_line got left = rw e refl in last_ok got run left (sym is ∙ h)
  by_test false e = let is : end_line got (line ∷ left) ≡ Err (line ∷ left) = rw e refl in absurd (cc (sym is ∙ h))

body_ok : (seed : List ℕ) (all : Left) (got : Run × Left) (run : Run) → body_front seed all ≡ got → ended got ≡ Ok run → IsReadFrom run
body_ok seed all got run made h = by_count (length got.0.traces == length got.0.roster.requests) refl where
  by_count : (same : Bool) → (length got.0.traces == length got.0.roster.requests) ≡ same → IsReadFrom run
  by_count true e =
      let is : ended got ≡ end_line got.0 got.1 = rw e refl in
      let count = equal_by (length got.0.traces) (length got.0.roster.requests) e in
      record {
        seed = seed;
        all = all;
        is = ap (λ (g : Run × Left). g.0) made ∙ end_ok got.0 run got.1 (sym is ∙ h);
        traced = subst (λ (g : Run × Left). length g.0.traces ≡ length g.0.roster.requests) (sym made) count;
      }
  by_count false e = let is : ended got ≡ Err got.1 = rw e refl in absurd (cc (sym is ∙ h))

seed_ok : (all : Left) (run : Run) → from_seed all ≡ Ok run → IsReadFrom run
seed_ok [] run h = absurd (cc h)
seed_ok (line ∷ all) run h = by_seed (seed_at line) h where
  by_seed : (o : Option (List ℕ)) → if_seed (line ∷ all) all o ≡ Ok run → IsReadFrom run
  by_seed None h = absurd (cc h)
  by_seed (Some seed) h = body_ok seed all (body_front seed all) run refl h

pub whole_ok : (all : Left) (run : Run) → whole all ≡ Ok run → IsReadFrom run
whole_ok [] run h = absurd (cc h)
whole_ok (line ∷ all) run h = by_test (bytes_eq line (codes "authreport 1\n")) refl where
  by_test : (same : Bool) → bytes_eq line (codes "authreport 1\n") ≡ same → IsReadFrom run
  by_test true e = let is : whole (line ∷ all) ≡ from_seed all = rw e refl in seed_ok all run (sym is ∙ h)
  by_test false e = let is : whole (line ∷ all) ≡ Err (line ∷ all) = rw e refl in absurd (cc (sym is ∙ h))

pub with_ok : (n : ℕ) (r : Result Run Left) (run : Run) → with_number n r ≡ Ok run → r ≡ Ok run
with_ok n (Ok got) run h = let same : got ≡ run = cc h in ap Ok same
with_ok n (Err left) run h = absurd (cc h)

body_room : (seed : List ℕ) (all : Left) → length (body_front seed all).0.traces ≡ length (body_front seed all).0.roster.requests → HasRoom (body_front seed all).0
body_room seed all traced =
    let roster = roster_front all in
    let n : ℕ = length roster.0.requests in
    let names = names_front n roster.1 in
    record {
      few = few_requests (taken default_step [] all).1;
      journal = within_room n names.1;
      all_traced = traced;
    }

pub read_room : (bytes : List ℕ) (run : Run) → report bytes ≡ Ok run → HasRoom run
read_room bytes run h =
    let from = whole_ok (lines bytes) run (with_ok (length (lines bytes)) (whole (lines bytes)) run h) in
    subst HasRoom from.is (body_room from.seed from.all from.traced)
