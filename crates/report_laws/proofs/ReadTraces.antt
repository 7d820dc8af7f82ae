-- What a run that was read keeps of its traces.
use Rattle.std.proofs.Common.{◌≡◌, ℕ, zero, suc, ◌+◌, ◌≤◌, ◌==◌, ◌&&◌, ◌||◌, not, cond, Bool, true, false, List, [], ◌∷◌, ◌++◌, length, take, map, filter_map, codes, Option, Some, None, Ok, refl, sym, ap, subst, ◌∙◌, arith, append-nil}
use Rattle.std.specs.Prelude.{slice_get, bytes_eq}
use Rattle.std.proofs.lemmas.Bool.{true≢false, false≢true}
use Rattle.std.proofs.lemmas.List.{map-append, take_all}
use Rattle.std.proofs.lemmas.List.Elements.{filter_map-append}
use Rattle.std.proofs.lemmas.Option.{slice_get_within}
use Rattle.auth_events.specs.declared.journal.Entry.{Entry}
use Rattle.auth_runs.specs.declared.event.Event.{Event}
use Rattle.auth_runs.specs.declared.event.Event.TheVariants.{Called, Dialed, DialFailed, Drew, Headed, WriteFailed, ReadFailed, Replied, Broken, LinkLost, AskedFor, Stepped, Ended}
use Rattle.auth_runs.specs.Runs.{Run, Each, ends, is_whole}
use Rattle.report_lines.specs.EventLines.{event_line}
use Rattle.report_reading.specs.Cuts.{lines}
use Rattle.report_reading.specs.Words.{words, word_at, target_of}
use Rattle.report_reading.specs.EventForms.{event_form, wire_reply_of, fault_of, asked_of, step_of, outcome_of}
use Rattle.report_reading.specs.EntryForms.{small_at, count_at}
use Rattle.session_text.specs.Words.{word_value}
use Rattle.report_reading.specs.Reading.{next_call, event_of, event_at}
use Rattle.auth_report.specs.Steps.{event_step, own, calls, is_call, may_come}
use Rattle.auth_report.specs.Reading.{trace_front, traces_front, if_ended, roster_front, names_front, journal_front, body_front, whole, report}
use Rattle.auth_report.proofs.Tracing.{calls_push}
use Rattle.report_laws.specs.Kept.{IsTidy, IsTidyEvent, IsTraceOf, AreTraces, called, said}
use Rattle.report_laws.specs.Read.{HasTraces}
use Rattle.report_laws.proofs.TermsFront.{take_next}
use Rattle.report_laws.proofs.ReadRuns.{equal_by, taken_keeps, step_takes, whole_ok, with_ok}
use Rattle.report_laws.proofs.ReadNames.{made_by}

-- WHAT AN EVENT IS READ AS

-- no call, and tidy
record IsOther (event : Event) : Type 0 where
  quiet : is_call event ≡ false
  tidy : IsTidyEvent event

other_if : (t : Bool) {a b : Event} → IsOther a → IsOther b → IsOther (cond t a b)
other_if true h k = h
other_if false h k = k

tidy_read : (ws : List (List ℕ)) → IsTidy (wire_reply_of ws)
tidy_read ws = record {
  fields = λ e. rw e refl;
  server_info = λ e. rw e refl;
  proxy_info = λ e. rw e refl;
}

plainly : (event : Event) → is_call event ≡ false → IsTidyEvent event → IsOther event
plainly event quiet tidy = record { quiet = quiet; tidy = tidy }

form_other : (ws : List (List ℕ)) → IsOther (event_form ws)
form_other ws =
    other_if (bytes_eq (word_at ws 2) (codes "dial")) (plainly (Dialed (small_at ws 3)) refl tt) (
    other_if (bytes_eq (word_at ws 2) (codes "dialfailed")) (plainly (DialFailed (small_at ws 3) (count_at ws 4)) refl tt) (
    other_if (bytes_eq (word_at ws 2) (codes "draw")) (plainly (Drew (target_of (word_at ws 3)) (small_at ws 4) (small_at ws 5) (small_at ws 6)) refl tt) (
    other_if (bytes_eq (word_at ws 2) (codes "head")) (plainly (Headed (small_at ws 3) (word_value (word_at ws 4))) refl tt) (
    other_if (bytes_eq (word_at ws 2) (codes "writefailed")) (plainly (WriteFailed (small_at ws 3) (count_at ws 4)) refl tt) (
    other_if (bytes_eq (word_at ws 2) (codes "readfailed")) (plainly (ReadFailed (small_at ws 3) (count_at ws 4)) refl tt) (
    other_if (bytes_eq (word_at ws 2) (codes "reply")) (plainly (Replied (small_at ws 3) (wire_reply_of ws)) refl (tidy_read ws)) (
    other_if (bytes_eq (word_at ws 2) (codes "broken")) (plainly (Broken (small_at ws 3) (fault_of (word_at ws 4))) refl tt) (
    other_if (bytes_eq (word_at ws 2) (codes "lost")) (plainly (LinkLost (small_at ws 3)) refl tt) (
    other_if (bytes_eq (word_at ws 2) (codes "ask")) (plainly (AskedFor (small_at ws 3) (asked_of ws)) refl tt) (
    other_if (bytes_eq (word_at ws 2) (codes "step")) (plainly (Stepped (target_of (word_at ws 3)) (step_of ws)) refl tt) (
    plainly (Ended (outcome_of ws)) refl tt)))))))))))

no_called : (event : Event) → is_call event ≡ false → filter_map called (event ∷ []) ≡ []
no_called (Called call reply) h = absurd (true≢false h)
no_called (Dialed link) h = refl
no_called (DialFailed link count) h = refl
no_called (Drew target nonce count epoch) h = refl
no_called (Headed link bytes) h = refl
no_called (WriteFailed link count) h = refl
no_called (ReadFailed link count) h = refl
no_called (Replied link reply) h = refl
no_called (Broken link fault) h = refl
no_called (LinkLost link) h = refl
no_called (AskedFor prompt seen) h = refl
no_called (Stepped target step) h = refl
no_called (Ended outcome) h = refl

ends_quiet : (event : Event) → ends event ≡ true → is_call event ≡ false
ends_quiet (Ended outcome) h = refl
ends_quiet (Called call reply) h = absurd (false≢true h)
ends_quiet (Dialed link) h = refl
ends_quiet (DialFailed link count) h = refl
ends_quiet (Drew target nonce count epoch) h = refl
ends_quiet (Headed link bytes) h = refl
ends_quiet (WriteFailed link count) h = refl
ends_quiet (ReadFailed link count) h = refl
ends_quiet (Replied link reply) h = refl
ends_quiet (Broken link fault) h = refl
ends_quiet (LinkLost link) h = refl
ends_quiet (AskedFor prompt seen) h = refl
ends_quiet (Stepped target step) h = refl

by_end : (e : Bool) (rest : Bool) → cond e false rest ≡ true → rest ≡ true
by_end true rest h = absurd (false≢true h)
by_end false rest h = h

-- a whole trace's last event ends it
last_ends : (s : List Event) (x : Event) → is_whole (s ++ x ∷ []) ≡ true → ends x ≡ true
last_ends [] x h = h
last_ends (d ∷ []) x h = by_end (ends d) (ends x) h
last_ends (d ∷ c ∷ s) x h = last_ends (c ∷ s) x (by_end (ends d) (is_whole ((c ∷ s) ++ x ∷ [])) h)

each_push : {A : Type 0} (P : A → Type 0) (xs : List A) (x : A) → Each P xs → P x → Each P (xs ++ x ∷ [])
each_push P [] x h p = (p, tt)
each_push P (y ∷ xs) x h p = (h.0, each_push P xs x h.1 p)

-- ONE TRACE

record IsTold (entries : List Entry) (events : List Event) : Type 0 where
  calls_are : filter_map called events ≡ map said (take (calls events) entries)
  few : calls events ≤ length entries
  all : is_whole events ≡ true → calls events ≡ length entries
  tidy : Each IsTidyEvent events

-- an event that is no call
other_told : (entries : List Entry) (s : List Event) (x : Event) → IsTold entries s → IsOther x → (ends x ≡ true → calls s ≡ length entries) → IsTold entries (s ++ x ∷ [])
other_told entries s x h other at_end =
    let same : calls (s ++ x ∷ []) ≡ calls s = calls_push s x ∙ rw other.quiet (omega arith) in
    let few = h.few in
    record {
      calls_are =
          filter_map-append called s (x ∷ []) ∙ ap (λ more. filter_map called s ++ more) (no_called x other.quiet) ∙ append-nil (filter_map called s)
          ∙ h.calls_are ∙ ap (λ (n : ℕ). map said (take n entries)) (sym same);
      few = omega (arith, same, few);
      all = λ whole. same ∙ at_end (last_ends s x whole);
      tidy = each_push IsTidyEvent s x h.tidy other.tidy;
    }

-- the next call
call_told : (entries : List Entry) (s : List Event) (e : Entry) → IsTold entries s → slice_get entries (calls s) ≡ Some e → IsTold entries (s ++ Called e.call e.reply ∷ [])
call_told entries s e h there =
    let count : calls (s ++ Called e.call e.reply ∷ []) ≡ calls s + 1 = calls_push s (Called e.call e.reply) in
    let within = slice_get_within entries (calls s) e there in
    record {
      calls_are =
          filter_map-append called s (Called e.call e.reply ∷ []) ∙ ap (λ front. front ++ said e ∷ []) h.calls_are
          ∙ sym (map-append said (take (calls s) entries) (e ∷ [])) ∙ ap (map said) (sym (take_next entries (calls s) e there))
          ∙ ap (λ (n : ℕ). map said (take n entries)) (sym count);
      few = omega (arith, count, within);
      all = λ whole. absurd (false≢true (last_ends s (Called e.call e.reply) whole));
      tidy = each_push IsTidyEvent s (Called e.call e.reply) h.tidy tt;
    }

by_next : (entries : List Entry) (s : List Event) (x : Event) (next : Option Entry) → slice_get entries (calls s) ≡ next → IsTold entries s → next_call next ≡ Some x
    → IsTold entries (s ++ x ∷ [])
by_next entries s x None at h is = absurd (cc is)
by_next entries s x (Some e) at h is =
    let it : Called e.call e.reply ≡ x = cc is in subst (λ (y : Event). IsTold entries (s ++ y ∷ [])) it (call_told entries s e h at)

end_test : (over ended same : Bool) → (not over && (not ended || same)) ≡ true → ended ≡ true → same ≡ true
end_test true ended same h e = absurd (false≢true h)
end_test false true same h e = h
end_test false false same h e = absurd (false≢true e)

event_told : (entries : List Entry) (r : ℕ) (s t : List Event) (line : List ℕ) → IsTold entries s → event_step entries r s line ≡ Some t → IsTold entries t
event_told entries r s t line h =
    step_takes (event_at (slice_get entries (calls s)) r line) (may_come entries s) (λ x. s ++ x ∷ []) t (IsTold entries)
    (λ x is may. by_word x (bytes_eq (word_at (words line) 2) (codes "call")) may
    (made_by (event_of (slice_get entries (calls s)) (words line)) (event_line r) line x is)) where
      by_word : (x : Event) (t : Bool) → may_come entries s x ≡ true → cond t (next_call (slice_get entries (calls s))) (Some (event_form (words line))) ≡ Some x
          → IsTold entries (s ++ x ∷ [])
      by_word x true may is = by_next entries s x (slice_get entries (calls s)) refl h is
      by_word x false may is =
          let it : event_form (words line) ≡ x = cc is in
          other_told entries s x h (subst IsOther it (form_other (words line)))
          (λ e. equal_by (calls s) (length entries) (end_test (is_whole s) (ends x) (calls s == length entries) may e))

trace_told : (journal : List Entry) (r : ℕ) (all : List (List ℕ)) → IsTold (own journal r) (trace_front journal r all).0
trace_told journal r all =
    taken_keeps (event_step (own journal r) r) (IsTold (own journal r)) (λ s t line h k. event_told (own journal r) r s t line h k) [] all
    (record { calls_are = refl; few = omega arith; all = λ e. absurd (false≢true e); tidy = tt })

trace_is : (journal : List Entry) (r : ℕ) (events : List Event) → IsTold (own journal r) events → is_whole events ≡ true → IsTraceOf journal r events
trace_is journal r events h whole =
    let all = h.all whole in
    record {
      whole = whole;
      calls = h.calls_are ∙ ap (map said) (take_all (calls events) (own journal r) (omega (arith, all)));
      tidy = h.tidy;
    }

-- ALL TRACES

traces_push : (journal : List Entry) (r : ℕ) (traces : List (List Event)) (events : List Event) → AreTraces journal r traces → IsTraceOf journal (length traces + r) events
    → AreTraces journal r (traces ++ events ∷ [])
traces_push journal r [] events are is = let same : 0 + r ≡ r = omega arith in (subst (λ (n : ℕ). IsTraceOf journal n events) same is, tt)
traces_push journal r (first ∷ traces) events are is =
    let same : suc (length traces) + r ≡ length traces + (r + 1) = omega arith in
    (are.0, traces_push journal (r + 1) traces events are.1 (subst (λ (n : ℕ). IsTraceOf journal n events) same is))

traces_told : (journal : List Entry) (k : ℕ) (traces : List (List Event)) (all : List (List ℕ)) → AreTraces journal 1 traces → AreTraces journal 1 (traces_front journal k traces all).0
traces_told journal zero traces all are = are
traces_told journal (suc k) traces all are =
    by_end_of (trace_front journal (length traces + 1) all) (trace_told journal (length traces + 1) all) (is_whole (trace_front journal (length traces + 1) all).0) refl
    (λ more left h. traces_told journal k more left h) where
      by_end_of : (got : List Event × List (List ℕ)) → IsTold (own journal (length traces + 1)) got.0 → (over : Bool) → is_whole got.0 ≡ over
          → ((more : List (List Event)) (left : List (List ℕ)) → AreTraces journal 1 more → AreTraces journal 1 (traces_front journal k more left).0)
          → AreTraces journal 1 (if_ended got traces (λ more left. traces_front journal k more left)).0
      by_end_of got told true e later =
          rw e (later (traces ++ got.0 ∷ []) got.1 (traces_push journal 1 traces got.0 are (trace_is journal (length traces + 1) got.0 told e)))
      by_end_of got told false e later = rw e are

-- THE WHOLE

pub read_traces : (bytes : List ℕ) (run : Run) → report bytes ≡ Ok run → HasTraces run
read_traces bytes run h =
    let from = whole_ok (lines bytes) run (with_ok (length (lines bytes)) (whole (lines bytes)) run h) in
    let roster = roster_front from.all in
    let n : ℕ = length roster.0.requests in
    let names = names_front n roster.1 in
    let journal = journal_front n names.1 in
    let here : HasTraces (body_front from.seed from.all).0 = record { traces = traces_told journal.0 n [] journal.1 tt } in
    subst HasTraces from.is here
