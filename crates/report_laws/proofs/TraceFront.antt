-- The lines of traces are taken as those traces.
use Rattle.std.proofs.Common.{◌≡◌, ℕ, zero, suc, ◌+◌, ◌^◌, ◌<◌, ◌≤◌, cond, Bool, true, false, List, [], ◌∷◌, ◌++◌, length, drop, map, filter_map, Option, Some, refl, sym, ap, subst, ◌∙◌, arith, append_assoc, append-nil, length-append}
use Rattle.std.specs.Prelude.{slice_get}
use Rattle.std.specs.List.{list_any}
use Rattle.std.proofs.lemmas.Bool.{true≢false, false≢true}
use Rattle.auth_events.specs.declared.journal.Entry.{Entry}
use Rattle.auth_events.specs.declared.journal.Call.{Call}
use Rattle.auth_events.specs.declared.journal.BookReply.{BookReply}
use Rattle.auth_runs.specs.declared.event.Event.{Event}
use Rattle.auth_runs.specs.declared.event.Event.TheVariants.{Called, Dialed, DialFailed, Drew, Headed, WriteFailed, ReadFailed, Replied, Broken, LinkLost, AskedFor, Stepped, Ended}
use Rattle.auth_runs.specs.Runs.{Each, ends, is_whole}
use Rattle.report_lines.specs.EventLines.{event_line}
use Rattle.report_reading.specs.Reading.{event_at, next_call}
use Rattle.auth_report.specs.Sections.{taken}
use Rattle.auth_report.specs.Steps.{event_step, own, calls, is_call, may_come}
use Rattle.auth_report.specs.Reading.{trace_front, traces_front}
use Rattle.auth_report.proofs.Tracing.{none_push, whole_push, not_whole, calls_push, ended_here}
use Rattle.report_laws.specs.Ranges.{EventHolds}
use Rattle.report_laws.specs.Kept.{IsKeptEvent, IsTidyEvent, IsTraceOf, AreTraces, called, said}
use Rattle.report_laws.specs.Lines.{all_events}
use Rattle.report_laws.proofs.EventsAgain.{event_again}
use Rattle.report_laws.proofs.Fronts.{equal_test, taken_more}

-- THE NEXT CALL

abbrev Pair : Type 0
Pair = Call × BookReply

-- the entry whose call and reply stand first of those that are left
record IsNext (entries : List Entry) (n : ℕ) (call : Call) (reply : BookReply) (more : List Pair) : Type 0 where
  entry : Entry
  there : slice_get entries n ≡ Some entry
  same_call : entry.call ≡ call
  same_reply : entry.reply ≡ reply
  within : n < length entries
  later : more ≡ map said (drop (n + 1) entries)

next_is : (entries : List Entry) (n : ℕ) (call : Call) (reply : BookReply) (more : List Pair) → (call, reply) ∷ more ≡ map said (drop n entries) → IsNext entries n call reply more
next_is [] zero call reply more h = absurd (cc h)
next_is [] (suc n) call reply more h = absurd (cc h)
next_is (entry ∷ entries) zero call reply more h =
    let pair : (call, reply) ≡ said entry = cc h in
    record {
      entry = entry;
      there = refl;
      same_call = sym (ap (λ (p : Pair). p.0) pair);
      same_reply = sym (ap (λ (p : Pair). p.1) pair);
      within = omega arith;
      later = cc h;
    }
next_is (entry ∷ entries) (suc n) call reply more h =
    let rest = next_is entries n call reply more h in
    let within = rest.within in
    let next : suc n + 1 ≡ suc (n + 1) = omega arith in
    record {
      entry = rest.entry;
      there = rest.there;
      same_call = rest.same_call;
      same_reply = rest.same_reply;
      within = omega (arith, within);
      later = rest.later ∙ ap (λ (k : ℕ). map said (drop k (entry ∷ entries))) (sym next);
    }

none_left : (entries : List Entry) (n : ℕ) → [] ≡ map said (drop n entries) → n ≤ length entries → n ≡ length entries
none_left [] zero h few = refl
none_left [] (suc n) h few = absurd (omega (arith, few))
none_left (entry ∷ entries) zero h few = absurd (cc h)
none_left (entry ∷ entries) (suc n) h few = let rest = none_left entries n h (omega (arith, few)) in omega (arith, rest)

-- ONE EVENT

-- what is known before an event, where these are left
record IsOpen (entries : List Entry) (front : List Event) (left : List Event) : Type 0 where
  none : list_any ends front ≡ false
  calls_left : filter_map called left ≡ map said (drop (calls front) entries)
  few : calls front ≤ length entries

kept_call : (next : Option Entry) (entry : Entry) (call : Call) (reply : BookReply) → next ≡ Some entry → entry.call ≡ call → entry.reply ≡ reply
    → next_call next ≡ Some (Called call reply)
kept_call next entry call reply is c r = rw (is, c, r) refl

-- an event that is no call leaves the calls as they are
same_left : (entries : List Entry) (front : List Event) (event : Event) (left : List Event) → IsOpen entries front (event ∷ left) → is_call event ≡ false → ends event ≡ false
    → filter_map called (event ∷ left) ≡ filter_map called left → IsOpen entries (front ++ event ∷ []) left
same_left entries front event left h quiet last same =
    let count : calls (front ++ event ∷ []) ≡ calls front = calls_push front event ∙ rw quiet (omega arith) in
    let few = h.few in
    record {
      none = none_push front event h.none last;
      calls_left = sym same ∙ h.calls_left ∙ ap (λ (n : ℕ). map said (drop n entries)) (sym count);
      few = omega (arith, count, few);
    }

record IsReady (entries : List Entry) (front : List Event) (event : Event) (left : List Event) : Type 0 where
  kept : IsKeptEvent (slice_get entries (calls front)) event
  after : IsOpen entries (front ++ event ∷ []) left

call_ready : (entries : List Entry) (front : List Event) (call : Call) (reply : BookReply) (left : List Event) → IsOpen entries front (Called call reply ∷ left)
    → IsReady entries front (Called call reply) left
call_ready entries front call reply left h =
    let next = next_is entries (calls front) call reply (filter_map called left) h.calls_left in
    let count : calls (front ++ Called call reply ∷ []) ≡ calls front + 1 = calls_push front (Called call reply) in
    let within = next.within in
    record {
      kept = kept_call (slice_get entries (calls front)) next.entry call reply next.there next.same_call next.same_reply;
      after = record {
        none = none_push front (Called call reply) h.none refl;
        calls_left = next.later ∙ ap (λ (n : ℕ). map said (drop n entries)) (sym count);
        few = omega (arith, count, within);
      };
    }

ready : (entries : List Entry) (front : List Event) (event : Event) (left : List Event) → IsOpen entries front (event ∷ left) → ends event ≡ false → IsTidyEvent event
    → IsReady entries front event left
ready entries front (Called call reply) left h last t = call_ready entries front call reply left h
ready entries front (Dialed link) left h last t = record { kept = tt; after = same_left entries front (Dialed link) left h refl refl refl }
ready entries front (DialFailed link count) left h last t = record { kept = tt; after = same_left entries front (DialFailed link count) left h refl refl refl }
ready entries front (Drew target nonce count epoch) left h last t = record { kept = tt; after = same_left entries front (Drew target nonce count epoch) left h refl refl refl }
ready entries front (Headed link bytes) left h last t = record { kept = tt; after = same_left entries front (Headed link bytes) left h refl refl refl }
ready entries front (WriteFailed link count) left h last t = record { kept = tt; after = same_left entries front (WriteFailed link count) left h refl refl refl }
ready entries front (ReadFailed link count) left h last t = record { kept = tt; after = same_left entries front (ReadFailed link count) left h refl refl refl }
ready entries front (Replied link reply) left h last t = record { kept = t; after = same_left entries front (Replied link reply) left h refl refl refl }
ready entries front (Broken link fault) left h last t = record { kept = tt; after = same_left entries front (Broken link fault) left h refl refl refl }
ready entries front (LinkLost link) left h last t = record { kept = tt; after = same_left entries front (LinkLost link) left h refl refl refl }
ready entries front (AskedFor prompt seen) left h last t = record { kept = tt; after = same_left entries front (AskedFor prompt seen) left h refl refl refl }
ready entries front (Stepped target step) left h last t = record { kept = tt; after = same_left entries front (Stepped target step) left h refl refl refl }
ready entries front (Ended outcome) left h last t = absurd (true≢false last)

step_is : (entries : List Entry) (r : ℕ) (front : List Event) (event : Event) → event_at (slice_get entries (calls front)) r (event_line r event) ≡ Some event
    → may_come entries front event ≡ true → event_step entries r front (event_line r event) ≡ Some (front ++ event ∷ [])
step_is entries r front event at may = rw (at, may) refl

-- the last event
last_step : (entries : List Entry) (r : ℕ) (front : List Event) (event : Event) → r < 2 ^ 32 → EventHolds event → IsOpen entries front (event ∷ []) → ends event ≡ true
    → event_step entries r front (event_line r event) ≡ Some (front ++ event ∷ [])
last_step entries r front (Ended outcome) small holds h last =
    let all : calls front ≡ length entries = none_left entries (calls front) h.calls_left h.few in
    step_is entries r front (Ended outcome) (event_again (slice_get entries (calls front)) r (Ended outcome) small holds tt)
    (rw (not_whole front h.none, equal_test (calls front) (length entries) all) refl)
last_step entries r front (Called call reply) small holds h last = absurd (false≢true last)
last_step entries r front (Dialed link) small holds h last = absurd (false≢true last)
last_step entries r front (DialFailed link count) small holds h last = absurd (false≢true last)
last_step entries r front (Drew target nonce count epoch) small holds h last = absurd (false≢true last)
last_step entries r front (Headed link bytes) small holds h last = absurd (false≢true last)
last_step entries r front (WriteFailed link count) small holds h last = absurd (false≢true last)
last_step entries r front (ReadFailed link count) small holds h last = absurd (false≢true last)
last_step entries r front (Replied link reply) small holds h last = absurd (false≢true last)
last_step entries r front (Broken link fault) small holds h last = absurd (false≢true last)
last_step entries r front (LinkLost link) small holds h last = absurd (false≢true last)
last_step entries r front (AskedFor prompt seen) small holds h last = absurd (false≢true last)
last_step entries r front (Stepped target step) small holds h last = absurd (false≢true last)

-- an event before the last one
next_step : (entries : List Entry) (r : ℕ) (front : List Event) (event : Event) (left : List Event) → r < 2 ^ 32 → EventHolds event → IsReady entries front event left
    → list_any ends front ≡ false → ends event ≡ false → event_step entries r front (event_line r event) ≡ Some (front ++ event ∷ [])
next_step entries r front event left small holds h none last =
    step_is entries r front event (event_again (slice_get entries (calls front)) r event small holds h.kept) (rw (not_whole front none, last) refl)

-- ONE TRACE

by_end : (e : Bool) (rest : Bool) → cond e false rest ≡ true → (e ≡ false) × (rest ≡ true)
by_end true rest h = absurd (false≢true h)
by_end false rest h = (refl, h)

trace_taken : (entries : List Entry) (r : ℕ) (front left : List Event) (more : List (List ℕ)) → r < 2 ^ 32 → is_whole left ≡ true → Each EventHolds left → Each IsTidyEvent left
    → IsOpen entries front left → taken (event_step entries r) front (map (event_line r) left ++ more) ≡ (front ++ left, more)
trace_taken entries r front [] more small whole holds tidy h = absurd (false≢true whole)
trace_taken entries r front (event ∷ []) more small whole holds tidy h =
    ended_here entries r front event (event_line r event) more (last_step entries r front event small holds.0 h whole) (whole_push front event h.none ∙ whole)
trace_taken entries r front (event ∷ next ∷ left) more small whole holds tidy h =
    let parts = by_end (ends event) (is_whole (next ∷ left)) whole in
    let at = ready entries front event (next ∷ left) h parts.0 tidy.0 in
    taken_more (event_step entries r) front (front ++ event ∷ []) (event_line r event) (map (event_line r) (next ∷ left) ++ more)
    (next_step entries r front event (next ∷ left) small holds.0 at h.none parts.0)
    ∙ trace_taken entries r (front ++ event ∷ []) (next ∷ left) more small parts.1 holds.1 tidy.1 at.after
    ∙ ap (λ (all : List Event). (all, more)) (append_assoc front (event ∷ []) (next ∷ left))

trace_again : (journal : List Entry) (r : ℕ) (events : List Event) (more : List (List ℕ)) → r < 2 ^ 32 → Each EventHolds events → IsTraceOf journal r events
    → trace_front journal r (map (event_line r) events ++ more) ≡ (events, more)
trace_again journal r events more small holds is =
    trace_taken (own journal r) r [] events more small is.whole holds is.tidy (record { none = refl; calls_left = is.calls; few = omega arith })

-- ALL TRACES

abbrev if_whole : List Entry → ℕ → List (List Event) → List Event × List (List ℕ) → List (List Event) × List (List ℕ)
if_whole journal k done got = cond (is_whole got.0) (traces_front journal k (done ++ got.0 ∷ []) got.1) (done, got.1)

pub traces_again : (journal : List Entry) (done traces : List (List Event)) (more : List (List ℕ)) → length done + length traces ≤ 2048
    → Each (λ events. Each EventHolds events) traces → AreTraces journal (length done + 1) traces
    → traces_front journal (length traces) done (all_events (length done + 1) traces ++ more) ≡ (done ++ traces, more)
traces_again journal done [] more few holds are = rw (append-nil done) refl
traces_again journal done (events ∷ traces) more few holds are =
    let r : ℕ = length done + 1 in
    let rest : List (List ℕ) = all_events (r + 1) traces ++ more in
    let next : length done + 1 + 1 ≡ length (done ++ events ∷ []) + 1 = omega (arith, length-append done (events ∷ [])) in
    let fewer : length (done ++ events ∷ []) + length traces ≤ 2048 = omega (arith, few, length-append done (events ∷ [])) in
    let first : trace_front journal r ((map (event_line r) events ++ all_events (r + 1) traces) ++ more) ≡ (events, rest) =
    ap (λ (ls : List (List ℕ)). trace_front journal r ls) (append_assoc (map (event_line r) events) (all_events (r + 1) traces) more)
    ∙ trace_again journal r events rest (omega (arith, few)) holds.0 are.0 in
    let here : if_whole journal (length traces) done (events, rest) ≡ traces_front journal (length traces) (done ++ events ∷ []) rest = rw are.0.whole refl in
    ap (if_whole journal (length traces) done) first
    ∙ here
    ∙ ap (λ (n : ℕ). traces_front journal (length traces) (done ++ events ∷ []) (all_events n traces ++ more)) next
    ∙ traces_again journal (done ++ events ∷ []) traces more fewer holds.1 (subst (λ (n : ℕ). AreTraces journal n traces) next are.1)
    ∙ ap (λ (all : List (List Event)). (all, more)) (append_assoc done (events ∷ []) traces)
