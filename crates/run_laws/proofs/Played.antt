-- A run of one caller in which nothing fails, by what its requests' traces are.
use Rattle.std.proofs.Common.{◌≡◌, ℕ, zero, suc, ◌+◌, ◌-◌, ◌≤◌, Bool, true, false, ◌&&◌, ◌||◌, IsTrue, List, [], ◌∷◌, length, reverse, Option, Some, refl, sym, ap, ◌∙◌, subst, arith}
use Rattle.std.specs.Prelude.{not, slice_index_or}
use Rattle.std.specs.List.{flat_map, list_all, list_any, range_with_len}
use Rattle.std.proofs.lemmas.Bool.{false≢true, not-true}
use Rattle.auth_text.specs.Login.{Login}
use Rattle.spaces.specs.declared.roster.Request.{Request}
use Rattle.spaces.specs.declared.roster.Roster.{Roster}
use Rattle.spaces.specs.Sites.{numbered}
use Rattle.link_trait.specs.Links.{Stream}
use Rattle.link_trait.specs.declared.links.LinkName.{LinkName}
use Rattle.link_trait.specs.declared.steps.Step.{Step}
use Rattle.auth_events.specs.Book.{IsLegalPast}
use Rattle.auth_events.specs.Pages.{fits}
use Rattle.auth_events.specs.Tables.{AreNames}
use Rattle.auth_events.proofs.Legal.{fits_no_draw}
use Rattle.auth_runs.specs.declared.event.Event.{Event}
use Rattle.auth_runs.specs.declared.event.Event.TheVariants.{AskedFor, Called}
use Rattle.auth_runs.specs.Runs.{Each, Run, history, trace}
use Rattle.trace_rule.specs.Closings.{want}
use Rattle.trace_rule.specs.Heard.{IsAnswered, IsHeard}
use Rattle.trace_rule.specs.Settings.{Setting, setting_of}
use Rattle.trace_rule.specs.Traces.{IsTrace, agrees, is_spent}
use Rattle.trace_rule.proofs.Knowing.{both_of, suits_of}
use Rattle.run_rule.specs.Drawing.{are_next_draws}
use Rattle.run_rule.specs.Failing.{is_any_spent, is_fault, is_faultless, wants_memory}
use Rattle.run_rule.specs.Naming.{are_names_in_order, are_names_used}
use Rattle.run_rule.specs.Outside.{Outside, answer_for, is_asked_right}
use Rattle.run_rule.specs.Runs.{IsLoneRun, IsServedIn}
use Rattle.run_laws.proofs.Histories.{AreBegun, AreCalls, IsBegun, called, history_calls, history_is, journal_is, told}
use Rattle.run_laws.proofs.Outsides.{IsMade, IsOn, ends_over, is_right, on, or_both, over}

-- the trace of one request
pub record IsPlayedAt (roster : Roster) (outside : Outside) (seed : List ℕ) (run : Run) (r : ℕ) : Type 0 where
  pub request : Request
  pub in_roster : numbered roster.requests r ≡ Some request
  pub is_made : IsMade (setting_of roster seed run.names (reverse run.journal) r request) outside.streams (answer_for outside run) (outside.steps r) (trace run r)

pub record IsPlayed (roster : Roster) (outside : Outside) (seed : List ℕ) (run : Run) : Type 0 where
  pub legal : IsLegalPast roster run.names (reverse run.journal)
  pub are_names : AreNames run.names
  pub used : IsTrue (are_names_used run.names run.journal)
  pub in_order : IsTrue (are_names_in_order run.journal)
  pub next_draws : IsTrue (are_next_draws run.names (reverse (history run)))
  pub answered : Each (λ entry. IsAnswered outside.answers run.names run.journal entry.call) run.journal
  pub by_calls : run.journal ≡ flat_map (λ r. called r (trace run r)) (range_with_len 1 (length run.traces))
  pub by_traces : history run ≡ flat_map (λ r. told r (trace run r)) (range_with_len 1 (length run.traces))
  pub whole : length run.traces ≡ length roster.requests
  pub at_request : (r : ℕ) → 1 ≤ r → r ≤ length run.traces → IsPlayedAt roster outside seed run r

-- WHAT A RUN SAYS OF ONE TRACE

any_at : (test : List Event → Bool) → test [] ≡ false → (traces : List (List Event)) → list_any test traces ≡ false → (i : ℕ) → test (slice_index_or traces i []) ≡ false
any_at test none [] h zero = none
any_at test none [] h (suc i) = none
any_at test none (x ∷ xs) h zero = (or_both (test x) (list_any test xs) h).0
any_at test none (x ∷ xs) h (suc i) = any_at test none xs (or_both (test x) (list_any test xs) h).1 i

all_at : (test : List Event → Bool) → IsTrue (test []) → (traces : List (List Event)) → IsTrue (list_all test traces) → (i : ℕ) → IsTrue (test (slice_index_or traces i []))
all_at test none [] h zero = none
all_at test none [] h (suc i) = none
all_at test none (x ∷ xs) h zero = (both_of (test x) (list_all test xs) h).0
all_at test none (x ∷ xs) h (suc i) = all_at test none xs (both_of (test x) (list_all test xs) h).1 i

or_second : (a b : Bool) → a ≡ false → IsTrue (a || b) → IsTrue b
or_second true b none h = absurd (false≢true (sym none))
or_second false b none h = h

all_right : (f g : Event → Bool) → ((e : Event) → f e ≡ g e) → (events : List Event) → IsTrue (list_all f events) → IsTrue (list_all g events)
all_right f g same [] h = h
all_right f g same (e ∷ events) h =
    let here = both_of (f e) (list_all f events) h in
    let now : IsTrue (g e) = subst (λ b. IsTrue b) (same e) here.0 in
    let later : IsTrue (list_all g events) = all_right f g same events here.1 in
    ap (λ b. b && list_all g events) now ∙ later

-- the trace is what the outside makes
made : (roster : Roster) (outside : Outside) (seed : List ℕ) (run : Run) → IsLoneRun roster outside seed run → is_any_spent run ≡ false → (s : Setting) (r : ℕ) → s.number ≡ r
    → IsTrace s (trace run r) → IsHeard outside.streams s.request.method r (reverse (trace run r)) → IsServedIn outside run r → IsMade s outside.streams (answer_for outside run) (outside.steps r) (trace run r)
made roster outside seed run is unspent s r number traced heard served =
    let spent : is_spent (reverse (trace run r)) ≡ false = any_at (λ events. is_spent (reverse events)) refl run.traces unspent (r - 1) in
    let calm = both_of (not (list_any is_fault (trace run r))) (is_spent (reverse (trace run r)) || not (list_any wants_memory (trace run r))) (all_at is_faultless refl run.traces is.faultless (r - 1)) in
    record {
      is_trace = traced;
      unspent = spent;
      heard = subst (λ n. IsHeard outside.streams s.request.method n (reverse (trace run r))) (sym number) heard;
      calm = not-true (list_any is_fault (trace run r)) calm.0;
      room = not-true (list_any wants_memory (trace run r)) (or_second (is_spent (reverse (trace run r))) (not (list_any wants_memory (trace run r))) spent calm.1);
      right = all_right (is_asked_right outside run) (is_right s outside.streams (answer_for outside run) (outside.steps r)) right_here (trace run r)
          (all_at (λ events. list_all (is_asked_right outside run) events) refl run.traces is.is_run.is_run.asked (r - 1));
      stepped = served.steps;
    }
  where
    right_here : (e : Event) → is_asked_right outside run e ≡ is_right s outside.streams (answer_for outside run) (outside.steps r) e
    right_here (AskedFor p seen) = refl
    right_here _ = refl

module _ (s : Setting) (streams : LinkName → Stream) (answer : ℕ → Option Login) (steps : ℕ → Step) where
  begun_on : (events : List Event) → IsOn s streams answer steps [] events → IsTrue (ends_over s streams answer steps [] events) → IsBegun events
  begun_on [] is whole = absurd (false≢true whole)
  begun_on (Called call reply ∷ events) is whole = (call, reply, events, refl)
  begun_on (_ ∷ events) is whole = absurd is.0.0

  calls_on : (past events : List Event) → IsOn s streams answer steps past events → AreCalls events
  calls_on past [] is = tt
  calls_on past (Called call reply ∷ events) is =
      let suited = suits_of s past (want s past) call reply is.0.0 in
      (fits_no_draw call reply (both_of (fits call reply) (agrees s past call reply) suited).0, calls_on (Called call reply ∷ past) events is.1)
  calls_on past (e ∷ events) is = calls_on (e ∷ past) events is.1

module _ (roster : Roster) (outside : Outside) (seed : List ℕ) (run : Run) (is : IsLoneRun roster outside seed run) (unspent : is_any_spent run ≡ false) where
  at_number : (r : ℕ) → 1 ≤ r → r ≤ length run.traces → IsPlayedAt roster outside seed run r
  at_number r low high =
      let x = is.is_run.is_run.served r low high in
      let same : setting_of run.roster run.seed run.names (reverse run.journal) r x.request ≡ setting_of roster seed run.names (reverse run.journal) r x.request =
      ap (λ z. setting_of z run.seed run.names (reverse run.journal) r x.request) is.is_run.is_run.same_roster
      ∙ ap (λ z. setting_of roster z run.names (reverse run.journal) r x.request) is.is_run.is_run.same_seed in
      record {
        request = x.request;
        in_roster = ap (λ z. numbered z.requests r) (sym is.is_run.is_run.same_roster) ∙ x.in_roster;
        is_made =
            subst (λ z. IsMade z outside.streams (answer_for outside run) (outside.steps r) (trace run r)) same
            (made roster outside seed run is unspent (setting_of run.roster run.seed run.names (reverse run.journal) r x.request) r refl x.is_trace x.heard x);
      }

  begun : AreBegun run 1 (length run.traces)
  begun r low high =
      let x = at_number r low (omega (arith, high)) in
      let s : Setting = setting_of roster seed run.names (reverse run.journal) r x.request in
      begun_on s outside.streams (answer_for outside run) (outside.steps r) (trace run r)
      (on s outside.streams (answer_for outside run) (outside.steps r) (trace run r) x.is_made) (over s outside.streams (answer_for outside run) (outside.steps r) (trace run r) x.is_made)

  are_calls : (r : ℕ) → 1 ≤ r → suc r ≤ 1 + length run.traces → AreCalls (trace run r)
  are_calls r low high =
      let x = at_number r low (omega (arith, high)) in
      let s : Setting = setting_of roster seed run.names (reverse run.journal) r x.request in
      calls_on s outside.streams (answer_for outside run) (outside.steps r) [] (trace run r) (on s outside.streams (answer_for outside run) (outside.steps r) (trace run r) x.is_made)

  pub played : IsPlayed roster outside seed run
  played = record {
    legal =
        subst (λ z. IsLegalPast z run.names (reverse run.journal)) is.is_run.is_run.same_roster
        (subst (λ es. IsLegalPast run.roster run.names (reverse es)) (history_calls run is.is_run.is_run.once begun are_calls) is.is_run.is_run.legal);
    are_names = is.is_run.is_run.named;
    used = is.is_run.is_run.used unspent;
    in_order = is.is_run.in_order unspent;
    next_draws = is.is_run.draws;
    answered = is.is_run.is_run.answered;
    by_calls = journal_is run is.is_run.is_run.once;
    by_traces = history_is run is.is_run.is_run.once begun;
    whole = is.is_run.is_run.whole;
    at_request = at_number;
  }
