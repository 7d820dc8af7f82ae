-- The journal of a run is its history without the draws, each request has its end, and nothing is left open.
use Rattle.std.proofs.Common.{IsTrue, ◌≡◌, ℕ, suc, ◌+◌, ◌≤◌, ◌==◌, Bool, true, false, ◌&&◌, List, [], ◌∷◌, length, map, reverse, refl, sym, ap, ◌∙◌, subst, arith}
use Rattle.std.specs.Prelude.{filter_map}
use Rattle.std.specs.List.{list_any}
use Rattle.std.proofs.lemmas.Bool.{false≢true}
use Rattle.spaces.specs.declared.roster.Roster.{Roster}
use Rattle.auth_events.specs.declared.journal.Call.{Call}
use Rattle.auth_events.specs.declared.journal.Entry.{Entry}
use Rattle.auth_events.specs.Book.{IsLegalPast, begins, draws, ends, own, without_draws}
use Rattle.auth_events.proofs.Numbers.{and_left, both}
use Rattle.auth_events.proofs.Reversed.{list_any-reverse}
use Rattle.auth_events.proofs.Same.{number_refl}
use Rattle.auth_runs.specs.Runs.{Run, history, step_told, trace}
use Rattle.run_rule.specs.Outside.{Outside}
use Rattle.run_rule.specs.Runs.{IsRunBy, IsServedIn}
use Rattle.ended_laws.specs.Ended.{HaveAllEnded}
use Rattle.ended_laws.proofs.Waiting.{all_settled}
use Rattle.ended_laws.proofs.Taking.{all_taken}
use Rattle.ended_runs.specs.Closed.{LeavesNothingOpen}
use Rattle.ended_runs.proofs.Traces.{made, trace_begun, trace_ended, trace_undrawn}
use Rattle.ended_runs.proofs.Journals.{by_traces, entered, entered_own, entries_in, of_trace, own_any}
use Rattle.ended_runs.proofs.Histories.{merged_without}

module _ (callers : ℕ) (roster : Roster) (outside : Outside) (seed : List ℕ) (run : Run) (is : IsRunBy callers roster outside seed run) where
  served : (r : ℕ) → 1 ≤ r → suc r ≤ 1 + length run.traces → IsServedIn outside run r
  served r low high = is.served r low (omega (arith, high))

  -- THE HISTORY

  undrawn : list_any (λ entry. draws entry.call) run.journal ≡ false
  undrawn = at (list_any (λ entry. draws entry.call) run.journal) refl
    where
      none_in : (caller r : ℕ) → 1 ≤ r → suc r ≤ 1 + length run.traces → IsTrue (list_any (λ entry. draws entry.call) (entries_in run caller r)) → IsTrue (list_any (λ entry. false) (entries_in run caller r))
      none_in caller r low high some =
          let trace_is = (served r low high).is_trace in
          absurd (false≢true (sym (entered draws caller r (trace run r) ∙ trace_undrawn _ (trace run r) trace_is) ∙ some))

      never : (entries : List Entry) → IsTrue (list_any (λ entry. false) entries) → ⊥
      never [] some = false≢true some
      never (entry ∷ entries) some = never entries some

      at : (b : Bool) → list_any (λ entry. draws entry.call) run.journal ≡ b → b ≡ false
      at true some = absurd (never run.journal (by_traces callers run is.once (λ entry. draws entry.call) (λ entry. false) none_in some))
      at false none = refl

  pub history_journal : without_draws (history run) ≡ run.journal
  history_journal = merged_without (map (filter_map step_told) run.traces) run.journal undrawn

  legal : IsLegalPast run.roster run.names (reverse run.journal)
  legal = subst (λ l. IsLegalPast run.roster run.names (reverse l)) history_journal is.legal

  -- ENDS

  -- what the request's entries in the past pass, those of the journal pass
  in_past : (test : Call → Bool) (r : ℕ) → list_any (λ entry. test entry.call) (own (reverse run.journal) r) ≡ list_any (λ entry. entry.request == r && test entry.call) run.journal
  in_past test r = own_any (λ entry. test entry.call) (reverse run.journal) r ∙ list_any-reverse (λ (entry : Entry). entry.request == r && test entry.call) run.journal

  all_ended : HaveAllEnded (reverse run.journal)
  all_ended q begun =
      in_past ends q
      ∙ by_traces callers run is.once (λ entry. entry.request == q && begins entry.call) (λ entry. entry.request == q && ends entry.call) each (sym (in_past begins q) ∙ begun)
    where
      each : (caller r : ℕ) → 1 ≤ r → suc r ≤ 1 + length run.traces
          → IsTrue (list_any (λ entry. entry.request == q && begins entry.call) (entries_in run caller r)) → IsTrue (list_any (λ entry. entry.request == q && ends entry.call) (entries_in run caller r))
      each caller r low high some =
          let trace_is = (served r low high).is_trace in
          entered_own ends caller r q (trace run r)
          ∙ both (r == q) (list_any (made ends) (trace run r))
          (and_left (r == q) (list_any (made begins) (trace run r)) (sym (entered_own begins caller r q (trace run r)) ∙ some))
          (trace_ended _ (trace run r) trace_is)

  in_traces : (r : ℕ) → r ≤ length run.roster.requests → suc r ≤ 1 + length run.traces
  in_traces r high =
      let few = is.whole in
      let same : length run.roster.requests ≡ length roster.requests = ap (λ (whole : Roster). length whole.requests) is.same_roster in
      omega (arith, high, few, same)

  told : (test : Call → Bool) (r : ℕ) → 1 ≤ r → suc r ≤ 1 + length run.traces → IsTrue (list_any (made test) (trace run r)) → IsTrue (list_any (λ entry. test entry.call) (own (reverse run.journal) r))
  told test r low high some =
      in_past test r
      ∙ of_trace callers run is.once (λ entry. entry.request == r && test entry.call) r low high
      (λ caller. entered_own test caller r r (trace run r) ∙ both (r == r) (list_any (made test) (trace run r)) (number_refl r) some)

  pub nothing_open : LeavesNothingOpen run
  nothing_open = record {
    begun = λ r low high. let inside = in_traces r high in let here = served r low inside in told begins r low inside (trace_begun _ (trace run r) here.is_trace);
    ended = λ r low high. let inside = in_traces r high in let here = served r low inside in told ends r low inside (trace_ended _ (trace run r) here.is_trace);
    settled = all_settled run.roster run.names (reverse run.journal) legal all_ended;
    taken = all_taken run.roster run.names (reverse run.journal) legal all_ended;
  }
