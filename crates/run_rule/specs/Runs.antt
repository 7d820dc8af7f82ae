-- What a run of requests has to be: this page and the ones that it cites are all that a report claims.
use Rattle.std.specs.Prelude.{ℕ, ◌≡◌, ◌≤◌, false, IsTrue, List, length, reverse, Some}
use Rattle.std.specs.List.{list_all}
use Rattle.spaces.specs.declared.roster.Request.{Request}
use Rattle.spaces.specs.declared.roster.Roster.{Roster}
use Rattle.spaces.specs.Sites.{numbered}
use Rattle.auth_events.specs.Tables.{AreNames, AreFew}
use Rattle.auth_events.specs.Book.{IsLegal}
use Rattle.auth_events.specs.Fresh.{fresh}
use Rattle.auth_runs.specs.Runs.{Run, history, trace, AreOnce, Each}
use Rattle.isolation.specs.Partitions.{alone_in}
use Rattle.trace_rule.specs.Settings.{setting_of}
use Rattle.trace_rule.specs.Traces.{IsTrace}
use Rattle.trace_rule.specs.Heard.{IsHeard, IsAnswered}
use Rattle.run_rule.specs.Outside.{Outside, HasSteps, is_asked_right}
use Rattle.run_rule.specs.Naming.{are_names_used, are_names_in_order}
use Rattle.run_rule.specs.Drawing.{are_next_draws}
use Rattle.run_rule.specs.Failing.{is_any_spent, is_all_faultless}

-- the trace of the run's request of that number, judged by the run's seed, names and journal, and by the outside
pub record IsServedIn (outside : Outside) (run : Run) (r : ℕ) : Type 0 where
  pub request : Request
  pub in_roster : numbered run.roster.requests r ≡ Some request
  -- it ends as history and replies determine, and its heads carry exactly the identities answered
  pub is_trace : IsTrace (setting_of run.roster run.seed run.names (reverse run.journal) r request) (trace run r)
  -- what follows each head is what its link's stream shows
  pub heard : IsHeard outside.streams request.method r (reverse (trace run r))
  -- the provider's steps are the request's
  pub steps : HasSteps outside r (trace run r)

-- what a partition has alone of the run's history is legal and fresh by itself, but for the numbers of prompts
abbrev pub IsApart : Run → List ℕ → Type 0
IsApart run partition =
    let own = alone_in run.roster partition (history run) in
    IsLegal run.roster run.names own × IsTrue (fresh run.names own)

-- a run of the roster's requests by that many callers, over that outside
pub record IsRunBy (callers : ℕ) (roster : Roster) (outside : Outside) (seed : List ℕ) (run : Run) : Type 0 where
  -- it is of these requests, with the seed that was handed in
  pub same_roster : run.roster ≡ roster
  pub same_seed : run.seed ≡ seed
  -- a number names one thing and a thing has one number, within the limits
  pub named : AreNames run.names
  pub few : AreFew (length run.roster.requests) run.names
  -- a call names each of them, unless a request ran out of memory
  pub used : is_any_spent run ≡ false → IsTrue (are_names_used run.names run.journal)
  -- calls and draws form one legal history; no nonce and count are drawn twice
  pub legal : IsLegal run.roster run.names (history run)
  pub drawn_once : IsTrue (fresh run.names (history run))
  -- no partition learns of another
  pub apart : (partition : List ℕ) → IsApart run partition
  -- each call stands once, in its caller's order
  pub once : AreOnce callers run
  -- each request has one trace, which is what it has to be
  pub whole : length run.traces ≡ length roster.requests
  pub served : (r : ℕ) → 1 ≤ r → r ≤ length run.traces → IsServedIn outside run r
  -- each prompt was asked for, its answer is the outside's, and its waiters take it
  pub asked : IsTrue (list_all (λ events. list_all (is_asked_right outside run) events) run.traces)
  pub answered : Each (λ entry. IsAnswered outside.answers run.names run.journal entry.call) run.journal

-- the same of one caller, which nobody draws or names beside
pub record IsRunByOne (roster : Roster) (outside : Outside) (seed : List ℕ) (run : Run) : Type 0 where
  pub is_run : IsRunBy 1 roster outside seed run
  -- the nth draw of a nonce gives count n, and the epoch of its moment
  pub draws : IsTrue (are_next_draws run.names (reverse (history run)))
  -- spaces and terms rise by first use and the nth answer with a text names text n, unless a request ran out of memory
  pub in_order : is_any_spent run ≡ false → IsTrue (are_names_in_order run.journal)

-- the same, where nothing fails
pub record IsLoneRun (roster : Roster) (outside : Outside) (seed : List ℕ) (run : Run) : Type 0 where
  pub is_run : IsRunByOne roster outside seed run
  pub faultless : IsTrue (is_all_faultless run)
