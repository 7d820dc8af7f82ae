-- A request of one caller that runs out of memory, and its end.
use Rattle.std.proofs.Common.{◌≡◌, ℕ, ◌+◌, ◌≤◌, Bool, true, false, not, ◌==◌, IsTrue, List, ◌∷◌, length, reverse, sym, ap, ◌∙◌, arith, if◌then◌else◌}
use Rattle.std.proofs.lemmas.List.{length-map}
use Rattle.spaces.specs.declared.roster.Request.{Request}
use Rattle.spaces.specs.declared.roster.Roster.{Roster}
use Rattle.auth_events.specs.declared.journal.Call.TheVariants.{End, Lose}
use Rattle.auth_events.specs.declared.journal.Loss.TheVariants.{Memory}
use Rattle.auth_events.specs.declared.journal.BookReply.TheVariants.{Lost}
use Rattle.auth_events.specs.declared.journal.Entry.{Entry}
use Rattle.auth_events.specs.Book.{allowed, own}
use Rattle.auth_events.specs.Tables.{Tables}
use Rattle.auth_runs.specs.declared.event.Event.{Event}
use Rattle.auth_runs.specs.declared.event.Event.TheVariants.{Called}
use Rattle.trace_rule.specs.Entries.{calls, made_in}
use Rattle.trace_rule.specs.Settings.{setting_of}
use Rattle.trace_rule.specs.Traces.{IsPast, IsTrace, may_cut, prompt_open, with_loss}
use Rattle.trace_rule.proofs.Drops.{calls_bound, spaces_numbered}
use Rattle.trace_laws.proofs.Settling.{cut_allowed, loss_allowed, settled_traces}
use Rattle.serving_laws.specs.Alone.{IsAlone, has_open_prompt}
use Rattle.serving_laws.proofs.Entries.{are_entries, by_one, serving}
use Rattle.serving_laws.proofs.Open.{closed_all}

module _ (roster : Roster) (seed : List ℕ) (names : Tables) (before entries : List Entry) (r : ℕ) (request : Request) (base : List Event)
    (run : IsPast (setting_of roster seed names entries r request) base) (may : IsTrue (may_cut base)) where
  -- the prompt that is open may be lost
  pub spent_loss : IsAlone roster names before entries r request base → IsTrue (not (prompt_open base base == 0)) → IsTrue (allowed roster names entries 1 r (Lose (prompt_open base base) Memory))
  spent_loss alone some = loss_allowed false roster seed names entries 1 r request base (serving roster names before entries r request base alone seed run) may some

  -- and behind that, or where there is none, the request may end
  pub spent_end : IsAlone roster names before entries r request (with_loss (prompt_open base base) base) → IsTrue (allowed roster names entries 1 r End)
  spent_end alone =
      let few : length (calls base) ≤ 56 = calls_bound (setting_of roster seed names entries r request) (spaces_numbered false roster seed names entries r request) base run in
      let same : length (own entries r) ≡ length (calls (with_loss (prompt_open base base) base)) =
      sym (length-map (own entries r) made_in) ∙ ap length (are_entries roster names before entries r request (with_loss (prompt_open base base) base) alone) in
      cut_allowed (setting_of roster seed names entries r request) roster names entries 1 r base run may
      (are_entries roster names before entries r request (with_loss (prompt_open base base) base) alone)
      (by_one roster names before entries r request (with_loss (prompt_open base base) base) alone) (omega (arith, few, same, more (prompt_open base base) base))
    where
      more : (p : ℕ) (past : List Event) → length (calls (with_loss p past)) ≤ length (calls past) + 1
      more p past = at (p == 0)
        where
          at : (b : Bool) → length (calls (if b then past else Called (Lose p Memory) (Lost Memory) ∷ past)) ≤ length (calls past) + 1
          at true = omega arith
          at false = omega arith

-- once the request is over no prompt is open
pub closed_at_end : (roster : Roster) (seed : List ℕ) (names : Tables) (before entries : List Entry) (r : ℕ) (request : Request) (events : List Event)
    → IsAlone roster names before entries r request (reverse events) → IsTrace (setting_of roster seed names entries r request) events → has_open_prompt entries ≡ false
closed_at_end roster seed names before entries r request events alone trace =
    closed_all roster names before r request entries (reverse events) alone
    (settled_traces (setting_of roster seed names entries r request) events entries r trace (are_entries roster names before entries r request (reverse events) alone))
