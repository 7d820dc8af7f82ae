-- A request has few events: the sum over their kinds.
use Rattle.std.proofs.Common.{◌⊎◌, inl, inr, ℕ, ◌+◌, ◌==◌, ◌≤◌, Bool, true, false, List, [], ◌∷◌, length, reverse, ap, arith, if◌then◌else◌}
use Rattle.std.proofs.lemmas.List.{length-reverse}
use Rattle.auth_events.specs.declared.journal.Loss.TheVariants.{Memory}
use Rattle.auth_events.specs.declared.journal.Call.TheVariants.{Lose}
use Rattle.auth_events.specs.declared.journal.BookReply.TheVariants.{Lost}
use Rattle.auth_runs.specs.declared.event.Event.{Event}
use Rattle.auth_runs.specs.declared.event.Event.TheVariants.{Called}
use Rattle.auth_runs.specs.Runs.{ends}
use Rattle.trace_rule.specs.Settings.{Setting, IsNumbered}
use Rattle.trace_rule.specs.Holding.{heads, links, has_link}
use Rattle.trace_rule.specs.Counting.{draws}
use Rattle.trace_rule.specs.Entries.{calls}
use Rattle.trace_rule.specs.Traces.{IsPast, IsRun, IsCut, IsTrace, is_over, prompt_open, with_loss}
use Rattle.trace_rule.proofs.Counts.{losts}
use Rattle.trace_rule.proofs.Bounds.{rounds_bound}
use Rattle.trace_rule.proofs.HeadCount.{heads_bound}
use Rattle.trace_rule.proofs.DrawCount.{draws_bound}
use Rattle.trace_rule.proofs.Drops.{calls_bound}
use Rattle.trace_laws.proofs.Counted.{few_if, count_of, is_ask, is_step, is_reply, finals, all_calls, few_links, few_replies, few_asks, few_finals, few_losts, few_ends}
use Rattle.trace_laws.proofs.Steps.{few_steps}

abbrev by_kind : List Event → ℕ
by_kind past =
    length (calls past) + count_of is_ask past + count_of is_step past + links past + draws past + heads past + count_of is_reply past
    + losts past + finals past + count_of ends past

-- each event is of a kind
all_kinds : (past : List Event) → length past ≤ by_kind past
all_kinds [] = omega arith
all_kinds (Called call reply ∷ past) = let h = all_kinds past in omega (arith, h)
all_kinds (_ ∷ past) = let h = all_kinds past in omega (arith, h)

pub short_pasts : (s : Setting) → IsNumbered s → (past : List Event) → IsPast s past → length past + 8 ≤ 256
short_pasts s means past run =
    omega (
      arith,
      all_kinds past,
      calls_bound s means past run,
      all_calls past,
      few_asks s past run,
      few_steps s means past run,
      rounds_bound s past run,
      few_links s past run,
      few_if (has_link past),
      draws_bound s past run,
      heads_bound s past run,
      few_replies s past run,
      few_losts s past run,
      few_finals s past run,
      few_ends s past run,
      few_if (is_over past),
    )

loss_short : (p : ℕ) (past : List Event) → length (with_loss p past) ≤ length past + 1
loss_short p past = at (p == 0)
  where
    at : (b : Bool) → length (if b then past else Called (Lose p Memory) (Lost Memory) ∷ past) ≤ length past + 1
    at true = omega arith
    at false = omega arith

pub short_traces : (s : Setting) → IsNumbered s → (events : List Event) → IsTrace s events → length events ≤ 256
short_traces s means events trace = omega (arith, length-reverse events, at trace)
  where
    at : IsRun s (reverse events) ⊎ IsCut s (reverse events) → length (reverse events) ≤ 256
    at (inl run) = omega (arith, short_pasts s means (reverse events) run.0)
    at (inr (past, cut)) = omega (arith, short_pasts s means past cut.is_past, loss_short (prompt_open past past) past, ap length cut.cut)
