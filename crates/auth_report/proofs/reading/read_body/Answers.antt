-- The parts of a run, one after another.
use Rattle.std.proofs.Common.{◌≡◌, ℕ, List, [], length, subst, sym, ap, ◌∙◌, arith, Result}
use Rattle.report_reading.specs.Cuts.{lines}
use Rattle.auth_runs.specs.Runs.{Run}
use Rattle.auth_events.specs.Pages.{Pages}
use Rattle.auth_report.specs.Reading.{IsWhole, end_line}
use Rattle.auth_report.proofs.Bodies.{body_is}
use Rattle.auth_report.proofs.reading.read_body.Goals as goal

pub returns : goal.returns
returns c =
    let is = body_is c.args.seed (lines c.args.text.now) c.in_ok-roster.roster (lines c.in_ok-roster.rest.now) c.len-requests.result c.in_ok-names.names (lines c.in_ok-names.rest.now)
    c.in_ok-book.book.entries (lines c.in_ok-book.rest.now) c.in_ok-traces.traces (lines c.in_ok-traces.rest.now) c.in_ok-roster.ensures.read c.len-requests.ensures c.in_ok-names.ensures
    c.in_ok-book.ensures.read c.in_ok-traces.ensures (omega (arith, c.if-len-requests.false, c.len.ensures)) in
    let run : c.new-run.result ≡ record { seed = c.args.seed; roster = c.in_ok-roster.roster; names = c.in_ok-names.names; journal = c.in_ok-book.book.entries; traces = c.in_ok-traces.traces } =
    c.new-run.ensures ∙ ap (λ (j : Pages). record { seed = c.args.seed; roster = c.in_ok-roster.roster; names = c.in_ok-names.names; journal = j.entries; traces = c.in_ok-traces.traces }) c.into_journal.ensures in
    subst (λ (e : Result Run (List (List ℕ))). IsWhole e c.end_line.result)
    (ap (λ (r : Run). end_line r (lines c.in_ok-traces.rest.now)) run ∙ sym is) c.end_line.ensures
