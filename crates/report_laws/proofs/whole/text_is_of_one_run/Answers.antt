use Rattle.std.proofs.Common.{◌≡◌, ℕ, Result, Ok, sym, ap, ◌∙◌}
use Rattle.auth_runs.specs.Runs.{Run}
use Rattle.auth_report.specs.Reading.{report}
use Rattle.report_laws.proofs.Back.{text_again}
use Rattle.report_laws.proofs.whole.text_is_of_one_run.Goals as goal

one : (a b : Run) (r : Result Run ℕ) → r ≡ Ok a → r ≡ Ok b → a ≡ b
one a b r first second = let same : Ok a ≡ Ok b = sym first ∙ second in cc same

pub returns : goal.returns
returns c =
    one c.args.a.now c.args.b.now _ (text_again c.args.a.now c.keeps_run.ensures c.requires.first)
    (ap report c.requires.same ∙ text_again c.args.b.now c.keeps_run-2.ensures c.requires.second)
