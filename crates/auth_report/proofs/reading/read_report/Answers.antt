-- A run that is read is one whose text was read.
use Rattle.std.proofs.Common.{ℕ, List, Result, subst}
use Rattle.std.specs.Borrow.{Bor}
use Rattle.auth_runs.specs.Runs.{Run}
use Rattle.report_reading.specs.Cuts.{lines}
use Rattle.auth_report.specs.Reading.{IsWhole, whole}
use Rattle.auth_report.proofs.OnlyTexts.{only_texts}
use Rattle.auth_report.proofs.reading.read_report.Goals as goal

pub returns-in-Ok-Ok-clause-text : goal.returns-in-Ok-Ok-clause-text
returns-in-Ok-Ok-clause-text c =
    only_texts c.args.text.now c.in-Ok-Ok.run'
    (subst (λ (got : Result Run (Bor (List ℕ))). IsWhole (whole (lines c.args.text.now)) got) c.in-Ok-Ok.field-0-is c.in-Ok-Ok.ensures)
