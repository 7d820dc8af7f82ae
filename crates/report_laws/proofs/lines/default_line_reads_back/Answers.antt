use Rattle.report_laws.proofs.LinesAgain.{default_again}
use Rattle.report_laws.proofs.lines.default_line_reads_back.Goals as goal

pub returns : goal.returns
returns c = default_again c.args.origin.now c.keeps_origin.ensures
