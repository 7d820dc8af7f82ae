use Rattle.report_laws.proofs.LinesAgain.{space_again}
use Rattle.report_laws.proofs.lines.space_line_reads_back.Goals as goal

pub returns : goal.returns
returns c = space_again c.args.number c.args.space.now c.keeps_number.ensures c.keeps_space.ensures
