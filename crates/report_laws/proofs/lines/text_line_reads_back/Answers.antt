use Rattle.report_laws.proofs.TextsAgain.{text_again}
use Rattle.report_laws.proofs.lines.text_line_reads_back.Goals as goal

pub returns : goal.returns
returns c = text_again c.args.number c.args.text.now c.keeps_number.ensures c.keeps_text.ensures
