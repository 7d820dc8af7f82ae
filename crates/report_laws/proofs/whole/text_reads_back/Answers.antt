use Rattle.report_laws.proofs.Back.{text_again}
use Rattle.report_laws.proofs.whole.text_reads_back.Goals as goal

pub returns : goal.returns
returns c = text_again c.args.run.now c.keeps_run.ensures c.requires
