use Rattle.report_laws.proofs.RosterAgain.{seed_again}
use Rattle.report_laws.proofs.lines.seed_line_reads_back.Goals as goal

pub returns : goal.returns
returns c = seed_again c.args.seed c.keeps_seed.ensures.bytes c.keeps_seed.ensures.size
