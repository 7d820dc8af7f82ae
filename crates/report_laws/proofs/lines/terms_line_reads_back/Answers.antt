use Rattle.report_laws.proofs.TermsAgain.{terms_again}
use Rattle.report_laws.proofs.lines.terms_line_reads_back.Goals as goal

pub returns : goal.returns
returns c = terms_again c.args.number c.args.spaces.now c.args.name.now c.keeps_number.ensures c.keeps_terms.ensures c.requires
