use Rattle.report_laws.proofs.RosterAgain.{request_again}
use Rattle.report_laws.proofs.lines.request_line_reads_back.Goals as goal

pub returns : goal.returns
returns c = request_again c.args.number c.args.request.now c.keeps_number.ensures c.keeps_request.ensures c.requires
