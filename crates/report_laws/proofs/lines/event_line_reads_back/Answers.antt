use Rattle.report_laws.proofs.EventsAgain.{event_again}
use Rattle.report_laws.proofs.lines.event_line_reads_back.Goals as goal

pub returns : goal.returns
returns c = event_again c.args.next c.args.request c.args.event.now c.keeps_number.ensures c.keeps_event.ensures c.requires
