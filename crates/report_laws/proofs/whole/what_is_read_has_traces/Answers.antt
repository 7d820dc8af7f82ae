use Rattle.report_laws.proofs.ReadTraces.{read_traces}
use Rattle.report_laws.proofs.whole.what_is_read_has_traces.Goals as goal

pub returns : goal.returns
returns c = read_traces c.args.bytes.now c.args.run.now c.requires
