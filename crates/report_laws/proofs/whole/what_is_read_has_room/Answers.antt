use Rattle.report_laws.proofs.ReadRuns.{read_room}
use Rattle.report_laws.proofs.whole.what_is_read_has_room.Goals as goal

pub returns : goal.returns
returns c = read_room c.args.bytes.now c.args.run.now c.requires
