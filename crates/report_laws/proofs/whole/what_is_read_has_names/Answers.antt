use Rattle.report_laws.proofs.ReadNames.{read_names}
use Rattle.report_laws.proofs.whole.what_is_read_has_names.Goals as goal

pub returns : goal.returns
returns c = read_names c.args.bytes.now c.args.run.now c.requires
