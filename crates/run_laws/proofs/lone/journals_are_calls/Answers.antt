use Rattle.run_laws.proofs.OneCaller.{journal_is_calls}
use Rattle.run_laws.proofs.lone.journals_are_calls.Goals as goal

pub returns : goal.returns
returns c = journal_is_calls
