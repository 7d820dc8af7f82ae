use Rattle.std.proofs.Common.{inr}
use Rattle.auth_cli.proofs.Made.{made_of}
use Rattle.auth_cli.proofs.top.serve.Goals as goal

pub returns-clause-spent : goal.returns-clause-spent
returns-clause-spent g c spent = inr (
  c.in-Ok-text_for.text,
  made_of c.args.command c.args.seed c.in-Ok.session _ _ c.in-Ok-text_for.text c.in-Ok.ensures.asked c.in-Ok-text_for.ensures,
  rw c.as_slice.ensures at c.in-Err-NoMemory.ensures.part,
)

pub returns-in-Err-clause-caused : goal.returns-in-Err-clause-caused
returns-in-Err-clause-caused g c = c.in-Err.ensures.caused c.args.command
