use Rattle.auth_cli.proofs.Few.{few_requests}
use Rattle.auth_cli.proofs.top.read_asked.Goals as goal

pub returns-in-Ok-read_session-clause-few : goal.returns-in-Ok-read_session-clause-few
returns-in-Ok-read_session-clause-few g c = few_requests c.as_slice.result.now c.in-Ok-read_session.session c.in-Ok-read_session.ensures.session
