use Rattle.std.proofs.Common.{◌∙◌}
use Rattle.auth_cli.proofs.ClosedReports.{closed_served}
use Rattle.auth_cli.proofs.top.authfetch_alone.Goals as goal

pub returns-in-Some-clause-closed : goal.returns-in-Some-clause-closed
returns-in-Some-clause-closed g c is done =
    closed_served c.in-Some.asked c.args.seed _ _ _ _ (c.in-Some.ensures ∙ is) (c.serve.ensures.done done)
