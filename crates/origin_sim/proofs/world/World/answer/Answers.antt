use Rattle.std.proofs.Common.{Some}
use Rattle.std.proofs.lemmas.Result.{IfOk-weaker}
use Rattle.origin_sim.proofs.world.World.answer.Goals as goal

pub returns-in-Ok-clause-ok : goal.returns-in-Ok-clause-ok
returns-in-Ok-clause-ok c =
    IfOk-weaker c.reply_or_none.result _ _ (λ reply is. (Some c.in-Ok.head, c.in-Ok.ensures, is)) c.reply_or_none.ensures.ok
