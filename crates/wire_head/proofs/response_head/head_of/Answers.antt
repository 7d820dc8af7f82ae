use Rattle.std.proofs.lemmas.Result.{IfOk-weaker}
use Rattle.wire_head.proofs.HeadLemmas.{read_is}
use Rattle.wire_head.proofs.response_head.head_of.Goals as goal

pub returns : goal.returns
returns c = IfOk-weaker c.whole_head.result _ _ (λ read m. read_is c.args.bytes.now read m) c.whole_head.ensures
