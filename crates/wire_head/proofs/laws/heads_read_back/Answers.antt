use Rattle.wire_head.proofs.HeadBackLemmas.{head_back, one_head}
use Rattle.wire_head.proofs.laws.heads_read_back.Goals as goal

pub returns : goal.returns
returns c = record { back = head_back; one = one_head }
