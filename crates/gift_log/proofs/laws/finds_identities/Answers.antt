use Rattle.gift_log.proofs.GivingLemmas.{found_is}
use Rattle.gift_log.proofs.laws.finds_identities.Goals as goal

pub returns : goal.returns
returns c = λ roster names entries gift. found_is roster names entries gift
