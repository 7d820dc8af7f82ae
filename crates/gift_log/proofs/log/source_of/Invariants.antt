use Rattle.gift_log.proofs.LinkLemmas.{IsOnTheWay}
use Rattle.gift_log.proofs.log.source_of.Given as goal

abbrev pub invariant-loop-number : goal.invariant-loop-number
invariant-loop-number l = IsOnTheWay l.links l.gift l.number

abbrev pub decreases-loop-number : goal.decreases-loop-number
decreases-loop-number l = l.number
