use Rattle.std.proofs.Common.{◌≡◌, drop}
use Rattle.trace_rule.specs.NextNonces.{first_next}
use Rattle.challenge_offers.proofs.infos.next_nonce.Given as goal

abbrev pub invariant-loop-value : goal.invariant-loop-value
invariant-loop-value l = first_next l.values ≡ first_next (drop l.value-index l.values)
