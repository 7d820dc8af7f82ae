use Rattle.std.proofs.Common.{◌≡◌, drop, map}
use Rattle.trace_rule.specs.Challenges.{first_by}
use Rattle.challenge_offers.specs.Offers.{offered}
use Rattle.challenge_offers.proofs.choice.first_by.Given as goal

abbrev pub invariant-loop-offer : goal.invariant-loop-offer
invariant-loop-offer l = first_by l.scheme (map offered l.offers) ≡ first_by l.scheme (map offered (drop l.offer-index l.offers))
