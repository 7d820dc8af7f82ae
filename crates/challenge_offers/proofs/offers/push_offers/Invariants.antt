use Rattle.std.proofs.Common.{◌≡◌, ◌++◌, map, take}
use Rattle.std.specs.Prelude.{filter_map}
use Rattle.trace_rule.specs.Challenges.{offer}
use Rattle.challenge_offers.specs.Offers.{offered}
use Rattle.challenge_offers.proofs.offers.push_offers.Given as goal

abbrev pub invariant-loop-challenge : goal.invariant-loop-challenge
invariant-loop-challenge l = map offered l.offers ≡ map offered l.fn.offers ++ filter_map (offer l.fn.negotiates) (take l.challenge-index l.challenges)
