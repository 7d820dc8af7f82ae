use Rattle.std.proofs.Common.{◌≡◌, drop, map}
use Rattle.std.specs.Prelude.{find}
use Rattle.spaces.specs.Sites.{same_space}
use Rattle.trace_rule.specs.Challenges.{space_at}
use Rattle.challenge_offers.specs.Offers.{offered}
use Rattle.challenge_offers.proofs.choice.first_of_space.Given as goal

abbrev pub invariant-loop-offer : goal.invariant-loop-offer
invariant-loop-offer l =
    find (λ offer. same_space (space_at l.site offer) l.space) (map offered l.offers)
    ≡ find (λ offer. same_space (space_at l.site offer) l.space) (map offered (drop l.offer-index l.offers))
