use Rattle.std.proofs.Common.{◌≡◌, map, take}
use Rattle.std.specs.Prelude.{filter_map}
use Rattle.std.specs.List.{flat_map}
use Rattle.trace_rule.specs.Challenges.{challenges_in, offer}
use Rattle.challenge_offers.specs.Offers.{offered}
use Rattle.challenge_offers.proofs.offers.supported.Given as goal

abbrev pub invariant-loop-field : goal.invariant-loop-field
invariant-loop-field l = map offered l.offers ≡ filter_map (offer l.negotiates) (flat_map challenges_in (take l.field-index l.reply.fields))
