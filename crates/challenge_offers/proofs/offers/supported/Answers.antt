use Rattle.std.proofs.Common.{arith}
use Rattle.std.proofs.lemmas.Grind.{common_steps, flat_map-append}
use Rattle.std.proofs.lemmas.List.Elements.{filter_map-append}
use Rattle.trace_rule.specs.Challenges.{challenges_in}
use Rattle.challenge_offers.proofs.offers.supported.Goals as goal

pub loop-field-preserved : goal.loop-field-preserved
unfolding challenges_in
loop-field-preserved c = grind (arith, common_steps, flat_map-append, filter_map-append)
