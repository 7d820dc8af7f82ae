use Rattle.std.proofs.Common.{◌≡◌, drop}
use Rattle.std.specs.List.{flat_map}
use Rattle.trace_rule.specs.Challenges.{challenges_in}
use Rattle.challenge_offers.specs.Tokens.{token_among, token_offered}
use Rattle.challenge_offers.proofs.tokens.token_offered.Given as goal

abbrev pub invariant-loop-field : goal.invariant-loop-field
invariant-loop-field l = token_offered l.reply ≡ token_among (flat_map challenges_in (drop l.field-index l.field-items))
