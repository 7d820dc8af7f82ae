use Rattle.std.proofs.Common.{◌≡◌, drop}
use Rattle.challenge_offers.specs.Tokens.{token_among}
use Rattle.challenge_offers.proofs.tokens.token_among.Given as goal

abbrev pub invariant-loop-challenge : goal.invariant-loop-challenge
invariant-loop-challenge l = token_among l.challenges ≡ token_among (drop l.challenge-index l.challenges)
