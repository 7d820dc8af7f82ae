use Rattle.std.proofs.Common.{◌≡◌, map, take}
use Rattle.uses.proofs.challenges.schemes.Given as goal

abbrev pub invariant-loop-challenge : goal.invariant-loop-challenge
invariant-loop-challenge l = l.found ≡ map (λ challenge. challenge.scheme) (take l.challenge-index l.challenge-items)
