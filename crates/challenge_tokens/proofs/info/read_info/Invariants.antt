use Rattle.std.proofs.Common.{length}
use Rattle.challenge_tokens.proofs.InfoLemmas.{Left}
use Rattle.challenge_tokens.proofs.info.read_info.Given as goal

abbrev pub invariant-pieces : goal.invariant-pieces
invariant-pieces l = Left l.value l.so_far l.rest

abbrev pub decreases-pieces : goal.decreases-pieces
decreases-pieces l = length l.rest
