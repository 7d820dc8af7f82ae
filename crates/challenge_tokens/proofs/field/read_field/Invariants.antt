use Rattle.std.proofs.Common.{◌≡◌, ◌+◌, length}
use Rattle.challenge_tokens.specs.Pieces.{forms_from}
use Rattle.challenge_tokens.specs.Reading.{resume, start}
use Rattle.challenge_tokens.proofs.field.read_field.Given as goal

abbrev pub invariant-pieces : goal.invariant-pieces
invariant-pieces l = (l.at + length l.rest ≡ length l.value)
    × (resume l.reading (forms_from l.at l.rest) ≡ resume start (forms_from 0 l.value))

abbrev pub decreases-pieces : goal.decreases-pieces
decreases-pieces l = length l.rest
