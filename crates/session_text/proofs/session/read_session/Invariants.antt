use Rattle.std.proofs.Common.{◌≡◌, ◌+◌, ◌≤◌, length}
use Rattle.session_text.specs.Cuts.{lines}
use Rattle.session_text.specs.Readings.{resume, start}
use Rattle.session_text.specs.Played.{IsPlayable}
use Rattle.session_text.proofs.session.read_session.Given as goal

abbrev pub invariant-lines : goal.invariant-lines
invariant-lines l = (resume l.number l.reading (lines l.rest) ≡ resume 1 start (lines l.text))
    × (l.number + length l.rest ≤ 1 + length l.text)
    × IsPlayable l.reading

abbrev pub decreases-lines : goal.decreases-lines
decreases-lines l = length l.rest
