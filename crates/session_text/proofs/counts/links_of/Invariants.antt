use Rattle.std.proofs.Common.{◌≡◌, ◌≤◌, ◌*◌, ◌^◌, take, length}
use Rattle.std.specs.Prelude.{sum_by}
use Rattle.session_text.proofs.counts.links_of.Given as goal

abbrev pub invariant-loop-streams : goal.invariant-loop-streams
invariant-loop-streams l = (l.count ≡ sum_by length (take l.streams-index l.links)) × (l.count ≤ l.streams-index * 2 ^ 64)
