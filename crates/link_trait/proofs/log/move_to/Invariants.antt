use Rattle.std.proofs.Common.{◌≡◌, ◌++◌, take, drop, map}
use Rattle.link_trait.specs.Recorded.{moved}
use Rattle.link_trait.proofs.log.move_to.Given as goal

abbrev pub invariant-loop-link : goal.invariant-loop-link
invariant-loop-link l = l.link-items ≡ map (moved l.name l.place) (take l.link-index l.fn.«open».items) ++ drop l.link-index l.fn.«open».items
