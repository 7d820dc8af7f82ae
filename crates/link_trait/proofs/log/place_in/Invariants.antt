use Rattle.std.proofs.Common.{◌≡◌, drop}
use Rattle.link_trait.specs.Recorded as Recorded
use Rattle.link_trait.proofs.log.place_in.Given as goal

abbrev pub invariant-loop-link : goal.invariant-loop-link
invariant-loop-link l = Recorded.place_in l.name (drop l.link-index l.«open») ≡ Recorded.place_in l.name l.«open»
