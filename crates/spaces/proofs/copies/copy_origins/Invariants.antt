use Rattle.std.proofs.Common.{◌≡◌, take}
use Rattle.spaces.proofs.copies.copy_origins.Given as goal

abbrev pub invariant-loop-origin : goal.invariant-loop-origin
invariant-loop-origin l = l.copy ≡ take l.origin-index l.origins
