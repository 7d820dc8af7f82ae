use Rattle.std.proofs.Common.{take}
use Rattle.link_trait.specs.Index.{IsIndexOf}
use Rattle.link_trait.proofs.table.index_of.Given as goal

abbrev pub invariant-loop-place : goal.invariant-loop-place
invariant-loop-place l = IsIndexOf l.index l.answers (take l.place l.answers)
