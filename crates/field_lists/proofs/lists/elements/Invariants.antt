use Rattle.std.proofs.Common.{◌≡◌, take}
use Rattle.field_lists.specs.Elements.{elements}
use Rattle.field_lists.proofs.lists.elements.Given as goal

abbrev pub invariant-loop-value : goal.invariant-loop-value
invariant-loop-value l = l.them ≡ elements (take l.value-index l.values)
