use Rattle.std.proofs.Common.{◌≡◌, take}
use Rattle.link_trait.proofs.table.copy_answers.Given as goal

abbrev pub invariant-loop-repeated : goal.invariant-loop-repeated
invariant-loop-repeated l = l.copies ≡ take l.repeated-index l.answers
