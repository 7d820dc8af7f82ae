use Rattle.std.proofs.Common.{◌≡◌, drop}
use Rattle.std.specs.Prelude.{slice_get}
use Rattle.link_trait.specs.Repeated.{flat}
use Rattle.link_trait.proofs.answers.answer_at.Given as goal

abbrev pub invariant-loop-repeated : goal.invariant-loop-repeated
invariant-loop-repeated l = slice_get (flat (drop l.repeated-index l.answers)) l.left ≡ slice_get (flat l.answers) l.at
