use Rattle.std.proofs.Common.{◌≡◌, take, subst, arith}
use Rattle.std.proofs.lemmas.Grind.{common_steps}
use Rattle.link_trait.specs.Index.{IsIndexOf}
use Rattle.link_trait.proofs.table.index_of.Goals as goal

pub returns : goal.returns
returns c =
    let answers = c.args.answers.now in
    let whole : take c.loop-place.place answers ≡ answers = grind (arith, common_steps) in
    subst (IsIndexOf c.loop-place.index answers) whole c.loop-place.invariant
