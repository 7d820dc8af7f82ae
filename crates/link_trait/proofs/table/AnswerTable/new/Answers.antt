use Rattle.std.proofs.Common.{subst}
use Rattle.link_trait.specs.Index.{IsIndexOf}
use Rattle.link_trait.proofs.table.AnswerTable.new.Goals as goal

pub invariant_of-result : goal.invariant_of-result
invariant_of-result c = subst (λ answers. IsIndexOf c.in_ok-index.index answers answers) c.as_slice.ensures c.in_ok-index.ensures
