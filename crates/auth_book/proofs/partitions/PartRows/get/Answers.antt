use Rattle.std.proofs.Common.{◌∙◌, ap}
use Rattle.spaces.specs.Sites.{numbered}
use Rattle.auth_book.proofs.Parts.{bound_at}
use Rattle.auth_book.proofs.partitions.PartRows.get.Goals as goal

pub returns-clause-bound : goal.returns-clause-bound
returns-clause-bound c =
    bound_at c.self.inside.rows.items c.self.invariant.0 c.args.number c.row_at.result
    (c.row_at.ensures ∙ ap (λ rows. numbered rows c.args.number) c.as_slice.ensures.value)
