use Rattle.std.proofs.Common.{◌++◌, ◌∷◌, ◌∙◌, [], refl, ap}
use Rattle.auth_book.specs.declared.index.SpaceRow.{SpaceRow}
use Rattle.auth_book.specs.Rooms.{Roomy}
use Rattle.auth_book.specs.Indices.{part_no}
use Rattle.auth_book.proofs.AddSpace.{row_of_parts, stands_added}
use Rattle.auth_book.proofs.index.BookIndex.add_space_at.Goals as goal

pub returns-clause-stands : goal.returns-clause-stands
returns-clause-stands c = λ roster before space past is are legal stands.
    (let names = c.args.names.now in
    let index = c.args.self.now in
    stands_added roster names before space past index _
    (ap (λ (v : Roomy SpaceRow). v.items) c.push_reserved.ensures
    ∙ ap (λ row. index.spaces.items ++ row ∷ [])
    (row_of_parts _ _ _ _ _ _ c.requires.site refl (c.part_no-partition.ensures ∙ ap (part_no names index.partitions) c.spaces_len.ensures.len)))
    c.requires.count c.requires.record is are legal stands refl refl refl refl refl)
