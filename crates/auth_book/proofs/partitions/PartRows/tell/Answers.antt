use Rattle.std.proofs.Common.{◌≡◌, ◌≤◌, ◌-◌, ◌∙◌, Some, length, refl, sym, subst, ap, arith}
use Rattle.std.proofs.lemmas.Bool.Decides.{nat_tests}
use Rattle.std.proofs.lemmas.List.{length-set}
use Rattle.spaces.specs.Sites.{numbered}
use Rattle.auth_book.specs.declared.partitions.PartRow.{PartRow}
use Rattle.auth_book.specs.Rooms.{set_number}
use Rattle.auth_book.specs.Steps.{part_told, parts_with}
use Rattle.auth_book.proofs.Numbered.{there_at}
use Rattle.auth_book.proofs.PartNumbers.{numbers_kept}
use Rattle.auth_book.proofs.Parts.{IsLike, parts_kept}
use Rattle.auth_book.proofs.partitions.PartRows.tell.Goals as goal

pub invariant_of-self : goal.invariant_of-self
invariant_of-self c =
    let parts = c.self.inside.rows.items in
    let written = c.index_mut-row.result.now in
    let first : 1 ≤ c.args.number = grind (arith, nat_tests) in
    let within : c.args.number ≤ length parts = grind (arith, nat_tests) in
    let there : numbered parts c.args.number ≡ Some written = there_at parts c.args.number written first within c.index_mut-row.ensures.value in
    let like : IsLike written c.tell_row.new.row = subst (λ row. IsLike written row) (sym c.tell_row.ensures) (record { partition = refl; bound = refl; room = refl }) in (
      parts_kept parts c.args.number written c.tell_row.new.row c.self.invariant.0 there like,
      omega (arith, c.self.invariant.1, length-set parts (c.args.number - 1) c.tell_row.new.row),
      numbers_kept c.self.inside.numbers parts c.args.number written c.tell_row.new.row there like.partition c.self.invariant.2,
    )

pub returns : goal.returns
returns c =
    let parts = c.self.inside.rows.items in
    let written = c.index_mut-row.result.now in
    let first : 1 ≤ c.args.number = grind (arith, nat_tests) in
    let within : c.args.number ≤ length parts = grind (arith, nat_tests) in
    let there : numbered parts c.args.number ≡ Some written = there_at parts c.args.number written first within c.index_mut-row.ensures.value in
    let told : PartRow → PartRow = part_told c.args.roster.now c.args.names.now c.args.site c.args.request c.args.call c.args.reply in
    rw (← c.self.view_is) (sym (ap (parts_with parts c.args.number told) there ∙ ap (set_number parts c.args.number) (sym c.tell_row.ensures)))
