use Rattle.std.proofs.Common.{◌≡◌, ◌≤◌, ◌+◌, ◌++◌, ◌∷◌, ◌∙◌, ℕ, [], false, List, Some, Vec, length, sym, subst, ap, arith}
use Rattle.std.proofs.lemmas.Grind.{common_steps}
use Rattle.std.specs.BTreeMap.{UpdatesBy}
use Rattle.std.specs.Cmp.Lexicographic.{slice_cmp}
use Rattle.std.specs.Ordering.{nat_cmp}
use Rattle.std.specs.declared.alloc.Global.{Global}
use Rattle.std.specs.Prelude.{is_some}
use Rattle.std.proofs.lemmas.Bool.Decides.{nat_tests}
use Rattle.auth_book.specs.declared.partitions.PartRow.{PartRow}
use Rattle.auth_book.specs.Parts.{ArePartRows, HasNumbers, new_part, part_number, part_of}
use Rattle.auth_book.proofs.PartNumbers.{no_number, numbers_more}
use Rattle.auth_book.proofs.Parts.{known_part, part_is_new, parts_pushed, pushed_length, unknown_part}
use Rattle.auth_book.proofs.partitions.PartRows.prepare.Goals as goal

pub returns-then-number_of-ne0-clause-ok : goal.returns-then-number_of-ne0-clause-ok
returns-then-number_of-ne0-clause-ok c =
    known_part c.args.self.now c.args.partition.now c.number_of.result c.number_of.ensures (grind (arith, nat_tests))

pub invariant_of-self-2 : goal.invariant_of-self-2
invariant_of-self-2 c =
    let parts = c.self.inside.rows.items in
    let p = c.args.partition.now in
    let none : c.number_of.result ≡ 0 = grind (arith, nat_tests) in
    let there : c.number_of.result ≡ part_number parts p = subst (λ ps. c.number_of.result ≡ part_number ps p) (sym c.self.view_is) c.number_of.ensures in
    let same : c.in_ok-row.row.partition ≡ c.in_ok-name.name.items = ap (λ (row : PartRow). row.partition) c.in_ok-row.ensures ∙ sym (c.in_ok-name.ensures.items ∙ c.name.ensures.value) in
    let unknown : is_some (part_of parts p) ≡ false = unknown_part parts p c.number_of.result there none in
    let pushed : c.push_reserved.new.self.items ≡ parts ++ c.in_ok-row.row ∷ [] = c.push_reserved.ensures.items ∙ ap (λ rows. rows ++ c.in_ok-row.row ∷ []) c.reserve.ensures.items in
    let its : c.push_reserved.new.self.items ≡ parts ++ new_part p ∷ [] = pushed ∙ ap (λ row. parts ++ row ∷ []) c.in_ok-row.ensures in
    let few : length parts + 1 ≤ 4294967295 = grind (arith, nat_tests) in (
      subst ArePartRows (sym its) (parts_pushed parts p c.self.invariant.0 unknown),
      omega (arith, ap (λ (rows : List PartRow). length rows) its, pushed_length parts (new_part p), few),
      subst (HasNumbers c.insert.new.self) (sym pushed)
          (numbers_more c.self.inside.numbers c.insert.new.self parts c.in_ok-row.row c.in_ok-name.name
          (subst (λ n. UpdatesBy (λ (a b : Vec ℕ Global). slice_cmp nat_cmp a.items b.items) (λ key. slice_cmp nat_cmp c.in_ok-name.name.items key.items) c.self.inside.numbers c.insert.new.self (Some n)) (grind (arith, common_steps)) c.in_ok-insert.ensures.updates)
          same (no_number parts c.in_ok-name.name.items c.number_of.result (there ∙ ap (part_number parts) (sym (c.in_ok-name.ensures.items ∙ c.name.ensures.value))) none) c.self.invariant.2),
    )

pub returns-clause-ok : goal.returns-clause-ok
returns-clause-ok c =
    let parts = c.self.inside.rows.items in
    let p = c.args.partition.now in
    let none : c.number_of.result ≡ 0 = grind (arith, nat_tests) in
    let unknown : is_some (part_of parts p) ≡ false = subst (λ ps. is_some (part_of ps p) ≡ false) (sym c.self.view_is) (unknown_part c.args.self.now p c.number_of.result c.number_of.ensures none) in
    let pushed : c.push_reserved.new.self.items ≡ parts ++ new_part p ∷ [] = c.push_reserved.ensures.items ∙ (ap (λ rows. rows ++ c.in_ok-row.row ∷ []) c.reserve.ensures.items ∙ ap (λ row. parts ++ row ∷ []) c.in_ok-row.ensures) in
    rw (← c.self.view_is) (pushed ∙ part_is_new parts p unknown)
