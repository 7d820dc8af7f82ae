use Rattle.std.proofs.Common.{◌≡◌, ◌∙◌, ap, arith}
use Rattle.std.proofs.lemmas.Grind.{common_steps}
use Rattle.std.specs.BTreeMap.{get}
use Rattle.space_keys.specs.Keys.{space_cmp}
use Rattle.name_index.specs.Found.{checked}
use Rattle.name_index.proofs.Knowing.{is_that_space, space_found}
use Rattle.name_index.proofs.index.NameIndex.space_number.Goals as goal

pub returns : goal.returns
returns c =
    let map = c.args.self.now.spaces in
    let names = c.args.names.now in
    let read : c.copied-number.result ≡ get space_cmp map c.in_ok-key.key = grind (arith, common_steps) in
    c.space_checked.ensures
    ∙ (ap (checked (is_that_space c.args.space.now) names.spaces) read
    ∙ space_found map names c.in_ok-key.key c.args.space.now c.requires.0 c.in_ok-key.ensures)
