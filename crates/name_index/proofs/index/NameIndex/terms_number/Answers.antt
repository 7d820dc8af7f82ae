use Rattle.std.proofs.Common.{◌≡◌, ◌∙◌, ap, arith}
use Rattle.std.proofs.lemmas.Grind.{common_steps}
use Rattle.std.specs.BTreeMap.{get}
use Rattle.name_index.specs.TermsKeys.{terms_cmp}
use Rattle.name_index.specs.Found.{checked}
use Rattle.name_index.proofs.Knowing.{are_those_terms, terms_found}
use Rattle.name_index.proofs.index.NameIndex.terms_number.Goals as goal

pub returns : goal.returns
returns c =
    let map = c.args.self.now.terms in
    let names = c.args.names.now in
    let read : c.copied-number.result ≡ get terms_cmp map c.in_ok-key.key = grind (arith, common_steps) in
    c.terms_checked.ensures
    ∙ (ap (checked (are_those_terms (c.args.space, c.args.terms.now)) names.terms) read
    ∙ terms_found map names c.in_ok-key.key (c.args.space, c.args.terms.now) c.requires.1 c.in_ok-key.ensures)
