-- Terms that have a number are found by it.
use Rattle.std.proofs.Common.{◌≡◌, sym, ap, ◌∙◌, Some}
use Rattle.std.proofs.lemmas.Bool.{false≢true}
use Rattle.std.specs.Prelude.{is_some, option_copied}
use Rattle.spaces.specs.Sites.{numbered}
use Rattle.auth_events.specs.declared.names.TermsName.{TermsName}
use Rattle.auth_events.proofs.Naming.{named_terms, terms_name_is, some_is}
use Rattle.auth_events.proofs.ledger.numbers_of.Goals as goal

pub unreachable-requires : goal.unreachable-requires
unreachable-requires c =
    let found = named_terms c.args.names.now c.args.space c.args.terms.now c.in_ok-number.number (sym c.in_ok-number.ensures) in
    false≢true (ap is_some (sym (ap option_copied c.in-None.is) ∙ (c.terms.ensures ∙ found.1)))

pub returns-clause-name : goal.returns-clause-name
returns-clause-name c =
    let found = named_terms c.args.names.now c.args.space c.args.terms.now c.in_ok-number.number (sym c.in_ok-number.ensures) in
    let here : numbered c.args.names.now.terms c.in_ok-number.number ≡ Some c.in-Some.name.now = sym c.terms.ensures ∙ ap option_copied c.in-Some.is in
    let same : c.in-Some.name.now ≡ found.0 = some_is c.in-Some.name.now found.0 (sym here ∙ found.1) in
    here ∙ ap Some (terms_name_is c.in-Some.name.now c.args.space c.args.terms.now (ap (λ (n : TermsName). n.space) same ∙ found.2) (ap (λ (n : TermsName). n.terms) same ∙ found.3))
