-- Terms that have a number are found by it.
use Rattle.std.proofs.Common.{◌≡◌, ◌∙◌, Some, ap, sym, subst}
use Rattle.std.specs.Prelude.{IsTrue, is_some, option_map}
use Rattle.spaces.specs.Sites.{numbered}
use Rattle.auth_events.specs.declared.names.TermsName.{TermsName}
use Rattle.auth_events.specs.Tables.{Tables, terms_number}
use Rattle.auth_events.proofs.Naming.{named_terms}
use Rattle.name_index.specs.Found.{KnowsNames}
use Rattle.auth_book.proofs.Booking.{named_ref}
use Rattle.auth_book.proofs.book.AuthBookController.terms_no.Goals as goal

pub terms_number-requires : goal.terms_number-requires
terms_number-requires c =
    let s = c.args.self.now in
    subst (KnowsNames s.numbers) (sym c.names.ensures) s.knows

pub terms_ref-requires : goal.terms_ref-requires
terms_ref-requires c =
    let names = c.args.self.now.ledger.names in
    let is : terms_number names c.args.space c.args.terms.now ≡ Some c.in-Some.number =
    ap (λ (ns : Tables). terms_number ns c.args.space c.args.terms.now) (sym c.names.ensures) ∙ (sym c.in_ok-number.ensures ∙ c.in-Some.is) in
    subst (λ (ns : Tables). IsTrue (is_some (numbered ns.terms c.in-Some.number))) (sym c.names-in-Some.ensures)
    (ap is_some (named_terms names c.args.space c.args.terms.now c.in-Some.number is).1)

pub returns-in-Some-clause-number : goal.returns-in-Some-clause-number
returns-in-Some-clause-number c =
    let names = c.args.self.now.ledger.names in
    let is : terms_number names c.args.space c.args.terms.now ≡ Some c.in-Some.number =
    ap (λ (ns : Tables). terms_number ns c.args.space c.args.terms.now) (sym c.names.ensures) ∙ (sym c.in_ok-number.ensures ∙ c.in-Some.is) in
    named_ref names c.args.space c.args.terms.now c.in-Some.number c.terms_ref.result is c.terms_ref.ensures.terms
    (subst (λ (ns : Tables). option_map (λ (name : TermsName). name.nonce) (numbered ns.terms c.in-Some.number) ≡ Some c.terms_ref.result.nonce) c.names-in-Some.ensures c.terms_ref.ensures.nonce)
