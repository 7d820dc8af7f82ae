use Rattle.std.proofs.Common.{sym, subst, ◌≡◌, ap}
use Rattle.auth_events.specs.Tables.{Tables}
use Rattle.auth_events.specs.Told.{told_terms}
use Rattle.book_laws.specs.Shares.{IsNamedBy}
use Rattle.book_laws.proofs.Sharing.{terms_named_by}
use Rattle.shared_book.proofs.Turns.{named_or_not}
use Rattle.shared_book.proofs.namings.TermsNoNaming.name.Goals as goal

pub returns-clause-named : goal.returns-clause-named
returns-clause-named g c =
    let told = g.B.Controller.told c.args.book.now in
    let more = g.B.Controller.told c.terms_no.new.self in
    let names = g.B.Controller.names c.args.book.now in
    let s = c.args.self.now.space in
    let terms = c.args.self.now.terms.now in
    let done = subst (λ (t : Tables). IsNamedBy c.args.caller told (told_terms c.args.caller t told s terms)) (g.met.B.Controller.told_names c.args.book.now) (terms_named_by c.args.caller told c.requires.within s terms c.requires.needs.2) in
    named_or_not c.args.caller told more (told_terms c.args.caller names told s terms) c.terms_no.result done c.terms_no.ensures.told c.terms_no.ensures.told_err
