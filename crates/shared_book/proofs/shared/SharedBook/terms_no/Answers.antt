use Rattle.shared_book.proofs.Found.{terms_left}
use Rattle.shared_book.proofs.shared.SharedBook.terms_no.Goals as goal

pub name-requires-clause-needs : goal.name-requires-clause-needs
name-requires-clause-needs g c = λ book found. terms_left c.args.self.now c.args.caller (g.B.Controller.roster book) (g.B.Controller.names book) (g.B.Controller.told book) found (g.met.B.Controller.told_names book) (g.met.B.Controller.no_draw book) (g.met.B.Controller.legal book) c.args.space c.args.terms.now c.requires.home c.requires.left
