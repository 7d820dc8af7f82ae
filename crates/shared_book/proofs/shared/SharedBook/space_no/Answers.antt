use Rattle.shared_book.proofs.Found.{space_left}
use Rattle.shared_book.proofs.shared.SharedBook.space_no.Goals as goal

pub name-requires-clause-needs : goal.name-requires-clause-needs
name-requires-clause-needs g c = λ book found. space_left c.args.self.now c.args.caller (g.B.Controller.roster book) (g.B.Controller.names book) (g.B.Controller.told book) found (g.met.B.Controller.told_names book) (g.met.B.Controller.no_draw book) (g.met.B.Controller.legal book) c.args.space.now c.requires.left
