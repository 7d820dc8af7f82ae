use Rattle.std.proofs.Common.{◌≡◌, ap, ◌∙◌, subst, Some}
use Rattle.std.specs.Prelude.{IfOk, is_some}
use Rattle.shared_book.proofs.Found.{gift_now}
use Rattle.shared_book.proofs.shared.SharedBook.identity_of.Goals as goal

pub read-requires-clause-needs : goal.read-requires-clause-needs
read-requires-clause-needs g c = λ book found. ap is_some (gift_now c.args.self.now c.args.caller (g.B.Controller.roster book) (g.B.Controller.names book) (g.B.Controller.told book) found (g.met.B.Controller.told_names book) (g.met.B.Controller.no_draw book) (g.met.B.Controller.legal book) c.args.gift c.requires.given).0 ∙ c.requires.given

pub returns-clause-identity : goal.returns-clause-identity
returns-clause-identity g c =
    let it = c.read.ensures.found in
    subst (λ o. IfOk c.read.result.1 (λ found. o ≡ Some found)) (gift_now c.args.self.now c.args.caller (g.B.Controller.roster it.0) (g.B.Controller.names it.0) (g.B.Controller.told it.0) it.1 (g.met.B.Controller.told_names it.0) (g.met.B.Controller.no_draw it.0) (g.met.B.Controller.legal it.0) c.args.gift c.requires.given).1 it.3
