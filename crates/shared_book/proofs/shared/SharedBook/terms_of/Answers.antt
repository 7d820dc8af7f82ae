use Rattle.std.proofs.Common.{◌≡◌, ap, ◌∙◌, subst, Option, Some}
use Rattle.std.specs.Prelude.{IfOk, is_some, option_map}
use Rattle.auth_events.specs.declared.names.TermsName.{TermsName}
use Rattle.shared_book.proofs.Found.{terms_now}
use Rattle.shared_book.proofs.shared.SharedBook.terms_of.Goals as goal

pub read-requires-clause-needs : goal.read-requires-clause-needs
read-requires-clause-needs g c = λ book found. ap is_some (terms_now c.args.self.now c.args.caller (g.B.Controller.roster book) (g.B.Controller.names book) (g.B.Controller.told book) found (g.met.B.Controller.told_names book) c.args.terms c.requires.named) ∙ c.requires.named

pub returns-clause-terms : goal.returns-clause-terms
returns-clause-terms g c =
    let it = c.read.ensures.found in
    subst (λ (o : Option TermsName). IfOk c.read.result.1 (λ found. option_map (λ name. (name.terms, name.nonce)) o ≡ Some found)) (terms_now c.args.self.now c.args.caller (g.B.Controller.roster it.0) (g.B.Controller.names it.0) (g.B.Controller.told it.0) it.1 (g.met.B.Controller.told_names it.0) c.args.terms c.requires.named) it.3
