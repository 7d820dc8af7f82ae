use Rattle.std.proofs.Common.{sym, subst}
use Rattle.std.specs.Prelude.{All}
use Rattle.std.proofs.lemmas.List.Elements.{All-push}
use Rattle.shared_book.specs.Callers.{IsCallerOf}
use Rattle.worked_callers.proofs.lists.put_back.Goals as goal

pub returns-clause-all : goal.returns-clause-all
returns-clause-all g c =
    subst (All (IsCallerOf c.args.shared.now)) (sym c.in-Ok.ensures.ok)
    (All-push (IsCallerOf c.args.shared.now) c.args.callers.now.list c.args.caller c.requires.all c.requires.caller)
