use Rattle.std.proofs.Common.{◌++◌, ◌∷◌, []}
use Rattle.auth_events.specs.declared.told.Told.TheVariants.{TextNamed}
use Rattle.book_laws.proofs.Sharing.{text_named_by}
use Rattle.shared_book.proofs.Turns.{named_or_not}
use Rattle.shared_book.proofs.namings.TextNoNaming.name.Goals as goal

pub returns-clause-named : goal.returns-clause-named
returns-clause-named g c =
    let told = g.B.Controller.told c.args.book.now in
    let more = g.B.Controller.told c.text_no.new.self in
    let text = c.args.self.now.identity.now in
    named_or_not c.args.caller told more (told ++ TextNamed c.args.caller text ∷ []) c.text_no.result (text_named_by c.args.caller told c.requires.within text c.requires.needs.1) c.text_no.ensures.told c.text_no.ensures.told_err
