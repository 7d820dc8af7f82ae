use Rattle.std.proofs.Common.{sym, subst, ◌≡◌, ap}
use Rattle.auth_events.specs.Tables.{Tables}
use Rattle.auth_events.specs.Told.{told_space}
use Rattle.book_laws.specs.Shares.{IsNamedBy}
use Rattle.book_laws.proofs.Sharing.{space_named_by}
use Rattle.shared_book.proofs.Turns.{named_or_not}
use Rattle.shared_book.proofs.namings.SpaceNoNaming.name.Goals as goal

pub returns-clause-named : goal.returns-clause-named
returns-clause-named g c =
    let told = g.B.Controller.told c.args.book.now in
    let more = g.B.Controller.told c.space_no.new.self in
    let names = g.B.Controller.names c.args.book.now in
    let space = c.args.self.now.space.now in
    let done = subst (λ (t : Tables). IsNamedBy c.args.caller told (told_space c.args.caller t told space)) (g.met.B.Controller.told_names c.args.book.now) (space_named_by c.args.caller told c.requires.within space c.requires.needs.1) in
    named_or_not c.args.caller told more (told_space c.args.caller names told space) c.space_no.result done c.space_no.ensures.told c.space_no.ensures.told_err
