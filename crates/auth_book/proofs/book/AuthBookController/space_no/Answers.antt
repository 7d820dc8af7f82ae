-- The number that was found is the space's.
use Rattle.std.proofs.Common.{◌∙◌, ap, sym, subst}
use Rattle.auth_events.specs.Tables.{Tables, space_number}
use Rattle.auth_events.proofs.Naming.{named_space}
use Rattle.name_index.specs.Found.{KnowsNames}
use Rattle.auth_book.proofs.book.AuthBookController.space_no.Goals as goal

pub space_number-requires : goal.space_number-requires
space_number-requires c =
    let s = c.args.self.now in
    subst (KnowsNames s.numbers) (sym c.names.ensures) s.knows

pub returns-in-Some-clause-number : goal.returns-in-Some-clause-number
returns-in-Some-clause-number c =
    let names = c.args.self.now.ledger.names in
    named_space names c.args.space.now c.in-Some.number
    (ap (λ (ns : Tables). space_number ns c.args.space.now) (sym c.names.ensures) ∙ (sym c.in_ok-number.ensures ∙ c.in-Some.is))
