-- What is found among the givings is the identity, and the entries of the told list are the journal.
use Rattle.std.proofs.Common.{◌≡◌, ◌∙◌, ap, sym, subst, Some}
use Rattle.std.proofs.Math.Logic.{∥∥₁_elim}
use Rattle.std.proofs.lemmas.Bool.{false≢true}
use Rattle.std.specs.Prelude.{IfOk, IsTrue, is_some, option_copied, reverse}
use Rattle.auth_events.specs.Identities.{giving, identity}
use Rattle.auth_events.proofs.Given.{given_identity}
use Rattle.auth_events.proofs.Weave.{journal-weave}
use Rattle.auth_book.proofs.Booking.{copied_is}
use Rattle.auth_book.proofs.Gifts.{found_here}
use Rattle.auth_book.proofs.book.AuthBookController.identity_of.Goals as goal

pub unreachable-requires : goal.unreachable-requires
unreachable-requires c =
    let s = c.args.self.now in
    let l = s.ledger in
    let given = subst (λ entries. IsTrue (is_some (giving (reverse entries) c.args.gift))) (journal-weave l.names l.made.items 0 l.journal.entries) c.requires in
    let found = found_here l.roster l.names l.journal.entries s.gifts.givings c.args.gift c.roster-roster.result.now c.names-names.result.now s.given c.roster-roster.ensures c.names-names.ensures in
    ∥∥₁_elim l.kept (λ x y. absurd x) (λ kept.
    false≢true (ap is_some (sym (ap option_copied c.in-None.is) ∙ (c.identity.ensures ∙ found)) ∙ given_identity l.roster l.names (reverse l.journal.entries) c.args.gift kept.legal given))

pub returns : goal.returns
returns c =
    let s = c.args.self.now in
    let l = s.ledger in
    let found = found_here l.roster l.names l.journal.entries s.gifts.givings c.args.gift c.roster-roster.result.now c.names-names.result.now s.given c.roster-roster.ensures c.names-names.ensures in
    let is : identity l.roster l.names (reverse l.journal.entries) c.args.gift ≡ Some c.in-Some.found.now =
    sym found ∙ (sym c.identity.ensures ∙ ap option_copied c.in-Some.is) in
    subst (λ entries. IfOk c.copy_identity.result (λ copy. identity l.roster l.names (reverse entries) c.args.gift ≡ Some copy)) (sym (journal-weave l.names l.made.items 0 l.journal.entries))
    (copied_is c.copy_identity.result c.in-Some.found.now (identity l.roster l.names (reverse l.journal.entries) c.args.gift) is c.copy_identity.ensures)
