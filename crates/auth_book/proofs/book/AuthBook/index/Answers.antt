-- The entries of the told list are the journal.
use Rattle.std.proofs.Common.{sym, subst}
use Rattle.std.specs.Prelude.{reverse}
use Rattle.auth_events.proofs.Weave.{journal-weave}
use Rattle.auth_book.specs.Indices.{StandsFor}
use Rattle.auth_book.proofs.book.AuthBook.index.Goals as goal

pub returns-clause-stands : goal.returns-clause-stands
returns-clause-stands c =
    let s = c.args.self.now in
    let l = c.args.self.now.ledger in
    subst (λ entries. ∥ StandsFor s.index l.roster l.names (reverse entries) ∥₁) (sym (journal-weave l.names l.made.items 0 l.journal.entries)) s.stands
