-- What was told is what the parts are.
use Rattle.std.proofs.Common.{sym, ◌∙◌}
use Rattle.auth_events.proofs.LedgerLaws.{told_names}
use Rattle.auth_events.proofs.Weave.{journal-weave}
use Rattle.auth_book.proofs.book.AuthBook.into_parts.Goals as goal

pub returns-clause-names : goal.returns-clause-names
returns-clause-names c =
    let l = c.args.self.ledger in
    c.into_parts.ensures.names ∙ sym (told_names l.roster l.names l.made.items l.journal.entries l.kept)

pub returns-clause-entries : goal.returns-clause-entries
returns-clause-entries c =
    let l = c.args.self.ledger in
    c.into_parts.ensures.entries ∙ sym (journal-weave l.names l.made.items 0 l.journal.entries)
