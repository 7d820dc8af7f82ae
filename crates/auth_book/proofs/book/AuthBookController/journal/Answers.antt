-- The entries of the told list are the journal.
use Rattle.std.proofs.Common.{sym, ◌∙◌}
use Rattle.auth_events.proofs.Weave.{journal-weave}
use Rattle.auth_book.proofs.book.AuthBookController.journal.Goals as goal

pub returns-clause-entries : goal.returns-clause-entries
returns-clause-entries c =
    let l = c.args.self.now.ledger in
    c.journal.ensures.entries ∙ sym (journal-weave l.names l.made.items 0 l.journal.entries)
