-- The entries of the told list are the journal.
use Rattle.std.proofs.Common.{◌≡◌, sym, subst}
use Rattle.std.proofs.Math.Logic.{∥∥₁_elim}
use Rattle.std.specs.Prelude.{reverse, IsTrue}
use Rattle.auth_events.specs.Book.{allowed, answer}
use Rattle.auth_events.specs.Told.{retired_by, is_pending}
use Rattle.auth_events.proofs.Weave.{journal-weave, weave_after}
use Rattle.auth_events.proofs.Once.{same_told_prop}
use Rattle.auth_book.proofs.book.AuthBookController.call.Goals as goal

pub answer_call-requires : goal.answer_call-requires
answer_call-requires c =
    let l = c.args.self.now.ledger in
    subst (λ entries. IsTrue (allowed l.roster l.names (reverse entries) c.args.caller c.args.request c.args.call)) (journal-weave l.names l.made.items 0 l.journal.entries) c.requires

pub returns-clause-reply : goal.returns-clause-reply
returns-clause-reply c =
    let l = c.args.self.now.ledger in
    subst (λ entries. c.answer_call.result.reply ≡ answer l.roster l.names (reverse entries) c.args.request c.args.call) (sym (journal-weave l.names l.made.items 0 l.journal.entries)) c.answer_call.ensures.reply

pub returns-clause-told : goal.returns-clause-told
returns-clause-told c =
    let l = c.args.self.now.ledger in
    ∥∥₁_elim l.kept (same_told_prop _ _) (λ kept.
    rw (c.answer_call.ensures.made, c.answer_call.ensures.names, c.answer_call.ensures.journal)
    (weave_after l.names l.made.items l.journal.entries (record { caller = c.args.caller; request = c.args.request; call = c.args.call; reply = c.answer_call.result.reply }) (is_pending c.answer_call.result.reply) kept.before))

pub returns-clause-retired : goal.returns-clause-retired
returns-clause-retired c =
    let l = c.args.self.now.ledger in
    subst (λ entries. c.answer_call.result.retired ≡ retired_by l.names (reverse entries) (record { caller = c.args.caller; request = c.args.request; call = c.args.call; reply = c.answer_call.result.reply })) (sym (journal-weave l.names l.made.items 0 l.journal.entries)) c.answer_call.ensures.retired
