use Rattle.std.proofs.Common.{arith, ◌≤◌, ap, sym, subst, ◌∙◌, length, sum}
use Rattle.std.specs.Prelude.{All}
use Rattle.spaces.specs.declared.roster.Roster.{Roster}
use Rattle.nonce_words.specs.Views.{BookView, epoch_at}
use Rattle.auth_events.specs.Tables.{Tables}
use Rattle.auth_events.specs.Pages.{IsPage}
use Rattle.auth_events.specs.Book.{IsLegalPast, epoch}
use Rattle.auth_events.specs.Told.{past}
use Rattle.book_laws.proofs.Lifting.{past_legal}
use Rattle.book_laws.proofs.Sharing.{epochs_grown, named_adds, named_journal, named_owned, shares_named}
use Rattle.shared_book.proofs.locked.Locked.name.Goals as goal

pub returns-clause-adds : goal.returns-clause-adds
returns-clause-adds g c =
    let told = g.B.Controller.told c.args.self.book in
    let more = g.B.Controller.told c.name-number.new.book in
    named_adds c.args.self.callers c.args.caller told more c.requires.caller.0 c.requires.caller.1 c.name-number.ensures.named

pub invariant_of-result : goal.invariant_of-result
invariant_of-result g c =
    let book = c.args.self.book in
    let after = c.name-number.new.book in
    let told = g.B.Controller.told book in
    let more = g.B.Controller.told after in
    let done = c.name-number.ensures.named in
    let low = c.requires.caller.0 in
    let high = c.requires.caller.1 in
    let adds = named_adds c.args.self.callers c.args.caller told more low high done in
    let same = named_journal c.args.self.callers c.args.caller told more low high done in
    let named = g.met.B.Controller.told_names book in
    let roster = g.B.Controller.roster book in
    let names = g.B.Controller.names book in
    let mark = c.inform.ensures.book in
    let pages = subst (All (IsPage c.journal.result.now.requests)) c.journal.ensures.entries c.entries-entries.ensures.within.pages in
    let legal = subst (λ (t : Tables). IsLegalPast roster t (past told)) (sym named) (past_legal roster names told (g.met.B.Controller.no_draw book) (g.met.B.Controller.legal book)) in
    record {
      few = subst (λ (r : Roster). length r.requests ≤ 2048) (sym c.name-number.ensures.roster) c.args.self.few;
      owned = named_owned c.args.self.callers c.args.caller told more low high c.args.self.owned done;
      epochs = λ n some.
          ap (λ (b : BookView). epoch_at b.made n) mark
          ∙ (c.args.self.epochs n some
          ∙ (ap (λ (t : Tables). epoch t (past told) n) (sym named)
          ∙ (sym (epochs_grown roster c.args.caller n told more adds same legal c.journal.result.now.requests pages)
          ∙ ap (λ (t : Tables). epoch t (past more) n) (g.met.B.Controller.told_names after))));
      counted = omega (arith, ap (λ (b : BookView). sum b.made) mark, c.args.self.counted, ap length same);
      shares = shares_named c.args.caller told more c.args.self.shares done;
      rest = (c.args.self.rest.0 ∙ sym (ap (λ (b : BookView). b.table) mark), c.args.self.rest.1, c.args.self.rest.2);
    }
