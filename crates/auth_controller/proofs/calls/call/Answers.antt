use Rattle.std.proofs.Common.{arith, ap, subst, length}
use Rattle.std.proofs.lemmas.List.{length-reverse}
use Rattle.auth_events.specs.declared.journal.Entry.{Entry}
use Rattle.auth_events.specs.Book.{IsLegalPast}
use Rattle.auth_events.specs.Told.{journal, past}
use Rattle.auth_events.specs.Tables.{Tables}
use Rattle.auth_events.proofs.RoomLemmas.{length-le-room}
use Rattle.book_laws.proofs.Lifting.{past_legal}
use Rattle.book_laws.proofs.Stepping.{epochs_after, out_within}
use Rattle.auth_controller.proofs.Retiring.{epochs_with, few_retirements}
use Rattle.auth_controller.proofs.calls.call.Goals as goal

pub retire_some-requires-clause-within : goal.retire_some-requires-clause-within
retire_some-requires-clause-within g c =
    let book = c.args.book.now in
    let names = g.B.Controller.names book in
    let told = g.B.Controller.told book in
    let more = g.B.Controller.told c.call-reply.new.self in
    let entry : Entry = record { caller = 1; request = c.args.request; call = c.args.call; reply = c.call-reply.result.reply } in
    let within = out_within names told more entry c.call-reply.result.retired c.call-reply.ensures.told c.call-reply.ensures.retired (g.met.B.Controller.are_names book) in
    let few = (g.met.B.Controller.few book).nonces in
    omega (arith, within, few, c.requires.words)

pub retire_some-requires-clause-few : goal.retire_some-requires-clause-few
retire_some-requires-clause-few g c =
    let book = c.args.book.now in
    let names = g.B.Controller.names book in
    let told = g.B.Controller.told book in
    let more = g.B.Controller.told c.call-reply.new.self in
    let entry : Entry = record { caller = 1; request = c.args.request; call = c.args.call; reply = c.call-reply.result.reply } in
    let within = out_within names told more entry c.call-reply.result.retired c.call-reply.ensures.told c.call-reply.ensures.retired (g.met.B.Controller.are_names book) in
    let few = (g.met.B.Controller.few book).nonces in
    let pages = c.journal.result.now in
    few_retirements names (past told) c.args.words.now (length (g.B.Controller.roster book).requests) c.call-reply.result.retired c.requires.epochs
    (omega (arith, within, few, c.requires.words))
    (omega (arith, length-reverse (journal told), ap length c.journal.ensures.entries, c.journal.ensures.requests, length-le-room pages.requests pages.entries c.entries-entries.ensures.within))
    c.requires.words c.nonces-nonces.ensures.few

pub returns-clause-epochs : goal.returns-clause-epochs
returns-clause-epochs g c =
    let book = c.args.book.now in
    let after = c.call-reply.new.self in
    let names = g.B.Controller.names book in
    let told = g.B.Controller.told book in
    let more = g.B.Controller.told after in
    let out = c.call-reply.result.retired in
    let entry : Entry = record { caller = 1; request = c.args.request; call = c.args.call; reply = c.call-reply.result.reply } in
    let within = out_within names told more entry out c.call-reply.ensures.told c.call-reply.ensures.retired (g.met.B.Controller.are_names book) in
    let few = (g.met.B.Controller.few book).nonces in
    let legal = subst (λ (t : Tables). IsLegalPast (g.B.Controller.roster after) t (past more)) c.call-reply.ensures.names
    (past_legal (g.B.Controller.roster after) (g.B.Controller.names after) more (g.met.B.Controller.no_draw after) (g.met.B.Controller.legal after)) in
    epochs_with names (g.B.Controller.names after) c.call-reply.ensures.names (past told) (past more) c.args.words.now c.retire_some.new.words out c.retire_some.ensures
    (omega (arith, within, few, c.requires.words))
    (λ n some. epochs_after names told more entry out c.call-reply.ensures.told c.call-reply.ensures.retired (g.B.Controller.roster after) legal n some)
    c.requires.epochs
