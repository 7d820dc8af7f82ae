use Rattle.std.proofs.Common.{◌≡◌, ◌++◌, List, refl, ap, sym, subst, ◌∙◌, Some}
use Rattle.std.specs.Prelude.{IsTrue}
use Rattle.spaces.specs.declared.roster.Roster.{Roster}
use Rattle.auth_events.specs.declared.journal.Entry.{Entry}
use Rattle.auth_events.specs.declared.told.Told.{Told}
use Rattle.auth_events.specs.Tables.{Tables}
use Rattle.auth_events.specs.Book.{allowed, answer}
use Rattle.auth_events.specs.Told.{names_told, past, told_after}
use Rattle.book_laws.proofs.Stepping.{adds_after, items_after}
use Rattle.shared_book.specs.declared.locked.Fixed.{Fixed}
use Rattle.shared_book.specs.Callers.{CallerView, fixed_of}
use Rattle.shared_book.proofs.Turns.{allowed_now, book_found, caller_kept, some_same, turn_items, turn_kept, turn_mine, turn_own}
use Rattle.shared_book.proofs.shared.SharedBook.call.Goals as goal

pub call-locked-requires-clause-allowed : goal.call-locked-requires-clause-allowed
call-locked-requires-clause-allowed g c =
    let locked = c.enter-locked.result.0 in
    let told = g.B.Controller.told locked.book in
    let names = g.B.Controller.names locked.book in
    let roster = g.B.Controller.roster locked.book in
    let found = book_found c.args.self.now c.args.caller c.caller.inside.number c.caller.inside.pass c.caller.inside.seat c.caller.invariant c.caller.view_is c.requires.caller
    (g.B.Controller.roster locked.book) locked.callers locked.seat.table (g.B.Controller.told locked.book) c.enter-locked.ensures.known c.enter-locked.ensures.fixed locked.owned locked.shares in
    subst (λ k. IsTrue (allowed roster names (past told) k c.args.request c.args.call)) (sym (ap (λ (v : CallerView). v.number) c.caller.view_is))
    (allowed_now c.args.self.now c.args.caller roster names told c.args.request c.args.call found (g.met.B.Controller.no_draw locked.book) (g.met.B.Controller.legal locked.book) (g.met.B.Controller.told_names locked.book) c.requires.own c.requires.allowed)

pub leave-pass-requires-clause-kept : goal.leave-pass-requires-clause-kept
leave-pass-requires-clause-kept g c =
    let told = g.B.Controller.told c.enter-locked.result.0.book in
    let more = g.B.Controller.told c.call-locked.result.0.book in
    let inside = c.enter-locked.result.1 in
    let entry : Entry = record { caller = c.caller.inside.number; request = c.args.request; call = c.args.call; reply = c.call-locked.result.1 } in
    turn_kept c.caller.inside.number c.caller.inside.pass inside inside told more c.enter-locked.ensures.known c.caller.invariant.numbered c.enter-locked.ensures.seen c.enter-locked.ensures.mine c.enter-locked.ensures.pass.1 (adds_after told more entry c.call-locked.ensures.told)

pub leave-pass-requires-clause-own : goal.leave-pass-requires-clause-own
leave-pass-requires-clause-own g c =
    let told = g.B.Controller.told c.enter-locked.result.0.book in
    let more = g.B.Controller.told c.call-locked.result.0.book in
    let inside = c.enter-locked.result.1 in
    let entry : Entry = record { caller = c.caller.inside.number; request = c.args.request; call = c.args.call; reply = c.call-locked.result.1 } in
    turn_own c.caller.inside.number c.caller.inside.pass inside inside told more c.enter-locked.ensures.known c.caller.invariant.numbered c.enter-locked.ensures.seen c.enter-locked.ensures.mine c.enter-locked.ensures.pass.1 (adds_after told more entry c.call-locked.ensures.told)

pub invariant_of-result : goal.invariant_of-result
invariant_of-result g c =
    let locked = c.enter-locked.result.0 in
    let after = c.call-locked.result.0.book in
    let told = g.B.Controller.told locked.book in
    let more = g.B.Controller.told after in
    let inside = c.enter-locked.result.1 in
    let number = c.caller.inside.number in
    let p = c.caller.inside.pass in
    let entry : Entry = record { caller = number; request = c.args.request; call = c.args.call; reply = c.call-locked.result.1 } in
    let found = book_found c.args.self.now c.args.caller c.caller.inside.number c.caller.inside.pass c.caller.inside.seat c.caller.invariant c.caller.view_is c.requires.caller
    (g.B.Controller.roster locked.book) locked.callers locked.seat.table (g.B.Controller.told locked.book) c.enter-locked.ensures.known c.enter-locked.ensures.fixed locked.owned locked.shares in
    caller_kept number p c.leave-pass.result c.caller.inside.seat c.call-locked.new.seat c.args.self.now (g.B.Controller.roster after) (g.B.Controller.names after) more
    c.caller.invariant (ap (λ (v : CallerView). v.fixed) c.caller.view_is ∙ c.requires.caller.fixed) (c.call-locked.ensures.roster ∙ found.roster_is)
    (c.leave-pass.ensures.pass.1 ∙ c.enter-locked.ensures.pass.1) (c.leave-pass.ensures.pass.2 ∙ c.enter-locked.ensures.pass.2)
    c.leave-pass.ensures.seen
    (turn_items number p inside c.leave-pass.result told more c.enter-locked.ensures.known c.caller.invariant.numbered c.enter-locked.ensures.seen c.enter-locked.ensures.mine c.enter-locked.ensures.pass.1 (adds_after told more entry c.call-locked.ensures.told) c.leave-pass.ensures.mine)
    c.call-locked.ensures.knows c.call-locked.ensures.seat (g.met.B.Controller.told_names after) (g.met.B.Controller.legal after) (g.met.B.Controller.few after)

pub returns-clause-turn : goal.returns-clause-turn
returns-clause-turn g c =
    let locked = c.enter-locked.result.0 in
    let told = g.B.Controller.told locked.book in
    let names = g.B.Controller.names locked.book in
    let roster = g.B.Controller.roster locked.book in
    let more = g.B.Controller.told c.call-locked.result.0.book in
    let inside = c.enter-locked.result.1 in
    let number = c.caller.inside.number in
    let p = c.caller.inside.pass in
    let view = c.caller.view_is in
    let numbers = ap (λ (v : CallerView). v.number) view in
    let named = g.met.B.Controller.told_names locked.book in
    let reply = c.call-locked.result.1 in
    let entry : Entry = record { caller = number; request = c.args.request; call = c.args.call; reply = reply } in
    let found = book_found c.args.self.now c.args.caller c.caller.inside.number c.caller.inside.pass c.caller.inside.seat c.caller.invariant c.caller.view_is c.requires.caller
    (g.B.Controller.roster locked.book) locked.callers locked.seat.table (g.B.Controller.told locked.book) c.enter-locked.ensures.known c.enter-locked.ensures.fixed locked.owned locked.shares in
    let may = allowed_now c.args.self.now c.args.caller roster names told c.args.request c.args.call found (g.met.B.Controller.no_draw locked.book) (g.met.B.Controller.legal locked.book) named c.requires.own c.requires.allowed in
    record {
      stood = told;
      kept = found.seen.kept;
      may =
          subst (λ (r : Roster). IsTrue (allowed r (names_told told) (past told) c.args.caller.number c.args.request c.args.call)) found.roster_is
          (subst (λ (t : Tables). IsTrue (allowed roster t (past told) c.args.caller.number c.args.request c.args.call)) (sym named) may);
      answered =
          c.call-locked.ensures.reply
          ∙ (ap (λ (r : Roster). answer r names (past told) c.args.request c.args.call) found.roster_is
          ∙ ap (λ (t : Tables). answer c.args.self.now.roster t (past told) c.args.request c.args.call) (sym named));
      seen =
          c.leave-pass.ensures.seen
          ∙ (c.call-locked.ensures.told ∙ ap (λ k. told_after told (record { caller = k; request = c.args.request; call = c.args.call; reply = reply })) numbers);
      mine =
          turn_mine number p inside c.leave-pass.result told more c.enter-locked.ensures.known c.caller.invariant.numbered c.enter-locked.ensures.seen c.enter-locked.ensures.mine c.enter-locked.ensures.pass.1 (adds_after told more entry c.call-locked.ensures.told) c.leave-pass.ensures.mine
          ∙ (items_after told more entry c.call-locked.ensures.told p.mine
          ∙ (ap (λ (l : List Told). told_after l entry) (ap (λ (v : CallerView). v.mine) view)
          ∙ ap (λ k. told_after c.args.caller.mine (record { caller = k; request = c.args.request; call = c.args.call; reply = reply })) numbers));
    }
