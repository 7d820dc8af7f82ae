use Rattle.std.proofs.Common.{◌≡◌, ◌++◌, List, [], ap, sym, subst, ◌∙◌, Some}
use Rattle.std.specs.Prelude.{All}
use mathlib.Core.List.{IsPrefix}
use Rattle.std.proofs.lemmas.List.{append-nil}
use Rattle.turnstile.specs.Passes.{added}
use Rattle.auth_events.specs.declared.told.Told.{Told}
use Rattle.book_laws.specs.Owners.{maker}
use Rattle.book_laws.proofs.Sharing.{adds_none}
use Rattle.shared_book.specs.Callers.{CallerView, IsBookOf, fixed_of}
use Rattle.shared_book.proofs.Turns.{adds_of, book_found, caller_kept, turn_items, turn_kept, turn_mine, turn_own}
use Rattle.shared_book.proofs.shared.SharedBook.read.Goals as goal

pub read-locked-requires-clause-needs : goal.read-locked-requires-clause-needs
read-locked-requires-clause-needs g c =
    let locked = c.enter-locked.result.0 in
    let found = book_found c.args.self.now c.args.caller c.caller.inside.number c.caller.inside.pass c.caller.inside.seat c.caller.invariant c.caller.view_is c.requires.caller
    (g.B.Controller.roster locked.book) locked.callers locked.seat.table (g.B.Controller.told locked.book) c.enter-locked.ensures.known c.enter-locked.ensures.fixed locked.owned locked.shares in
    c.requires.needs locked.book found

pub leave-pass-requires-clause-kept : goal.leave-pass-requires-clause-kept
leave-pass-requires-clause-kept g c =
    let told = g.B.Controller.told c.enter-locked.result.0.book in
    let inside = c.enter-locked.result.1 in
    let number = c.caller.inside.number in
    subst (λ b. IsPrefix inside.seen (g.B.Controller.told b)) (sym c.read-locked.ensures.book)
    (turn_kept number c.caller.inside.pass inside inside told told c.enter-locked.ensures.known c.caller.invariant.numbered c.enter-locked.ensures.seen c.enter-locked.ensures.mine c.enter-locked.ensures.pass.1 (adds_none number told))

pub leave-pass-requires-clause-own : goal.leave-pass-requires-clause-own
leave-pass-requires-clause-own g c =
    let told = g.B.Controller.told c.enter-locked.result.0.book in
    let inside = c.enter-locked.result.1 in
    let number = c.caller.inside.number in
    subst (λ b. All (λ item. maker item ≡ inside.number) (added inside.seen (g.B.Controller.told b))) (sym c.read-locked.ensures.book)
    (turn_own number c.caller.inside.pass inside inside told told c.enter-locked.ensures.known c.caller.invariant.numbered c.enter-locked.ensures.seen c.enter-locked.ensures.mine c.enter-locked.ensures.pass.1 (adds_none number told))

pub invariant_of-result : goal.invariant_of-result
invariant_of-result g c =
    let book = c.enter-locked.result.0.book in
    let told = g.B.Controller.told book in
    let inside = c.enter-locked.result.1 in
    let number = c.caller.inside.number in
    let p = c.caller.inside.pass in
    let locked = c.enter-locked.result.0 in
    let found = book_found c.args.self.now c.args.caller number p c.caller.inside.seat c.caller.invariant c.caller.view_is c.requires.caller
    (g.B.Controller.roster book) locked.callers locked.seat.table told c.enter-locked.ensures.known c.enter-locked.ensures.fixed locked.owned locked.shares in
    let same = ap (g.B.Controller.told) c.read-locked.ensures.book in
    caller_kept number p c.leave-pass.result c.caller.inside.seat c.read-locked.new.seat c.args.self.now (g.B.Controller.roster book) (g.B.Controller.names book) told
    c.caller.invariant (ap (λ (v : CallerView). v.fixed) c.caller.view_is ∙ c.requires.caller.fixed) found.roster_is
    (c.leave-pass.ensures.pass.1 ∙ c.enter-locked.ensures.pass.1) (c.leave-pass.ensures.pass.2 ∙ c.enter-locked.ensures.pass.2)
    (c.leave-pass.ensures.seen ∙ same)
    (turn_items number p inside c.leave-pass.result told told c.enter-locked.ensures.known c.caller.invariant.numbered c.enter-locked.ensures.seen c.enter-locked.ensures.mine c.enter-locked.ensures.pass.1 (adds_none number told)
    (c.leave-pass.ensures.mine ∙ ap (λ (l : List Told). inside.mine ++ added inside.seen l) same))
    c.read-locked.ensures.knows c.read-locked.ensures.seat (g.met.B.Controller.told_names book) (g.met.B.Controller.legal book) (g.met.B.Controller.few book)

pub returns-clause-found : goal.returns-clause-found
returns-clause-found g c =
    let locked = c.enter-locked.result.0 in
    let found = book_found c.args.self.now c.args.caller c.caller.inside.number c.caller.inside.pass c.caller.inside.seat c.caller.invariant c.caller.view_is c.requires.caller
    (g.B.Controller.roster locked.book) locked.callers locked.seat.table (g.B.Controller.told locked.book) c.enter-locked.ensures.known c.enter-locked.ensures.fixed locked.owned locked.shares in
    (locked.book, found, sym (c.leave-pass.ensures.seen ∙ ap (g.B.Controller.told) c.read-locked.ensures.book), c.read-locked.ensures.found)

pub returns-clause-seen : goal.returns-clause-seen
returns-clause-seen g c =
    let locked = c.enter-locked.result.0 in
    let found = book_found c.args.self.now c.args.caller c.caller.inside.number c.caller.inside.pass c.caller.inside.seat c.caller.invariant c.caller.view_is c.requires.caller
    (g.B.Controller.roster locked.book) locked.callers locked.seat.table (g.B.Controller.told locked.book) c.enter-locked.ensures.known c.enter-locked.ensures.fixed locked.owned locked.shares in
    subst (IsPrefix c.args.caller.seen) (sym (c.leave-pass.ensures.seen ∙ ap (g.B.Controller.told) c.read-locked.ensures.book)) found.seen.kept

pub returns-clause-mine : goal.returns-clause-mine
returns-clause-mine g c =
    let told = g.B.Controller.told c.enter-locked.result.0.book in
    let inside = c.enter-locked.result.1 in
    let number = c.caller.inside.number in
    let p = c.caller.inside.pass in
    turn_mine number p inside c.leave-pass.result told told c.enter-locked.ensures.known c.caller.invariant.numbered c.enter-locked.ensures.seen c.enter-locked.ensures.mine c.enter-locked.ensures.pass.1 (adds_none number told)
    (c.leave-pass.ensures.mine ∙ ap (λ b. inside.mine ++ added inside.seen (g.B.Controller.told b)) c.read-locked.ensures.book)
    ∙ (ap (λ (l : List Told). p.mine ++ l) (adds_of told told [] number (adds_none number told) (sym (append-nil told)))
    ∙ (append-nil p.mine ∙ ap (λ (v : CallerView). v.mine) c.caller.view_is))
