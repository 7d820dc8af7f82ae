use Rattle.std.proofs.Common.{◌≡◌, ◌≤◌, ◌++◌, List, [], ap, sym, subst, ◌∙◌, Some}
use Rattle.std.specs.Prelude.{All, IfOk}
use mathlib.Core.List.{IsPrefix}
use Rattle.turnstile.specs.Passes.{added}
use Rattle.auth_events.specs.declared.told.Told.{Told}
use Rattle.auth_events.specs.Tables.{Tables}
use Rattle.auth_events.specs.Told.{names_told}
use Rattle.std.proofs.lemmas.List.{append-nil}
use Rattle.book_laws.specs.Owners.{maker}
use Rattle.shared_book.specs.Callers.{CallerView, fixed_of}
use Rattle.shared_book.proofs.Turns.{adds_of, book_found, caller_kept, on-err, on-ok, prefix-trans, turn_items, turn_kept, turn_mine, turn_own}
use Rattle.shared_book.proofs.shared.SharedBook.name.Goals as goal

pub name-locked-requires-clause-caller : goal.name-locked-requires-clause-caller
name-locked-requires-clause-caller g c =
    let locked = c.enter-locked.result.0 in
    let whole = ap (λ (v : CallerView). v.fixed) c.caller.view_is ∙ c.requires.caller.fixed in
    c.caller.invariant.within _ c.enter-locked.ensures.fixed

pub name-locked-requires-clause-needs : goal.name-locked-requires-clause-needs
name-locked-requires-clause-needs g c =
    let locked = c.enter-locked.result.0 in
    let found = book_found c.args.self.now c.args.caller c.caller.inside.number c.caller.inside.pass c.caller.inside.seat c.caller.invariant c.caller.view_is c.requires.caller
    (g.B.Controller.roster locked.book) locked.callers locked.seat.table (g.B.Controller.told locked.book) c.enter-locked.ensures.known c.enter-locked.ensures.fixed locked.owned locked.shares in
    subst (g.N.Naming.needs c.args.naming.now locked.book) (sym (ap (λ (v : CallerView). v.number) c.caller.view_is)) (c.requires.needs locked.book found)

pub leave-pass-requires-clause-kept : goal.leave-pass-requires-clause-kept
leave-pass-requires-clause-kept g c =
    let told = g.B.Controller.told c.enter-locked.result.0.book in
    let more = g.B.Controller.told c.name-locked.result.0.book in
    let inside = c.enter-locked.result.1 in
    turn_kept c.caller.inside.number c.caller.inside.pass inside inside told more c.enter-locked.ensures.known c.caller.invariant.numbered c.enter-locked.ensures.seen c.enter-locked.ensures.mine c.enter-locked.ensures.pass.1 c.name-locked.ensures.adds

pub leave-pass-requires-clause-own : goal.leave-pass-requires-clause-own
leave-pass-requires-clause-own g c =
    let told = g.B.Controller.told c.enter-locked.result.0.book in
    let more = g.B.Controller.told c.name-locked.result.0.book in
    let inside = c.enter-locked.result.1 in
    turn_own c.caller.inside.number c.caller.inside.pass inside inside told more c.enter-locked.ensures.known c.caller.invariant.numbered c.enter-locked.ensures.seen c.enter-locked.ensures.mine c.enter-locked.ensures.pass.1 c.name-locked.ensures.adds

pub invariant_of-result : goal.invariant_of-result
invariant_of-result g c =
    let locked = c.enter-locked.result.0 in
    let after = c.name-locked.result.0.book in
    let told = g.B.Controller.told locked.book in
    let more = g.B.Controller.told after in
    let inside = c.enter-locked.result.1 in
    let number = c.caller.inside.number in
    let p = c.caller.inside.pass in
    let found = book_found c.args.self.now c.args.caller c.caller.inside.number c.caller.inside.pass c.caller.inside.seat c.caller.invariant c.caller.view_is c.requires.caller
    (g.B.Controller.roster locked.book) locked.callers locked.seat.table (g.B.Controller.told locked.book) c.enter-locked.ensures.known c.enter-locked.ensures.fixed locked.owned locked.shares in
    caller_kept number p c.leave-pass.result c.caller.inside.seat c.name-locked.new.seat c.args.self.now (g.B.Controller.roster after) (g.B.Controller.names after) more
    c.caller.invariant (ap (λ (v : CallerView). v.fixed) c.caller.view_is ∙ c.requires.caller.fixed) (c.name-locked.ensures.roster ∙ found.roster_is)
    (c.leave-pass.ensures.pass.1 ∙ c.enter-locked.ensures.pass.1) (c.leave-pass.ensures.pass.2 ∙ c.enter-locked.ensures.pass.2)
    c.leave-pass.ensures.seen
    (turn_items number p inside c.leave-pass.result told more c.enter-locked.ensures.known c.caller.invariant.numbered c.enter-locked.ensures.seen c.enter-locked.ensures.mine c.enter-locked.ensures.pass.1 c.name-locked.ensures.adds c.leave-pass.ensures.mine)
    c.name-locked.ensures.knows c.name-locked.ensures.seat (g.met.B.Controller.told_names after) (g.met.B.Controller.legal after) (g.met.B.Controller.few after)

pub returns-clause-number : goal.returns-clause-number
returns-clause-number g c =
    let after = c.name-locked.result.0.book in
    subst (λ (t : Tables). IfOk c.name-locked.result.1 (g.N.Naming.is_number c.args.naming.now t)) (sym (g.met.B.Controller.told_names after) ∙ ap names_told (sym c.leave-pass.ensures.seen)) c.name-locked.ensures.number

pub returns-clause-named : goal.returns-clause-named
returns-clause-named g c =
    let locked = c.enter-locked.result.0 in
    let told = g.B.Controller.told locked.book in
    let names = g.B.Controller.names locked.book in
    let more = g.B.Controller.told c.name-locked.result.0.book in
    let inside = c.enter-locked.result.1 in
    let number = c.caller.inside.number in
    let p = c.caller.inside.pass in
    let view = c.caller.view_is in
    let found = book_found c.args.self.now c.args.caller c.caller.inside.number c.caller.inside.pass c.caller.inside.seat c.caller.invariant c.caller.view_is c.requires.caller
    (g.B.Controller.roster locked.book) locked.callers locked.seat.table (g.B.Controller.told locked.book) c.enter-locked.ensures.known c.enter-locked.ensures.fixed locked.owned locked.shares in
    let news = g.N.Naming.news c.args.naming.now number names in
    let news_is = ap (λ k. g.N.Naming.news c.args.naming.now k names) (ap (λ (v : CallerView). v.number) view) ∙ ap (g.N.Naming.news c.args.naming.now c.args.caller.number) (sym (g.met.B.Controller.told_names locked.book)) in
    on-ok c.name-locked.result.1 (more ≡ told ++ news) _ (λ is. record {
      stood = told;
      kept = found.seen.kept;
      seen = c.leave-pass.ensures.seen ∙ (is ∙ ap (λ (l : List Told). told ++ l) news_is);
      mine =
          turn_mine number p inside c.leave-pass.result told more c.enter-locked.ensures.known c.caller.invariant.numbered c.enter-locked.ensures.seen c.enter-locked.ensures.mine c.enter-locked.ensures.pass.1 c.name-locked.ensures.adds c.leave-pass.ensures.mine
          ∙ (ap (λ (l : List Told). p.mine ++ l) (adds_of told more news number c.name-locked.ensures.adds is ∙ news_is)
          ∙ ap (λ (l : List Told). l ++ g.N.Naming.news c.args.naming.now c.args.caller.number (names_told told)) (ap (λ (v : CallerView). v.mine) view));
    }) c.name-locked.ensures.told

pub returns-clause-mine_err : goal.returns-clause-mine_err
returns-clause-mine_err g c =
    let told = g.B.Controller.told c.enter-locked.result.0.book in
    let more = g.B.Controller.told c.name-locked.result.0.book in
    let inside = c.enter-locked.result.1 in
    let number = c.caller.inside.number in
    let p = c.caller.inside.pass in
    on-err c.name-locked.result.1 (more ≡ told) _ (λ is.
    turn_mine number p inside c.leave-pass.result told more c.enter-locked.ensures.known c.caller.invariant.numbered c.enter-locked.ensures.seen c.enter-locked.ensures.mine c.enter-locked.ensures.pass.1 c.name-locked.ensures.adds c.leave-pass.ensures.mine
    ∙ (ap (λ (l : List Told). p.mine ++ l) (adds_of told more [] number c.name-locked.ensures.adds (is ∙ sym (append-nil told)))
    ∙ (append-nil p.mine ∙ ap (λ (v : CallerView). v.mine) c.caller.view_is))) c.name-locked.ensures.told_err

pub returns-clause-seen : goal.returns-clause-seen
returns-clause-seen g c =
    let locked = c.enter-locked.result.0 in
    let told = g.B.Controller.told locked.book in
    let more = g.B.Controller.told c.name-locked.result.0.book in
    let found = book_found c.args.self.now c.args.caller c.caller.inside.number c.caller.inside.pass c.caller.inside.seat c.caller.invariant c.caller.view_is c.requires.caller
    (g.B.Controller.roster locked.book) locked.callers locked.seat.table (g.B.Controller.told locked.book) c.enter-locked.ensures.known c.enter-locked.ensures.fixed locked.owned locked.shares in
    let adds = c.name-locked.ensures.adds in
    subst (IsPrefix c.args.caller.seen) (sym c.leave-pass.ensures.seen) (prefix-trans c.args.caller.seen told more found.seen.kept (adds.items, adds.grows))
