use Rattle.std.proofs.Common.{rules, arith, ◌<◌, ◌∷◌, ap, sym, ◌∙◌, subst}
use mathlib.Core.List.{IsPrefix}
use lib.ListN.{get_elem?}
use Rattle.turnstile.specs.Totals.{Each}
use Rattle.turnstile.specs.History.{IsOwn}
use Rattle.turnstile.specs.Passes.{IsOf, PassView, items_of, IsIn, IsMade}
use Rattle.turnstile.proofs.Gathering.{parts_of, known_ends}
use Rattle.turnstile.proofs.Totals.{each_snoc, each_of_all, all_of_each}
use Rattle.turnstile.proofs.HistoryRule.{looks_keep, home_in}
use Rattle.turnstile.proofs.turnstile.Turnstile.close.Goals as goal

pub gather-past-requires : goal.gather-past-requires
gather-past-requires g c = parts_of (IsOf c.args.self) c.args.passes.list c.pop.new.self.items c.in-Some.first (sym (ap (λ p. p.list) c.passes.view_is) ∙ c.in-Some.ensures.items) (each_of_all (IsOf c.args.self) c.args.passes.list c.requires.passes)

pub join_seat-requires : goal.join_seat-requires
join_seat-requires g c =
    let home = c.reopened-state.result.tells in
    let own = c.gather-past.ensures.past in
    let mine = sym (ap (λ t. t.history) c.self.view_is) in (
      own.0 ∙ mine,
      c.reopened-state.ensures.home.0 ∙ c.self.invariant.3,
      home.4,
      search rules,
      home_in _ _ _ _ _ own.2 home.1 home.2 home.3,
    )

pub load-requires : goal.load-requires
load-requires g c =
    let home = c.reopened-state.result.tells in (
      c.join_seat.ensures.0 ∙ (c.gather-past.ensures.past.0 ∙ sym (ap (λ t. t.history) c.self.view_is)),
      search rules,
      looks_keep _ _ _ _ (let is = ap (λ m. m.0.home) c.join_seat.ensures.2 ∙ home.1 in omega arith),
    )

pub returns-clause-known : goal.returns-clause-known
returns-clause-known g c =
    let home = c.reopened-state.result.tells in
    let log = g.S.Told.items c.reopened-state.result.state in
    let by = g.S.Told.by in
    let v = c.gather-past.result.0.me.0 in
    let looked = c.load.ensures.2 in
    let m = c.join_seat.ensures.2 in
    let sees = ap (λ m. m.0.seen) m ∙ sym home.0 in
    let olds = subst (λ l. Each (λ o. IsPrefix o l) (v.seen ∷ v.olds)) sees (subst (λ l. Each (λ o. IsPrefix o c.join_seat.new.seat.me.0.seen) l) (ap (λ m. m.0.olds) m) looked.1) in
    let numbered = subst (λ n. 0 < n) (sym (ap (λ m. m.0.number) m)) c.gather-past.ensures.past.3 in
    let mine = sym (ap (λ m. m.0.mine) m) ∙ (looked.2 numbered ∙ (ap (λ m. items_of by m.0.number c.join_seat.new.seat.me.0.seen) m ∙ ap (λ l. items_of by v.number l) sees)) in
    let kept = subst (λ l. Each (IsOwn by l) v.kept) sees (subst (λ l. Each (IsOwn by c.join_seat.new.seat.me.0.seen) l) (ap (λ m. m.0.kept) m) looked.3) in
    let P : PassView g.row.S-Item.Denot g.row.S-Fixed.Denot → Type 0 = IsIn by log in
    let knows = c.gather-past.ensures.knows in
    all_of_each P c.args.passes.list (λ k x at. each_snoc P c.pop.new.self.items c.in-Some.first (known_ends by log v c.in-Some.first knows.0 olds mine kept) (λ j p there. known_ends by log v p (knows.1 j p there) olds mine kept) k x
    (ap (λ l. get_elem? l k) (sym c.in-Some.ensures.items ∙ ap (λ p. p.list) c.passes.view_is) ∙ at))

pub returns-clause-made : goal.returns-clause-made
returns-clause-made g c =
    let home = c.reopened-state.result.tells in
    let looked = c.load.ensures.2 in
    let m = c.join_seat.ensures.2 in
    let by = g.S.Told.by in
    let sees = ap (λ m. m.0.seen) m ∙ sym home.0 in
    let made = ap (λ m. m.0.made) m ∙ c.reopened-state.ensures.home.1 in
    let passes = ap (λ t. t.passes) c.self.view_is in
    all_of_each _ _ (subst (λ l. Each (λ item. IsMade c.args.self.passes (by item)) l) sees (subst (λ n. Each (λ item. IsMade n (by item)) c.join_seat.new.seat.me.0.seen) (made ∙ passes) looked.4))
