use Rattle.std.proofs.Common.{rules, arith, ap, ◌∙◌, sym, subst, ◌<◌}
use mathlib.Core.List.{IsPrefix}
use lib.ListN.{get_elem?}
use Rattle.turnstile.specs.Passes.{items_of}
use Rattle.turnstile.proofs.HistoryRule.{looks_keep, home_in}
use Rattle.turnstile.proofs.turnstile.Turnstile.enter.Goals as goal

pub join_seat-requires : goal.join_seat-requires
join_seat-requires g c =
    let home = c.take_turn-turn.result.1.tells in
    let own = c.pass.invariant in
    let at = ap (λ p. p.history) c.pass.view_is ∙ (c.requires.0 ∙ sym (ap (λ t. t.history) c.self.view_is)) in (
      at,
      c.take_turn-turn.ensures.deposit.0 ∙ (own.2 ∙ at),
      home.4,
      search rules,
      home_in _ _ _ _ _ own.0.1 home.1 home.2 home.3,
    )

pub load-requires : goal.load-requires
load-requires g c =
    let home = c.take_turn-turn.result.1.tells in
    let at = ap (λ p. p.history) c.pass.view_is ∙ (c.requires.0 ∙ sym (ap (λ t. t.history) c.self.view_is)) in (
      c.join_seat.ensures.0 ∙ at,
      search rules,
      looks_keep _ _ _ _ (let is = ap (λ m. m.0.home) c.join_seat.ensures.2 ∙ home.1 in omega arith),
    )

pub returns-clause-known : goal.returns-clause-known
returns-clause-known g c =
    let home = c.take_turn-turn.result.1.tells in
    let looked = c.load.ensures.2 in
    let before = ap (λ p. p.seen) c.pass.view_is in
    let view = c.pass.view_is in
    let by = g.S.Told.by in
    let log = g.S.Told.items c.take_turn-turn.result.1.state in
    let m = c.join_seat.ensures.2 in
    let sees = ap (λ m. m.0.seen) m ∙ sym home.0 in
    let old = looked.1 0 c.pass.inside.past.me.0.seen (ap (λ m. get_elem? m.0.olds 0) m) in
    let own = looked.2 (subst (λ n. 0 < n) (sym (ap (λ m. m.0.number) m)) c.pass.invariant.0.2) in (
      subst (λ l. IsPrefix l log) before (subst (λ l. IsPrefix c.pass.inside.past.me.0.seen l) sees old),
      sym (ap (λ p. p.mine) view) ∙ (sym (ap (λ m. m.0.mine) m) ∙ (own ∙ (ap (λ m. items_of by m.0.number c.join_seat.new.seat.me.0.seen) m ∙ (ap (λ l. items_of by c.pass.inside.past.me.0.number l) sees ∙ ap (λ p. items_of by p.number log) view)))),
    )
