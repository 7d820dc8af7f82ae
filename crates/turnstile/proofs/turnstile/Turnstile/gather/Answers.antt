use Rattle.std.proofs.Common.{rules, arith, ◌∷◌, [], ap, sym, ◌∙◌, inl, subst}
use Rattle.turnstile.specs.Totals.{Each}
use Rattle.turnstile.specs.Knows.{Knows}
use Rattle.std.proofs.lemmas.List.{append-nil}
use mathlib.Core.Option.{some-ne-none}
use Rattle.turnstile.specs.Passes.{IsOf}
use Rattle.turnstile.proofs.Gathering.{each_more, knows_more, of_popped, moved}
use Rattle.turnstile.proofs.TurnRule.{together}
use Rattle.turnstile.proofs.HistoryRule.{joins}
use Rattle.turnstile.proofs.turnstile.Turnstile.gather.Goals as goal

pub loop-pass-init : goal.loop-pass-init
loop-pass-init g c =
    let own = c.first.invariant in
    let view = c.first.view_is in (
      [],
      sym (append-nil c.args.passes.items),
      ((λ k x e. absurd (some-ne-none x (sym e))), inl (sym (ap (λ p. p.number) view), sym (ap (λ p. p.seen) view), sym (ap (λ p. p.mine) view))),
      (ap (λ p. p.history) view ∙ c.requires.0.0, own.0.0, own.0.1, own.0.2),
      (ap (λ p. p.turns) view ∙ c.requires.0.1, own.1.0, own.1.1, own.1.2, omega (arith, own.1.3)),
    )

pub join_seat-requires : goal.join_seat-requires
join_seat-requires g c =
    let i = c.loop-pass.invariant in
    let own = c.pass.invariant in
    let mine = sym (ap (λ t. t.history) c.self.view_is) in
    let is = of_popped (IsOf c.args.self.now) c.args.passes.items c.loop-pass.passes.items c.pop.new.self.items i.0 c.in-Some.pass i.1 c.in-Some.ensures.items c.requires.1 in (
      i.3.0 ∙ mine,
      ap (λ p. p.history) c.pass.view_is ∙ (is.0 ∙ mine),
      own.0.0,
      search rules,
      joins _ _ _ _ _ own.0.1 own.0.2,
    )

pub join_seat-requires-in-Some : goal.join_seat-requires-in-Some
join_seat-requires-in-Some g c =
    let i = c.loop-pass.invariant in
    let own = c.pass.invariant in
    let mine = sym (ap (λ t. t.turns) c.self.view_is) in
    let is = of_popped (IsOf c.args.self.now) c.args.passes.items c.loop-pass.passes.items c.pop.new.self.items i.0 c.in-Some.pass i.1 c.in-Some.ensures.items c.requires.1 in (
      i.4.0 ∙ mine,
      ap (λ p. p.turns) c.pass.view_is ∙ (is.1 ∙ mine),
      own.1.0,
      search rules,
      together _ _ _ _ _ _ _ _ (omega (arith, i.4.4)) own.1.1 own.1.2,
    )

pub loop-pass-preserved : goal.loop-pass-preserved
loop-pass-preserved g c =
    let i = c.loop-pass.invariant in
    let own = c.pass.invariant in
    let view = c.pass.view_is in
    let e = c.join_seat.ensures in
    let e' = c.join_seat-in-Some.ensures in
    let v = c.loop-pass.past.me.0 in
    let w = c.pass.inside.past.me.0 in
    let is = sym (ap (λ m. m.0) e.2) in (
      c.in-Some.pass ∷ i.0,
      moved c.args.passes.items c.loop-pass.passes.items c.pop.new.self.items i.0 c.in-Some.pass i.1 c.in-Some.ensures.items,
      (subst (λ z. Each (Knows z) (c.in-Some.pass ∷ i.0)) is (each_more v w c.in-Some.pass i.0 i.2.0 (ap (λ p. p.number) view) (ap (λ p. p.seen) view) (ap (λ p. p.mine) view)), subst (λ z. Knows z c.args.first) is (knows_more v w c.args.first i.2.1)),
      (e.0 ∙ i.3.0, ap (λ m. m.1) e.2 ∙ i.3.1, ap (λ m. m.0.home) e.2 ∙ i.3.2, (let n = ap (λ m. m.0.number) e.2 in omega (arith, i.3.3))),
      (
        e'.0 ∙ i.4.0,
        ap (λ m. m.1) e'.2 ∙ i.4.1,
        ap (λ m. m.0.tickets) e'.2 ∙ i.4.2,
        ap (λ m. m.0.holds) e'.2 ∙ i.4.3,
        (let n = ap (λ m. m.0.parts) e'.2 in omega (arith, i.4.4, own.1.3)),
      ),
    )
