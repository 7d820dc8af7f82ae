use Rattle.std.proofs.Common.{arith, ◌≡◌, ◌-◌, ◌∷◌, ◌++◌, [], length, ap, ◌∙◌, sym, subst, vec_len, Some}
use Rattle.std.proofs.lemmas.Iterator.Adapters.{YieldsList-from_vec}
use Rattle.std.proofs.lemmas.Iterator.Consumers.{YieldsList-turn, YieldsList-end}
use Rattle.std.proofs.lemmas.List.{length_push}
use Rattle.atomic_table.proofs.Lists.{at_index}
use Rattle.turnstile.specs.Turns.{turn, fewer}
use Rattle.turnstile.specs.Names.{history_of, id_of}
use Rattle.turnstile.specs.Opening.{AreDealt}
use Rattle.turnstile.proofs.Totals.{at_each_snoc}
use Rattle.turnstile.proofs.TurnRule.{splits}
use Rattle.turnstile.proofs.opening.deal.Goals as goal

pub split_seat-turn-requires : goal.split_seat-turn-requires
split_seat-turn-requires g c =
    let i = c.loop-past.invariant in
    let start = c.into_iter-past-iterator.ensures in
    let t = YieldsList-turn (YieldsList-from_vec c.args.pasts.items start.into_iter_gives.0 (start.into_iter_gives.1 ∙ c.args.pasts.ok.0)) c.loop-past.yielded c.loop-past.past-iterator c.loop-past.yielded_by _ c.next.new.self c.in-Some.past c.in-Some.is c.next.ensures.steps in
    let parts = ap (λ m. m.0.parts) i.1 in
    (i.0, omega (arith, c.requires.table.1), splits _ _ _ _ _ _ (omega (arith, parts, t.0, c.args.pasts.ok.0)) (ap (λ m. m.0.tickets) i.1) (ap (λ m. m.0.holds) i.1))

pub invariant_of-push_reserved : goal.invariant_of-push_reserved
invariant_of-push_reserved g c =
    let i = c.loop-past.invariant in
    let e = c.split_seat-turn.ensures in
    let start = c.into_iter-past-iterator.ensures in
    let t = YieldsList-turn (YieldsList-from_vec c.args.pasts.items start.into_iter_gives.0 (start.into_iter_gives.1 ∙ c.args.pasts.ok.0)) c.loop-past.yielded c.loop-past.past-iterator c.loop-past.yielded_by _ c.next.new.self c.in-Some.past c.in-Some.is c.next.ensures.steps in
    let new = c.requires.pasts (length c.loop-past.yielded) c.in-Some.past (at_index _ _ _ t.0 t.1) in (
      (new.1, new.2, omega (arith, new.3)),
      (ap (λ m. m.1) e.4, ap (λ m. m.0.tickets) e.4, ap (λ m. m.0.holds) e.4, ap (λ m. m.0.parts) e.4),
      ap (λ m. id_of m.0.history.table) e.4 ∙ (ap (λ m. id_of m.0.history.table) i.1 ∙ sym new.0),
    )

pub loop-past-preserved : goal.loop-past-preserved
loop-past-preserved g c =
    let i = c.loop-past.invariant in
    let e = c.split_seat-turn.ensures in
    let start = c.into_iter-past-iterator.ensures in
    let t = YieldsList-turn (YieldsList-from_vec c.args.pasts.items start.into_iter_gives.0 (start.into_iter_gives.1 ∙ c.args.pasts.ok.0)) c.loop-past.yielded c.loop-past.past-iterator c.loop-past.yielded_by _ c.next.new.self c.in-Some.past c.in-Some.is c.next.ensures.steps in
    let key = c.args.turns.now.shared.key in
    let f = Some (g.S.Told.fixed key.state.value) in
    let n = length_push c.loop-past.yielded c.in-Some.past in
    let new = c.requires.pasts (length c.loop-past.yielded) c.in-Some.past (at_index _ _ _ t.0 t.1) in
    let p = c.push_reserved.ensures in
    let less : vec_len c.args.pasts - length c.loop-past.yielded - 1 ≡ vec_len c.args.pasts - (length (c.loop-past.yielded ++ c.in-Some.past ∷ [])) = omega (arith, n) in (
      e.0 ∙ i.0,
      e.2 ∙ (ap (λ m. (fewer m.0, m.1)) i.1 ∙ ap (λ k. (turn k [] 0 f (history_of key.passes key.home.value.table_id), [])) less),
      omega (arith, p.len, i.2, n),
      omega (arith, p.capacity, i.3),
      subst (λ l. AreDealt key.home.value.table_id c.args.turns.now.shared.table_id f l) (sym p.items) (at_each_snoc _ c.loop-past.passes.items (length c.loop-past.yielded) _ (sym c.loop-past.passes.ok.0 ∙ i.2)
          (new.0, e.3 ∙ i.0, new.3, new.4, new.5, ap (λ m. m.0.fixed) e.4 ∙ ap (λ m. m.0.fixed) i.1) i.4),
    )

pub returns-clause-len : goal.returns-clause-len
returns-clause-len g c =
    let start = c.into_iter-past-iterator.ensures in
    let t = YieldsList-end (YieldsList-from_vec c.args.pasts.items start.into_iter_gives.0 (start.into_iter_gives.1 ∙ c.args.pasts.ok.0)) c.loop-past.yielded c.loop-past.past-iterator c.loop-past.yielded_by _ c.next.new.self c.in-None.is c.next.ensures.steps in
    omega (arith, c.loop-past.invariant.2, t.1, c.args.pasts.ok.0)
