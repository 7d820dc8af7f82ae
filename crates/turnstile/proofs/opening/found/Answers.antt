use Rattle.std.proofs.Common.{arith, ap, ◌∙◌, sym, subst}
use Rattle.turnstile.specs.History.{founds}
use Rattle.turnstile.specs.Opening.{AreNewSeats}
use Rattle.turnstile.proofs.Totals.{at_each_snoc}
use Rattle.turnstile.proofs.HistoryRule.{opens, makes}
use Rattle.turnstile.proofs.opening.found.Goals as goal

pub of_words-requires : goal.of_words-requires
of_words-requires g c = opens _

pub split_seat-past-requires : goal.split_seat-past-requires
split_seat-past-requires g c = let i = c.loop-made.invariant in (i.0, omega (arith, i.5), makes _ _ _ (ap (λ m. m.0.home) i.1) (ap (λ m. m.0.seen) i.1))

pub loop-made-preserved : goal.loop-made-preserved
loop-made-preserved g c =
    let i = c.loop-made.invariant in
    let e = c.split_seat-past.ensures in
    let p = c.push_reserved.ensures in (
      e.0 ∙ i.0,
      e.2 ∙ ap (λ m. (founds m.0, m.1)) i.1,
      p.len ∙ omega (arith, i.2),
      omega (arith, p.capacity, i.3),
      subst (λ l. AreNewSeats c.in-Ok.history.shared.table_id l) (sym p.items) (at_each_snoc _ c.loop-made.pasts.items c.loop-made._made c.split_seat-past.result (sym c.loop-made.pasts.ok.0 ∙ i.2)
          (e.3 ∙ i.0, ap (λ m. m.1) e.4, ap (λ m. m.0.home) e.4, (let n = ap (λ m. m.0.number) e.4 in let had = ap (λ m. m.0.made) i.1 in omega arith), ap (λ m. m.0.seen) e.4, ap (λ m. m.0.mine) e.4) i.4),
      i.5,
    )
