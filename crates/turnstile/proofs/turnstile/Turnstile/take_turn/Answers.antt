use Rattle.std.proofs.Common.{rules, ap, ◌∙◌, sym, subst, ◌≡◌, ◌<◌, ◌∷◌, ◌%◌, ℕ, List, get_or, Some}
use Rattle.turnstile.specs.Names.{id_of}
use Rattle.turnstile.proofs.TurnRule.{takes_keep}
use Rattle.turnstile.proofs.turnstile.Turnstile.take_turn.Goals as goal

pub load-serving-requires : goal.load-serving-requires
load-serving-requires g c = let i = c.loop.invariant in (
  i.3 ∙ (c.requires.table ∙ sym (ap (λ s. s.turns) c.self.view_is)),
  search rules,
  takes_keep _ _ _ _ _ _ c.loop.turn.me i.0 (subst (λ m. 0 < m.0.parts) (sym i.1) c.requires.rests.3) (ap (λ m. m.0.tickets) i.1) (ap (λ m. m.0.holds) i.1 ∙ c.requires.rests.2),
)

pub take_out-requires-clause-took : goal.take_out-requires-clause-took
take_out-requires-clause-took g c =
    let i = c.loop.invariant in
    let e = c.load-serving.ensures.2 in
    let same : e.0 ≡ i.0 = ap (λ (l : List ℕ). get_or l 0 0) (sym e.1 ∙ ap (λ m. m.0.tickets) i.1) in
    let hit : c.load-serving.result ≡ e.0 % 18446744073709551616 = c.if-serving-ticket.true ∙ (i.2 ∙ ap (λ (n : ℕ). n % 18446744073709551616) (sym same)) in
    let t = e.2 hit in (
      t.0,
      ap (λ m. m.1) t.1 ∙ ap (λ l. (0, Some t.0) ∷ l) (ap (λ m. m.1) i.1),
      t.2.0 ∙ sym (ap (λ m. id_of m.0.history.table) t.1),
      t.2.1 ∙ sym (ap (λ m. m.0.history.passes) t.1),
      ap (λ m. m.0.fixed) t.1 ∙ t.2.2,
    )
