use Rattle.std.proofs.Common.{rules, ap, ◌∙◌, sym, subst, refl, ◌<◌}
use Rattle.turnstile.proofs.TurnRule.{draws_at_keep}
use Rattle.turnstile.proofs.turnstile.Turnstile.draw_ticket.Goals as goal

pub compare_exchange-found-requires : goal.compare_exchange-found-requires
compare_exchange-found-requires g c = let i = c.loop.invariant in (
  i.1 ∙ (c.requires.table ∙ sym (ap (λ s. s.turns) c.self.view_is)),
  search rules,
  draws_at_keep _ _ _ _ _ _ c.loop.turn.me _ _ refl (subst (λ m. 0 < m.0.parts) (sym i.0) c.requires.rests.3) (ap (λ m. m.0.tickets) i.0 ∙ c.requires.rests.1) (ap (λ m. m.0.holds) i.0 ∙ c.requires.rests.2),
)
