use Rattle.std.proofs.Common.{rules, ap, ◌∙◌, sym}
use Rattle.turnstile.proofs.TurnRule.{advances_at}
use Rattle.turnstile.proofs.turnstile.Turnstile.end_turn.Goals as goal

pub fetch_add-requires : goal.fetch_add-requires
fetch_add-requires g c =
    let t = c.requires.full in (
      c.requires.table ∙ sym (ap (λ t. t.turns) c.self.view_is),
      search rules,
      advances_at _ _ _ _ _ _ _ t.0 _ t.1 c.self.invariant.2 c.requires.holds.0 c.requires.holds.1 (t.2, t.3, t.4),
    )
