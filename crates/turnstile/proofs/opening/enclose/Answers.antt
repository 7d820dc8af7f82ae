use Rattle.std.proofs.Common.{ap, sym, Some}
use Rattle.turnstile.proofs.TurnRule.{opens_with}
use Rattle.turnstile.proofs.opening.enclose.Goals as goal

pub new-requires-2 : goal.new-requires-2
new-requires-2 g c = opens_with _ _ _ _ _ _ _ c.in-Ok.ensures.items c.push_reserved.ensures.items (sym c.requires.key.1, ap (λ m. m.0.made) c.requires.home.1, ap (λ s. Some (g.S.Told.fixed s)) c.requires.key.0) c.requires.small
