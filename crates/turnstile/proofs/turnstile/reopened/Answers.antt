use Rattle.std.proofs.Common.{Some, ap, sym, ◌∙◌}
use mathlib.Core.Option.{some-injective}
use Rattle.turnstile.proofs.TurnRule.{closes}
use Rattle.turnstile.proofs.Gathering.{some_same, some_not_none}
use Rattle.turnstile.proofs.turnstile.reopened.Goals as goal

pub unreachable-requires : goal.unreachable-requires
unreachable-requires g c =
    let t = c.close_with-closed.ensures.values.2 in
    let h = closes _ _ _ _ t.0 _ _ t.1.0 t.1.1 c.requires.all.0 c.requires.all.1 in
    let there = t.4 0 (Some h.0) h.1 in
    some_not_none h.0 (some-injective _ _ (sym there ∙ c.take-slot.ensures.value) ∙ c.in_default.is)

pub returns : goal.returns
returns g c =
    let t = c.close_with-closed.ensures.values.2 in
    let h = closes _ _ _ _ t.0 _ _ t.1.0 t.1.1 c.requires.all.0 c.requires.all.1 in
    let there = t.4 0 (Some h.0) h.1 in
    let same = some_same c.in-Some.deposit h.0 (sym c.in-Some.is ∙ some-injective _ _ (sym c.take-slot.ensures.value ∙ there)) in
    record { home = (ap (λ a. a.home.table_id) same ∙ h.2.0, ap (λ a. a.home.me.0.made) same ∙ h.2.1); fixed = ap (λ a. g.S.Told.fixed a.state) same ∙ sym (some_same _ _ h.2.2) }
