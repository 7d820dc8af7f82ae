use Rattle.std.proofs.Common.{ap, ◌∙◌, sym, subst}
use Rattle.turnstile.specs.Opening.{AreNewSeats}
use Rattle.turnstile.proofs.Totals.{at_get}
use Rattle.turnstile.proofs.turnstile.Turnstile.new.Goals as goal

pub deal-list-requires-clause-pasts : goal.deal-list-requires-clause-pasts
deal-list-requires-clause-pasts g c =
    let key = c.in-Ok-enclose.ensures.ok.2 in
    let home = ap (λ s. s.table_id) c.of-2.ensures in
    subst (λ z. AreNewSeats z c.in-Some.pasts.items) (sym (ap (λ k. k.home.value.table_id) key ∙ (home ∙ c.in-Some.ensures.home.0))) c.in-Some.ensures.pasts.1

pub returns-clause-passes : goal.returns-clause-passes
returns-clause-passes g c k p there =
    let key = c.in-Ok-enclose.ensures.ok.2 in
    let home = ap (λ s. s.table_id) c.of-2.ensures in
    let dealt = c.deal-list.ensures.each k p (at_get _ k p there) in
    ((dealt.0 ∙ (ap (λ k. k.home.value.table_id) key ∙ (home ∙ c.in-Some.ensures.home.0)), dealt.1), dealt.2, dealt.3, dealt.4, dealt.5)
