use Rattle.std.proofs.Common.{rules, arith, ap, ◌∙◌, sym, subst, ◌≡◌, ◌+◌, ◌++◌, length}
use Rattle.std.proofs.lemmas.List.{length-append}
use Rattle.turnstile.specs.Totals.{Each}
use Rattle.turnstile.proofs.HistoryRule.{publishes_keep, home_out}
use Rattle.turnstile.proofs.turnstile.Turnstile.leave_by.Goals as goal

pub fetch_add-requires : goal.fetch_add-requires
fetch_add-requires g c =
    let own = c.inside.invariant in
    let before = c.inside.inside.past.me.0 in
    let view = c.inside.view_is in
    let is = c.requires.told.0 ∙ ap (λ l. l ++ g.J.News.news) (sym (ap (λ p. p.seen) view)) in
    let long : c.length.result ≡ length before.seen + length g.J.News.news = c.length.ensures ∙ (ap length is ∙ length-append before.seen g.J.News.news) in (
      ap (λ p. p.history) view ∙ (c.requires.turn.0 ∙ sym (ap (λ t. t.history) c.self.view_is)),
      search rules,
      publishes_keep _ _ _ c.inside.inside.past.me g.J.News.news _ (omega (arith, c.from-more.ensures, own.0.3)) (omega (arith, own.0.1)) own.0.2
          (subst (λ n. Each (λ y. g.S.Told.by y ≡ n) g.J.News.news) (sym (ap (λ p. p.number) view)) c.requires.told.1)
          (omega (arith, c.from-more.ensures, own.0.3, c.length.type_inv)),
    )

pub split_seat-home-requires : goal.split_seat-home-requires
split_seat-home-requires g c = (
  c.fetch_add.ensures.0 ∙ (ap (λ p. p.history) c.inside.view_is ∙ (c.requires.turn.0 ∙ sym (ap (λ t. t.history) c.self.view_is))),
  search rules,
  home_out _ _ _ (ap (λ m. m.0.home) c.fetch_add.ensures.2 ∙ c.inside.invariant.0.1),
)

pub put_back-turn-requires-clause-deposit : goal.put_back-turn-requires-clause-deposit
put_back-turn-requires-clause-deposit g c =
    let own = c.inside.invariant in
    let view = c.inside.view_is in (
      c.split_seat-home.ensures.3 ∙ (c.fetch_add.ensures.0 ∙ sym own.2),
      ap (λ m. m.0.made) c.split_seat-home.ensures.4 ∙ (ap (λ m. m.0.made) c.fetch_add.ensures.2 ∙ own.3),
      ap (λ p. p.fixed) view ∙ c.requires.fixed,
    )
