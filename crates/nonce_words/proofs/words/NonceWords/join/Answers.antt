use Rattle.std.proofs.Common.{rules, ap, ◌∙◌, sym, get_or, max, ℕ}
use Rattle.nonce_words.proofs.Totals.{greater-get}
use Rattle.nonce_words.proofs.Keeps.{joins}
use Rattle.nonce_words.proofs.words.NonceWords.join.Goals as goal

pub join_seat-requires : goal.join_seat-requires
join_seat-requires c =
    let words = sym (ap (λ w. w.table) c.self.view_is) in (
      ap (λ d. d.table) c.into.view_is ∙ (c.requires.words.0 ∙ words),
      ap (λ d. d.table) c.from.view_is ∙ (c.requires.words.1 ∙ words),
      c.from.invariant.1,
      search rules,
      joins _ _ _ _ _ c.from.invariant.0,
    )

pub returns-clause-known : goal.returns-clause-known
returns-clause-known c = λ n.
    let into = ap (λ (i : ℕ). max i (get_or c.from.inside.seat.me.0.known n 0)) (ap (λ d. get_or d.known n 0) c.into.view_is) in
    let from = ap (λ (i : ℕ). max (get_or c.args.into.now.known n 0) i) (ap (λ d. get_or d.known n 0) c.from.view_is) in
    ap (λ m. get_or m.0.known n 0) c.join_seat.ensures.2 ∙ (greater-get c.into.inside.seat.me.0.known c.from.inside.seat.me.0.known n ∙ (into ∙ from))
