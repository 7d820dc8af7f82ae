use Rattle.std.proofs.Common.{rules, ap, ◌∙◌, sym, get_or, max, ℕ}
use Rattle.nonce_words.proofs.Totals.{greater-get}
use Rattle.nonce_words.proofs.Keeps.{notes, joins}
use Rattle.nonce_words.proofs.laws.inform.Goals as goal

pub split_seat-note-requires : goal.split_seat-note-requires
split_seat-note-requires c = (ap (λ b. b.table) c.book.view_is ∙ (c.requires.words.0 ∙ sym (ap (λ w. w.table) c.words.view_is)), search rules, notes _ _ _)

pub join_seat-requires : goal.join_seat-requires
join_seat-requires c =
    let words = sym (ap (λ w. w.table) c.words.view_is) in
    let note = c.split_seat-note.ensures in (
      ap (λ d. d.table) c.seat.view_is ∙ (c.requires.words.1 ∙ words),
      note.3 ∙ (ap (λ b. b.table) c.book.view_is ∙ (c.requires.words.0 ∙ words)),
      ap (λ m. m.1) note.4,
      search rules,
      joins _ _ _ _ _ (ap (λ m. m.0.books) note.4),
    )

pub returns-clause-known : goal.returns-clause-known
returns-clause-known c = λ n.
    let old = ap (λ (i : ℕ). max i (get_or c.split_seat-note.result.me.0.known n 0)) (ap (λ d. get_or d.known n 0) c.seat.view_is) in
    let made = ap (λ (i : ℕ). max (get_or c.args.seat.now.known n 0) i) (ap (λ m. get_or m.0.known n 0) c.split_seat-note.ensures.4 ∙ ap (λ b. get_or b.made n 0) c.book.view_is) in
    ap (λ m. get_or m.0.known n 0) c.join_seat.ensures.2 ∙ (greater-get c.seat.inside.seat.me.0.known c.split_seat-note.result.me.0.known n ∙ (old ∙ made))
