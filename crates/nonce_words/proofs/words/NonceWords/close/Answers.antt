use Rattle.std.proofs.Common.{rules, arith, ap, ◌∙◌, sym, subst, length, ℕ, ◌+◌, ◌≡◌, ◌++◌, List, get_or}
use Rattle.std.proofs.lemmas.List.{length-append}
use Rattle.nonce_words.specs.Fresh.{IsFresh}
use Rattle.nonce_words.specs.Rule.{joined}
use Rattle.nonce_words.specs.declared.draw.NonceDraw.{NonceDraw}
use Rattle.nonce_words.specs.declared.rule.Tally.{Tally}
use Rattle.nonce_words.proofs.Keeps.{joins, closes}
use Rattle.nonce_words.proofs.words.NonceWords.close.Goals as goal

pub join_seat-requires : goal.join_seat-requires
join_seat-requires c =
    let words = sym (ap (λ w. w.table) c.self.view_is) in (
      ap (λ b. b.table) c.book.view_is ∙ (c.requires.words.0 ∙ words),
      ap (λ d. d.table) c.seat.view_is ∙ (c.requires.words.1 ∙ words),
      c.seat.invariant.1,
      search rules,
      joins _ _ _ _ _ c.seat.invariant.0,
    )

pub returns : goal.returns
returns c =
    let t = c.close_with.ensures.values.2 in
    let b : Tally = c.book.inside.seat.me.0 in
    let d : Tally = c.seat.inside.seat.me.0 in
    let v : Tally = c.join_seat.new.seat.me.0 in
    let is : v ≡ joined b d = ap (λ m. m.0) c.join_seat.ensures.2 in
    let whole : d.quota + length d.drawn ≡ 1073741824 = ap (λ s. s.quota + length s.drawn) c.seat.view_is ∙ c.requires.all in
    let all : v.quota + length v.drawn ≡ 1073741824 = ap (λ (z : Tally). z.quota + length z.drawn) is ∙ omega (arith, length-append b.drawn d.drawn, ap length c.book.invariant.2, c.book.invariant.1, whole) in
    let f : IsFresh v.drawn (λ n. get_or v.made n 0) = closes _ _ t.0 v t.1.0 t.1.1 (ap (λ (z : Tally). z.books) is ∙ c.book.invariant.0) all in
    let drawn : v.drawn ≡ c.args.seat.drawn = ap (λ (z : Tally). z.drawn) is ∙ (ap (λ (l : List NonceDraw). l ++ d.drawn) c.book.invariant.2 ∙ ap (λ s. s.drawn) c.seat.view_is) in
    let made : v.made ≡ c.args.book.made = ap (λ (z : Tally). z.made) is ∙ ap (λ s. s.made) c.book.view_is in
    subst (λ (l : List NonceDraw). IsFresh l (λ n. get_or c.args.book.made n 0)) drawn (subst (λ (l : List ℕ). IsFresh v.drawn (λ n. get_or l n 0)) made f)
