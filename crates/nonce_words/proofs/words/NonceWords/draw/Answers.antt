use Rattle.std.proofs.Common.{rules, ap, ◌∙◌, sym, subst, ◌<◌, ℕ}
use Rattle.nonce_words.proofs.Keeps.{draws_keep}
use Rattle.nonce_words.proofs.words.NonceWords.draw.Goals as goal

pub fetch_add-word-requires : goal.fetch_add-word-requires
fetch_add-word-requires c = (
  ap (λ d. d.table) c.seat.view_is ∙ (c.requires.words ∙ sym (ap (λ w. w.table) c.self.view_is)),
  search rules,
  draws_keep _ _ _ _ _ c.requires.nonce.0 (search rules) (subst (λ (i : ℕ). 0 < i) (sym (ap (λ d. d.quota) c.seat.view_is)) c.requires.quota),
)
