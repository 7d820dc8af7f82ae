use Rattle.std.proofs.Common.{rules, ap, ◌∙◌, sym, subst, ◌≤◌, ℕ}
use Rattle.nonce_words.proofs.Keeps.{moves}
use Rattle.nonce_words.proofs.words.NonceWords.split_by.Goals as goal

pub split_seat-seat-requires : goal.split_seat-seat-requires
split_seat-seat-requires g c = (
  ap (λ d. d.table) c.from.view_is ∙ (c.requires.words ∙ sym (ap (λ w. w.table) c.self.view_is)),
  search rules,
  moves _ _ _ _ (subst (λ (i : ℕ). i ≤ c.from.inside.seat.me.0.quota) c.requires.quota.1 (subst (λ (i : ℕ). c.args.quota ≤ i) (sym (ap (λ d. d.quota) c.from.view_is)) c.requires.quota.0)),
)
