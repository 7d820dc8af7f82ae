use Rattle.std.proofs.Common.{rules, ap, ◌∙◌, sym, subst, get_or, sum, ◌+◌, ◌<◌, ℕ}
use Rattle.nonce_words.proofs.Totals.{sum-raised, raised-here, raised-else}
use Rattle.nonce_words.proofs.Keeps.{retires_keep}
use Rattle.nonce_words.proofs.words.NonceWords.retire.Goals as goal

pub fetch_add-requires : goal.fetch_add-requires
fetch_add-requires c = (
  ap (λ b. b.table) c.seat.view_is ∙ (c.requires.words ∙ sym (ap (λ w. w.table) c.self.view_is)),
  search rules,
  retires_keep _ _ _ _ _ c.requires.nonce.0 (search rules) c.seat.invariant.0 (subst (λ (i : ℕ). i < 2147483648) (sym (ap (λ b. sum b.made) c.seat.view_is)) c.requires.retirements),
)

pub returns-clause-retirements : goal.returns-clause-retirements
returns-clause-retirements c = ap (λ m. sum m.0.made) c.fetch_add.ensures.2 ∙ (sum-raised c.seat.inside.seat.me.0.made c.args.nonce ∙ ap (λ b. sum b.made + 1) c.seat.view_is)

pub returns-clause-nonce : goal.returns-clause-nonce
returns-clause-nonce c = ap (λ m. get_or m.0.made c.args.nonce 0) c.fetch_add.ensures.2 ∙ (raised-here c.seat.inside.seat.me.0.made c.args.nonce ∙ ap (λ b. get_or b.made c.args.nonce 0 + 1) c.seat.view_is)

pub returns-clause-others : goal.returns-clause-others
returns-clause-others c = λ n ne. ap (λ m. get_or m.0.made n 0) c.fetch_add.ensures.2 ∙ (raised-else c.seat.inside.seat.me.0.made c.args.nonce n ne ∙ ap (λ b. get_or b.made n 0) c.seat.view_is)
