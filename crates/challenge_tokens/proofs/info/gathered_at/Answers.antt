use Rattle.std.proofs.Common.{sym, ◌∙◌}
use Rattle.challenge_tokens.proofs.SeamLemmas.{form_lower}
use Rattle.challenge_tokens.proofs.InfoLemmas.{bad_gathered}
use Rattle.challenge_tokens.proofs.info.gathered_at.Goals as goal

pub gathered_by-requires : goal.gathered_by-requires
gathered_by-requires c = form_lower c.args.text.now c.in-Some-2.form c.in-Some-2.n (sym c.in-Some-2.is ∙ c.in_ok-form.ensures.value)

pub returns-in-None : goal.returns-in-None
returns-in-None c =
    bad_gathered c.args.so_far c.args.text.now (sym c.in_default.is ∙ c.blank_piece.ensures.value) (sym c.in-None.is ∙ c.in_ok-form.ensures.value)
