use Rattle.std.proofs.Common.{sym, ap, ◌∙◌, true, false}
use Rattle.challenge_tokens.specs.Front.{is_over}
use Rattle.challenge_tokens.proofs.FrontLemmas.{blank_piece_is}
use Rattle.challenge_tokens.proofs.scan.blank_piece.Goals as goal

pub returns-then-is_over-clause-value : goal.returns-then-is_over-clause-value
returns-then-is_over-clause-value c =
    blank_piece_is c.args.text.now c.blank_len-n.result true c.blank_len-n.ensures.value
    (ap is_over (sym c.rest_of.ensures) ∙ sym c.is_over.ensures ∙ c.if-is_over.true)

pub returns-clause-value : goal.returns-clause-value
returns-clause-value c =
    blank_piece_is c.args.text.now c.blank_len-n.result false c.blank_len-n.ensures.value
    (ap is_over (sym c.rest_of.ensures) ∙ sym c.is_over.ensures ∙ c.if-is_over.false)
