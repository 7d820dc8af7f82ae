use Rattle.std.proofs.Common.{◌≡◌, Some, None, refl, ap, sym, ◌∙◌, arith}
use Rattle.challenge_tokens.specs.Front.{blank_piece}
use Rattle.challenge_tokens.proofs.ReadLemmas.{no_token, token_read}
use Rattle.challenge_tokens.proofs.scan.token_value.Goals as goal

pub returns-then-n-eq0-clause-value : goal.returns-then-n-eq0-clause-value
returns-then-n-eq0-clause-value c =
    let none : c.token_len-n.result ≡ 0 = omega arith in
    sym (no_token c.args.text.now (sym c.token_len-n.ensures.value ∙ none) c.requires)

pub returns-in_ok-from_slice-in-Some-clause-value : goal.returns-in_ok-from_slice-in-Some-clause-value
returns-in_ok-from_slice-in-Some-clause-value c =
    token_read c.args.text.now c.in_ok-from_slice-in-Some.field-0 c.token_len-n.result (Some c.in-Some.blank)
    c.token_len-n.ensures.value (omega arith) c.requires (c.in_ok-from_slice-in-Some.ensures ∙ c.front_of.ensures)
    (sym c.in-Some.is ∙ c.blank_piece.ensures.value ∙ ap blank_piece c.rest_of.ensures)

pub returns-in-None-clause-value : goal.returns-in-None-clause-value
returns-in-None-clause-value c =
    token_read c.args.text.now _ c.token_len-n.result None
    c.token_len-n.ensures.value (omega arith) c.requires refl
    (sym c.in-None.is ∙ c.blank_piece.ensures.value ∙ ap blank_piece c.rest_of.ensures)
