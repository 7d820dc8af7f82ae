use Rattle.std.proofs.Common.{◌==◌, true, false, Some, None, refl, ap, sym, ◌∙◌, drop}
use Rattle.std.specs.List.{prefix_len}
use Rattle.auth_text.specs.Text.{folded}
use Rattle.field_lists.specs.Blanks.{is_blank}
use Rattle.challenge_tokens.specs.Front.{blank_piece, is_over, value_after}
use Rattle.challenge_tokens.proofs.FrontLemmas.{blank_piece_is}
use Rattle.challenge_tokens.proofs.ArgumentLemmas.{token_ends, token_fails, either_param}
use Rattle.challenge_tokens.proofs.head.with_either.Goals as goal

pub returns-then-is_over-clause-value : goal.returns-then-is_over-clause-value
returns-then-is_over-clause-value c =
    let text = c.args.text.now in
    let padding = c.equals_len-equals.ensures.value ∙ ap (prefix_len (λ b. b == 61)) c.rest_of-rest.ensures in
    let more = c.rest_of-more.ensures ∙ ap (drop c.equals_len-equals.result) c.rest_of-rest.ensures in
    let over = ap is_over (sym c.rest_of-behind.ensures) ∙ sym c.is_over.ensures ∙ c.if-is_over.true in
    token_ends text c.args.scheme c.in_ok-token.token c.args.n c.equals_len-equals.result c.blank_len-blank.result
    c.requires.token padding c.requires.some (c.in_ok-token.ensures ∙ c.front_of.ensures)
    (blank_piece_is c.rest_of-more.result.now c.blank_len-blank.result true c.blank_len-blank.ensures.value over ∙ ap blank_piece more)

pub returns-in_ok-name-in-Some-clause-value : goal.returns-in_ok-name-in-Some-clause-value
returns-in_ok-name-in-Some-clause-value c =
    let text = c.args.text.now in
    let padding = c.equals_len-equals.ensures.value ∙ ap (prefix_len (λ b. b == 61)) c.rest_of-rest.ensures in
    let more = c.rest_of-more.ensures ∙ ap (drop c.equals_len-equals.result) c.rest_of-rest.ensures in
    let over = ap is_over (sym c.rest_of-behind.ensures) ∙ sym c.is_over.ensures ∙ c.if-is_over.false in
    either_param text c.args.scheme c.in_ok-name-in-Some.name c.args.n c.equals_len-equals.result c.blank_len-blank.result
    (Some (c.in-Some.value, c.in-Some.len)) c.requires.name c.requires.some padding
    (c.blank_len-blank.ensures.value ∙ ap (prefix_len is_blank) more)
    (c.in_ok-name-in-Some.ensures ∙ ap folded c.front_of-in-Some.ensures)
    (sym c.in-Some.is ∙ c.in_ok-value.ensures.value
    ∙ ap (value_after c.equals_len-equals.result) (c.rest_of-behind.ensures ∙ ap (drop c.blank_len-blank.result) more))
    ∙ token_fails text c.args.scheme c.args.n c.equals_len-equals.result c.requires.token padding c.requires.some
    (blank_piece_is c.rest_of-more.result.now c.blank_len-blank.result false c.blank_len-blank.ensures.value over ∙ ap blank_piece more)

pub returns-in-None-clause-value : goal.returns-in-None-clause-value
returns-in-None-clause-value c =
    let text = c.args.text.now in
    let padding = c.equals_len-equals.ensures.value ∙ ap (prefix_len (λ b. b == 61)) c.rest_of-rest.ensures in
    let more = c.rest_of-more.ensures ∙ ap (drop c.equals_len-equals.result) c.rest_of-rest.ensures in
    let over = ap is_over (sym c.rest_of-behind.ensures) ∙ sym c.is_over.ensures ∙ c.if-is_over.false in
    either_param text c.args.scheme _ c.args.n c.equals_len-equals.result c.blank_len-blank.result
    None c.requires.name c.requires.some padding
    (c.blank_len-blank.ensures.value ∙ ap (prefix_len is_blank) more)
    refl
    (sym c.in-None.is ∙ c.in_ok-value.ensures.value
    ∙ ap (value_after c.equals_len-equals.result) (c.rest_of-behind.ensures ∙ ap (drop c.blank_len-blank.result) more))
    ∙ token_fails text c.args.scheme c.args.n c.equals_len-equals.result c.requires.token padding c.requires.some
    (blank_piece_is c.rest_of-more.result.now c.blank_len-blank.result false c.blank_len-blank.ensures.value over ∙ ap blank_piece more)
