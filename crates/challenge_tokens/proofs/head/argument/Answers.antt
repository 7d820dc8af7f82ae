use Rattle.std.proofs.Common.{◌≡◌, ℕ, ◌==◌, Option, IfOk, subst, ap, sym, ◌∙◌, drop, arith}
use Rattle.std.specs.List.{prefix_len}
use Rattle.challenge_tokens.specs.declared.piece.Form.{Form}
use Rattle.challenge_tokens.specs.Forms.{is_token68_byte, token_len}
use Rattle.challenge_tokens.specs.Front.{sized, unless_bad}
use Rattle.challenge_tokens.proofs.ArgumentLemmas.{only_token68, only_name, common_token68, common_token, no_argument}
use Rattle.challenge_tokens.proofs.head.argument.Goals as goal

pub returns-then-token-gt0-clause-value : goal.returns-then-token-gt0-clause-value
returns-then-token-gt0-clause-value c =
    let P = λ (x : Option (Form × ℕ)). IfOk c.with_token68.result (λ read. read ≡ x) in
    subst P
    (only_token68 c.args.text.now c.args.scheme c.common_len-common.result c.token68_len-token.result c.equals_len-padding.result
    c.common_len-common.ensures.value
    (c.token68_len-token.ensures.value ∙ ap (prefix_len is_token68_byte) c.rest_of-rest.ensures)
    c.if-token-gt0.true
    (c.equals_len-padding.ensures.value ∙ ap (prefix_len (λ b. b == 61)) (c.rest_of.ensures ∙ ap (drop c.token68_len-token.result) c.rest_of-rest.ensures)))
    c.with_token68.ensures.value

pub with_param-requires-clause-name : goal.with_param-requires-clause-name
with_param-requires-clause-name c =
    common_token c.args.text.now c.common_len-common.result c.token_len-name.result c.common_len-common.ensures.value
    (c.token_len-name.ensures.value ∙ ap token_len c.rest_of-rest.ensures)

pub returns-then-name-gt0-clause-value : goal.returns-then-name-gt0-clause-value
returns-then-name-gt0-clause-value c =
    let P = λ (x : Option (Form × ℕ)). IfOk c.with_param.result (λ read. read ≡ x) in
    subst P
    (only_name c.args.text.now c.args.scheme c.common_len-common.result c.token_len-name.result c.common_len-common.ensures.value
    (c.token_len-name.ensures.value ∙ ap token_len c.rest_of-rest.ensures) c.if-name-gt0.true)
    c.with_param.ensures.value

pub returns-then-common-eq0-clause-value : goal.returns-then-common-eq0-clause-value
returns-then-common-eq0-clause-value c =
    let text = c.args.text.now in
    let token = common_token68 text c.common_len-common.result c.token68_len-token.result c.common_len-common.ensures.value
    (c.token68_len-token.ensures.value ∙ ap (prefix_len is_token68_byte) c.rest_of-rest.ensures) in
    let name = common_token text c.common_len-common.result c.token_len-name.result c.common_len-common.ensures.value
    (c.token_len-name.ensures.value ∙ ap token_len c.rest_of-rest.ensures) in
    sym (ap (λ (f : Form). sized (unless_bad f) text)
    (no_argument c.args.scheme text (omega (arith, token, c.if-token-gt0.false, c.if-common-eq0.true)) (omega (arith, name, c.if-name-gt0.false, c.if-common-eq0.true))))

pub with_either-requires-clause-name : goal.with_either-requires-clause-name
with_either-requires-clause-name c =
    let name = common_token c.args.text.now c.common_len-common.result c.token_len-name.result c.common_len-common.ensures.value
    (c.token_len-name.ensures.value ∙ ap token_len c.rest_of-rest.ensures) in
    omega (arith, name, c.if-name-gt0.false)

pub with_either-requires-clause-token : goal.with_either-requires-clause-token
with_either-requires-clause-token c =
    let token = common_token68 c.args.text.now c.common_len-common.result c.token68_len-token.result c.common_len-common.ensures.value
    (c.token68_len-token.ensures.value ∙ ap (prefix_len is_token68_byte) c.rest_of-rest.ensures) in
    omega (arith, token, c.if-token-gt0.false)
