use Rattle.std.proofs.Common.{◌≡◌, Some, None, ap, sym, ◌∙◌, arith}
use Rattle.auth_text.specs.Text.{folded}
use Rattle.challenge_tokens.specs.Front.{front, sized, unless_bad, after_token}
use Rattle.challenge_tokens.proofs.HeadLemmas.{form_read, no_form}
use Rattle.challenge_tokens.proofs.head.form.Goals as goal

pub returns-then-n-eq0-clause-value : goal.returns-then-n-eq0-clause-value
returns-then-n-eq0-clause-value c =
    let none : c.token_len-n.result ≡ 0 = omega arith in
    no_form c.args.text.now (sym c.token_len-n.ensures.value ∙ none)

pub returns-in-Some-clause-value : goal.returns-in-Some-clause-value
returns-in-Some-clause-value c =
    form_read c.args.text.now c.in_ok-token.token c.token_len-n.result (Some (c.in-Some.form, c.in-Some.len))
    c.token_len-n.ensures.value (omega arith) (c.in_ok-token.ensures ∙ ap folded c.front_of.ensures)
    (sym c.in-Some.is ∙ c.in_ok-form.ensures.value ∙ ap (λ t. sized (unless_bad (after_token c.in_ok-token.token (front t))) t) c.rest_of.ensures)

pub returns-in-None-clause-value : goal.returns-in-None-clause-value
returns-in-None-clause-value c =
    form_read c.args.text.now c.in_ok-token.token c.token_len-n.result None
    c.token_len-n.ensures.value (omega arith) (c.in_ok-token.ensures ∙ ap folded c.front_of.ensures)
    (sym c.in-None.is ∙ c.in_ok-form.ensures.value ∙ ap (λ t. sized (unless_bad (after_token c.in_ok-token.token (front t))) t) c.rest_of.ensures)
