use Rattle.std.proofs.Common.{Some, None, refl, ap, sym, ◌∙◌, drop}
use Rattle.std.specs.List.{prefix_len}
use Rattle.auth_text.specs.Text.{folded}
use Rattle.field_lists.specs.Blanks.{is_blank}
use Rattle.challenge_tokens.specs.Forms.{value_behind, param_of}
use Rattle.challenge_tokens.specs.Front.{front, sized}
use Rattle.challenge_tokens.proofs.ReadLemmas.{param_read}
use Rattle.challenge_tokens.proofs.ArgumentLemmas.{with_scheme, head_sized}
use Rattle.challenge_tokens.proofs.head.with_param.Goals as goal

pub returns-in_ok-name-in-Some-clause-value : goal.returns-in_ok-name-in-Some-clause-value
returns-in_ok-name-in-Some-clause-value c =
    let text = c.args.text.now in
    ap (with_scheme c.args.scheme)
    (param_read text c.in_ok-name-in-Some.name c.args.n c.blank_len-blank.result (Some (c.in-Some.value, c.in-Some.len))
    c.requires.name c.requires.some
    (c.blank_len-blank.ensures.value ∙ ap (prefix_len is_blank) c.rest_of-more.ensures)
    (c.in_ok-name-in-Some.ensures ∙ ap folded c.front_of.ensures)
    (sym c.in-Some.is ∙ c.in_ok-value.ensures.value
    ∙ ap (λ t. sized (value_behind (front t)) t) (c.rest_of.ensures ∙ ap (drop c.blank_len-blank.result) c.rest_of-more.ensures)))
    ∙ sym (head_sized c.args.scheme text (param_of (front text)))

pub returns-in-None-clause-value : goal.returns-in-None-clause-value
returns-in-None-clause-value c =
    let text = c.args.text.now in
    ap (with_scheme c.args.scheme)
    (param_read text _ c.args.n c.blank_len-blank.result None
    c.requires.name c.requires.some
    (c.blank_len-blank.ensures.value ∙ ap (prefix_len is_blank) c.rest_of-more.ensures)
    refl
    (sym c.in-None.is ∙ c.in_ok-value.ensures.value
    ∙ ap (λ t. sized (value_behind (front t)) t) (c.rest_of.ensures ∙ ap (drop c.blank_len-blank.result) c.rest_of-more.ensures)))
    ∙ sym (head_sized c.args.scheme text (param_of (front text)))
