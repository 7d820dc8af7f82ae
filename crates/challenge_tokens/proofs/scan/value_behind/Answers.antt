use Rattle.std.proofs.Common.{Some, None, ap, sym, ◌∙◌, drop}
use Rattle.std.specs.List.{prefix_len}
use Rattle.field_lists.specs.Blanks.{is_blank}
use Rattle.challenge_tokens.specs.Forms.{value_of}
use Rattle.challenge_tokens.specs.Front.{front, sized}
use Rattle.challenge_tokens.proofs.ReadLemmas.{no_value_behind, value_read}
use Rattle.challenge_tokens.proofs.scan.value_behind.Goals as goal

pub returns-then-not-starts-clause-value : goal.returns-then-not-starts-clause-value
returns-then-not-starts-clause-value c = sym (no_value_behind c.args.text.now (sym c.starts.ensures.value ∙ c.if-not-starts.true))

pub returns-in-Some-clause-value : goal.returns-in-Some-clause-value
returns-in-Some-clause-value c =
    value_read c.args.text.now c.blank_len-n.result (Some (c.in-Some.value, c.in-Some.len))
    (sym c.starts.ensures.value ∙ c.if-not-starts.false)
    (c.blank_len-n.ensures.value ∙ ap (prefix_len is_blank) c.rest_of-more.ensures)
    (sym c.in-Some.is ∙ c.in_ok-value.ensures.value ∙ ap (λ t. sized (value_of (front t)) t) (c.rest_of.ensures ∙ ap (drop c.blank_len-n.result) c.rest_of-more.ensures))

pub returns-in-None-clause-value : goal.returns-in-None-clause-value
returns-in-None-clause-value c =
    value_read c.args.text.now c.blank_len-n.result None
    (sym c.starts.ensures.value ∙ c.if-not-starts.false)
    (c.blank_len-n.ensures.value ∙ ap (prefix_len is_blank) c.rest_of-more.ensures)
    (sym c.in-None.is ∙ c.in_ok-value.ensures.value ∙ ap (λ t. sized (value_of (front t)) t) (c.rest_of.ensures ∙ ap (drop c.blank_len-n.result) c.rest_of-more.ensures))
