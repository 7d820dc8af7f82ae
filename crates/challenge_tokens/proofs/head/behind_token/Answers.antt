use Rattle.std.proofs.Common.{◌≡◌, ◌<◌, Some, None, ap, sym, ◌∙◌, drop, arith}
use Rattle.std.specs.List.{prefix_len}
use Rattle.field_lists.specs.Blanks.{is_blank}
use Rattle.challenge_tokens.specs.Forms.{value_behind, argument_form}
use Rattle.challenge_tokens.specs.Front.{front, sized, starts, is_over, unless_bad}
use Rattle.challenge_tokens.proofs.HeadLemmas.{Gap, bare_read, value_found, no_space_read, blank_read, argument_read}
use Rattle.challenge_tokens.proofs.head.behind_token.Goals as goal
use Rattle.challenge_tokens.proofs.head.behind_token.Goals.{then-spaces-eq0-via-then-spaces-eq0, then-spaces-eq0-via-else-spaces-eq0+then-blank-gt0}

pub returns-then-is_over-clause-value : goal.returns-then-is_over-clause-value
returns-then-is_over-clause-value c =
    let text = c.args.text.now in
    let s = c.space_len-spaces.result in
    let h = c.blank_len-blank.result in
    let gap : Gap text s h =
    record { spaces = c.space_len-spaces.ensures.value; blanks = c.blank_len-blank.ensures.value ∙ ap (prefix_len is_blank) c.rest_of-more.ensures } in
    let behind = c.rest_of-behind.ensures ∙ ap (drop h) c.rest_of-more.ensures in
    let over = ap is_over (sym behind) ∙ sym c.is_over.ensures ∙ c.if-is_over.true in
    bare_read c.args.token text s h gap over

pub returns-in-Some-clause-value : goal.returns-in-Some-clause-value
returns-in-Some-clause-value c =
    let text = c.args.text.now in
    let s = c.space_len-spaces.result in
    let h = c.blank_len-blank.result in
    let gap : Gap text s h =
    record { spaces = c.space_len-spaces.ensures.value; blanks = c.blank_len-blank.ensures.value ∙ ap (prefix_len is_blank) c.rest_of-more.ensures } in
    let behind = c.rest_of-behind.ensures ∙ ap (drop h) c.rest_of-more.ensures in
    let over = ap is_over (sym behind) ∙ sym c.is_over.ensures ∙ c.if-is_over.false in
    let on = ap (starts 61) (sym behind) ∙ sym c.starts.ensures.value ∙ c.if-starts.true in
    value_found c.args.token text s h (Some (c.in-Some.value, c.in-Some.n)) gap over on
    (sym c.in-Some.is ∙ c.in_ok-value.ensures.value ∙ ap (λ t. sized (value_behind (front t)) t) behind)

pub returns-in-None-clause-value : goal.returns-in-None-clause-value
returns-in-None-clause-value c =
    let text = c.args.text.now in
    let s = c.space_len-spaces.result in
    let h = c.blank_len-blank.result in
    let gap : Gap text s h =
    record { spaces = c.space_len-spaces.ensures.value; blanks = c.blank_len-blank.ensures.value ∙ ap (prefix_len is_blank) c.rest_of-more.ensures } in
    let behind = c.rest_of-behind.ensures ∙ ap (drop h) c.rest_of-more.ensures in
    let over = ap is_over (sym behind) ∙ sym c.is_over.ensures ∙ c.if-is_over.false in
    let on = ap (starts 61) (sym behind) ∙ sym c.starts.ensures.value ∙ c.if-starts.true in
    value_found c.args.token text s h None gap over on
    (sym c.in-None.is ∙ c.in_ok-value.ensures.value ∙ ap (λ t. sized (value_behind (front t)) t) behind)

pub returns-then-spaces-eq0-clause-value : goal.returns-then-spaces-eq0-clause-value
returns-then-spaces-eq0-clause-value c =
    let text = c.args.text.now in
    let s = c.space_len-spaces.result in
    let h = c.blank_len-blank.result in
    let gap : Gap text s h =
    record { spaces = c.space_len-spaces.ensures.value; blanks = c.blank_len-blank.ensures.value ∙ ap (prefix_len is_blank) c.rest_of-more.ensures } in
    let behind = c.rest_of-behind.ensures ∙ ap (drop h) c.rest_of-more.ensures in
    let over = ap is_over (sym behind) ∙ sym c.is_over.ensures ∙ c.if-is_over.false in
    let off = ap (starts 61) (sym behind) ∙ sym c.starts.ensures.value ∙ c.if-starts.false in
    elim c.then-spaces-eq0.branch [
      | then-spaces-eq0-via-then-spaces-eq0 w ↦
          let none : s ≡ 0 = omega (arith, w.if-spaces-eq0.true) in
          no_space_read c.args.token text s h gap over off none
      | then-spaces-eq0-via-else-spaces-eq0+then-blank-gt0 w ↦
          let some : 0 < h = omega (arith, w.if-blank-gt0.true) in
          blank_read c.args.token text s h gap over off some
    ]

pub returns-in-Some-2-clause-value : goal.returns-in-Some-2-clause-value
returns-in-Some-2-clause-value c =
    let text = c.args.text.now in
    let s = c.space_len-spaces.result in
    let h = c.blank_len-blank.result in
    let gap : Gap text s h =
    record { spaces = c.space_len-spaces.ensures.value; blanks = c.blank_len-blank.ensures.value ∙ ap (prefix_len is_blank) c.rest_of-more.ensures } in
    let behind = c.rest_of-behind.ensures ∙ ap (drop h) c.rest_of-more.ensures in
    let over = ap is_over (sym behind) ∙ sym c.is_over.ensures ∙ c.if-is_over.false in
    let off = ap (starts 61) (sym behind) ∙ sym c.starts.ensures.value ∙ c.if-starts.false in
    let some : 0 < s = omega (arith, c.if-spaces-eq0.false) in
    argument_read c.args.token text s h (Some (c.in-Some-2.form, c.in-Some-2.n)) gap over off some
    (sym c.in-Some-2.is ∙ c.in_ok-form.ensures.value ∙ ap (λ t. sized (unless_bad (argument_form c.args.token (front t))) t) c.rest_of-more.ensures)

pub returns-in-None-2-clause-value : goal.returns-in-None-2-clause-value
returns-in-None-2-clause-value c =
    let text = c.args.text.now in
    let s = c.space_len-spaces.result in
    let h = c.blank_len-blank.result in
    let gap : Gap text s h =
    record { spaces = c.space_len-spaces.ensures.value; blanks = c.blank_len-blank.ensures.value ∙ ap (prefix_len is_blank) c.rest_of-more.ensures } in
    let behind = c.rest_of-behind.ensures ∙ ap (drop h) c.rest_of-more.ensures in
    let over = ap is_over (sym behind) ∙ sym c.is_over.ensures ∙ c.if-is_over.false in
    let off = ap (starts 61) (sym behind) ∙ sym c.starts.ensures.value ∙ c.if-starts.false in
    let some : 0 < s = omega (arith, c.if-spaces-eq0.false) in
    argument_read c.args.token text s h None gap over off some
    (sym c.in-None-2.is ∙ c.in_ok-form.ensures.value ∙ ap (λ t. sized (unless_bad (argument_form c.args.token (front t))) t) c.rest_of-more.ensures)
