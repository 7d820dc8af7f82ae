use Rattle.std.proofs.Common.{◌≡◌, IfOk, subst, sym, ◌∙◌}
use Rattle.challenge_tokens.specs.declared.field.Next.{Next}
use Rattle.challenge_tokens.proofs.SeamLemmas.{form_lower, form_next, bad_next}
use Rattle.challenge_tokens.proofs.field.next_at.Goals as goal

pub next_by-requires : goal.next_by-requires
next_by-requires c = form_lower c.args.text.now c.in-Some-2.form c.in-Some-2.n (sym c.in-Some-2.is ∙ c.in_ok-form.ensures.value)

pub returns-in-Some-2 : goal.returns-in-Some-2
returns-in-Some-2 c =
    let P = λ (x : Next). IfOk c.next_by.result (λ next. next ≡ x) in
    subst P
    (form_next c.args.reading c.args.text.now c.in-Some-2.form c.in-Some-2.n (sym c.in_default.is ∙ c.blank_piece.ensures.value)
    (sym c.in-Some-2.is ∙ c.in_ok-form.ensures.value))
    c.next_by.ensures

pub returns-in-None : goal.returns-in-None
returns-in-None c =
    bad_next c.args.reading c.args.text.now (sym c.in_default.is ∙ c.blank_piece.ensures.value) (sym c.in-None.is ∙ c.in_ok-form.ensures.value)
