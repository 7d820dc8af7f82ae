use Rattle.std.proofs.Common.{◌≡◌, ◌∙◌, ◌+◌, ◌∷◌, sym, ap, drop, arith}
use Rattle.std.proofs.lemmas.Grind.{common_steps}
use Rattle.std.specs.Prelude.{slice_get}
use Rattle.link_trait.specs.Repeated.{flat}
use Rattle.link_trait.proofs.AnswerLemmas.{at_repeated, behind_repeated}
use Rattle.link_trait.proofs.answers.answer_at.Goals as goal

pub returns-then-left-repeated : goal.returns-then-left-repeated
returns-then-left-repeated c =
    let answers = c.args.answers.now in
    let i = c.loop-repeated.repeated-index in
    let left = c.loop-repeated.left in
    let item = c.repeated-item.result in
    let split : drop i answers ≡ item ∷ drop (i + 1) answers = grind (arith, common_steps) in
    record {
      value = sym (at_repeated item.count left item.answer (flat (drop (i + 1) answers)) c.if-left-repeated.true)
          ∙ ap (λ rest. slice_get (flat rest) left) (sym split) ∙ c.loop-repeated.invariant;
    }

pub loop-repeated-preserved : goal.loop-repeated-preserved
loop-repeated-preserved c =
    let answers = c.args.answers.now in
    let i = c.loop-repeated.repeated-index in
    let left = c.loop-repeated.left in
    let item = c.repeated-item.result in
    let split : drop i answers ≡ item ∷ drop (i + 1) answers = grind (arith, common_steps) in
    sym (behind_repeated item.count left item.answer (flat (drop (i + 1) answers)) c.if-left-repeated.false)
    ∙ ap (λ rest. slice_get (flat rest) left) (sym split) ∙ c.loop-repeated.invariant
