use Rattle.std.proofs.Common.{◌≡◌, ◌∙◌, ap, arith, is_some}
use Rattle.std.proofs.lemmas.Grind.{common_steps}
use Rattle.std.proofs.lemmas.List.Sums.{count_by_more_yes, count_by_more_no}
use Rattle.link_trait.specs.Prompts.{answer_in}
use Rattle.bench_core.proofs.prompts.given.Goals as goal

pub loop-ask-preserved : goal.loop-ask-preserved
loop-ask-preserved c =
    let (same, counted) = c.loop-ask.invariant in
    let ask = c.ask-item.result in
    let is : c.in_ok-is_given.field-0 ≡ is_some (answer_in c.args.prompter.now.answers ask.space ask.ordinal) =
    c.in_ok-is_given.ensures.given ∙ ap (λ answers. is_some (answers ask.space ask.ordinal)) same in
    (c.is_given.ensures.answers ∙ same, grind (arith, common_steps, count_by_more_yes, count_by_more_no, counted, is))
