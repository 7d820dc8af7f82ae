use Rattle.std.proofs.Common.{◌+◌, sym, ap, ◌∙◌, arith, drop, length-drop, subst}
use Rattle.std.proofs.lemmas.List.{drop-drop}
use Rattle.wire_head.specs.Steps.{IsStep}
use Rattle.wire_head.specs.Replies.{heads}
use Rattle.wire_head.proofs.ProgressLemmas.{done_step, interim_step}
use Rattle.wire_head.proofs.laws.plain.progress_of.Goals as goal

pub returns-in-Done : goal.returns-in-Done
returns-in-Done c =
    let step = subst (IsStep c.args.method c.heads.at c.rest_of.result.now) c.in-Done.is c.in_ok-progress.ensures in
    sym (done_step c.args.method c.heads.at c.rest_of.result.now c.in-Done.progress c.heads.invariant.1 step)
    ∙ ap (heads c.args.method c.heads.at 0) c.rest_of.ensures
    ∙ c.heads.invariant.2

pub heads-preserved : goal.heads-preserved
heads-preserved c =
    let method = c.args.method in
    let at = c.heads.at in
    let n = c.in-Interim.n in
    let text = c.args.text.now in
    let step = rw c.rest_of.ensures at (subst (IsStep method at c.rest_of.result.now) c.in-Interim.is c.in_ok-progress.ensures) in (
      omega (arith, length-drop at text, step.2),
      omega (arith, step.3),
      ap (heads method (at + n) 0) (sym (drop-drop n at text))
          ∙ sym (interim_step method at n (drop at text) step.0 step.1 step.2 step.4)
          ∙ c.heads.invariant.2,
    )
