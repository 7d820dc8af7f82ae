use Rattle.std.proofs.Common.{◌≡◌, refl, sym, ◌∙◌, arith}
use Rattle.field_lists.proofs.TrimLemmas.{trim_end-blank, trim_end-kept}
use Rattle.field_lists.proofs.blanks.trim_end.Goals as goal
use Rattle.field_lists.proofs.blanks.trim_end.Goals.{then-loop-n-test+else-is_blank, else-loop-n-test}

pub loop-n-preserved : goal.loop-n-preserved
loop-n-preserved c =
    let blank = sym c.is_blank.ensures ∙ c.if-is_blank.true in
    let step = trim_end-blank c.args.bytes.now c.loop-n.n (omega arith) c.loop-n.invariant.0 blank in
    (omega arith, step ∙ c.loop-n.invariant.1)

pub returns : goal.returns
returns c =
    elim c.loop-n-test.branch [
      | then-loop-n-test+else-is_blank w ↦
          let kept = sym w.is_blank.ensures ∙ w.if-is_blank.false in
          sym (trim_end-kept c.args.bytes.now c.loop-n.n (omega arith) c.loop-n.invariant.0 kept) ∙ c.loop-n.invariant.1
      | else-loop-n-test w ↦
          let none : c.loop-n.n ≡ 0 = omega arith in
          (rw none refl) ∙ (rw none at c.loop-n.invariant.1)
    ]
