use Rattle.std.proofs.Common.{sym, ap, ◌∙◌}
use Rattle.wire_head.specs.Lines as Lines
use Rattle.wire_head.proofs.LineLemmas.{one_more}
use Rattle.origin_sim.proofs.answering.head_len.Goals as goal

pub loop-i-preserved : goal.loop-i-preserved
loop-i-preserved c =
    one_more c.args.text.now c.loop-i.i c.loop-i-test.true
    (ap Lines.end_len (sym c.rest_of.ensures) ∙ sym c.end_len.ensures.value ∙ c.in_default.is)
    ∙ c.loop-i.invariant
