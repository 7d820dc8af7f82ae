use Rattle.std.proofs.Common.{sym, subst}
use Rattle.wire_head.specs.ReadingRuns.{IsStepped}
use Rattle.wire_head.proofs.reading.step.Goals as goal

pub returns-in-InLength : goal.returns-in-InLength
returns-in-InLength c =
    subst (λ s. IsStepped c.args.method s c.args.text.now c.in_length.result) (sym c.in-InLength.is) (c.in_length.ensures c.args.method)

pub returns-in-InOpen : goal.returns-in-InOpen
returns-in-InOpen c =
    subst (λ s. IsStepped c.args.method s c.args.text.now c.in_open.result) (sym c.in-InOpen.is) (c.in_open.ensures c.args.method)

pub returns-in-InChunks : goal.returns-in-InChunks
returns-in-InChunks c =
    subst (λ s. IsStepped c.args.method s c.args.text.now c.in_chunks.result) (sym c.in-InChunks.is) (c.in_chunks.ensures c.args.method)
