use Rattle.std.proofs.Common.{arith}
use Rattle.wire_head.proofs.ChunkRuns.{data_on}
use Rattle.wire_head.proofs.chunk_run.data_run.Goals as goal

pub returns-clause-run : goal.returns-clause-run
returns-clause-run c =
    let used = c.min-used.result in
    data_on c.args.count c.args.size c.args.left used c.args.text.now c.requires.within (omega (arith, c.min-used.ensures))
    (omega (arith, c.min-used.ensures)) (omega arith)
