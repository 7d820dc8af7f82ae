use Rattle.std.proofs.Common.{sym, arith}
use Rattle.wire_head.proofs.ChunkRuns.{byte_bad, byte_last, byte_goes, byte_goes_past, waits_small}
use Rattle.wire_head.proofs.chunk_run.byte_run.Goals as goal

pub returns-then-count-gt1048576-2-clause-run : goal.returns-then-count-gt1048576-2-clause-run
returns-then-count-gt1048576-2-clause-run c =
    byte_goes_past c.args.count c.args.size c.in-Goes.more c.args.place c.in-Goes.place c.args.text.now c.requires.within c.requires.bytes
    (sym c.in-Goes.ensures) c.if-count-gt1048576-2.true

pub overflow_add-result-in-Goes : goal.overflow_add-result-in-Goes
overflow_add-result-in-Goes c =
    let run = byte_goes c.args.count c.args.size c.in-Goes.more c.args.place c.in-Goes.place c.args.text.now c.requires.within c.requires.bytes (sym c.in-Goes.ensures) c.if-count-gt1048576-2.false in
    let came = run.2.came in
    let few = run.2.few in
    omega (arith, came, few, waits_small c.in-Goes.place run.2.fits)

pub returns-in-Bad-clause-run : goal.returns-in-Bad-clause-run
returns-in-Bad-clause-run c =
    byte_bad c.args.count c.args.size c.args.place c.args.text.now c.requires.within c.requires.bytes (sym c.in-Bad.ensures)

pub returns-else-count-gt1048576-clause-run : goal.returns-else-count-gt1048576-clause-run
returns-else-count-gt1048576-clause-run c =
    byte_last c.args.count c.args.size c.args.place c.args.text.now c.requires.within c.requires.bytes (sym c.in-Done.ensures) c.if-count-gt1048576.false

pub returns-else-count-gt1048576-2-clause-run : goal.returns-else-count-gt1048576-2-clause-run
returns-else-count-gt1048576-2-clause-run c =
    byte_goes c.args.count c.args.size c.in-Goes.more c.args.place c.in-Goes.place c.args.text.now c.requires.within c.requires.bytes
    (sym c.in-Goes.ensures) c.if-count-gt1048576-2.false
